use Prim.Native.Nat.{◌-◌}
use lib.ListN.{length}
use Rattle.table.specs.Heads.{settings, table}
use Rattle.report.proofs.Replies.{Replying}
use Rattle.report.proofs.answers.put_replies.Given as goal

abbrev pub invariant-loop-kind : goal.invariant-loop-kind
invariant-loop-kind l = Replying (settings l.head) (table l.head l.keys l.sheet l.index) l.log l.initial.out l.at l.next l.out l.offset

abbrev pub decreases-loop-kind : goal.decreases-loop-kind
decreases-loop-kind l = length l.log - l.offset
