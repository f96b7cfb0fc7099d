-- The queries before j are answered, and the others are left.
use mathlib.Core.Path.{◌≡◌}
use Prim.Native.Nat.{◌+◌, ◌/◌}
use lib.ListN.{length}
use Rattle.table.specs.Heads.{settings, table}
use Rattle.whole.proofs.Pieces.{Pieces}
use Rattle.filter.proofs.Queries.{Answered}
use Rattle.filter.proofs.reply.reply_all.Given as goal

abbrev pub invariant-loop-j : goal.invariant-loop-j
invariant-loop-j l =
    (goal.iterator-loop-j).can_next l.j-iterator × (goal.iterator-loop-j).is_finite l.j-iterator
    × (l.j-iterator.count ≡ length l.yielded) × Pieces (l.head.d + 1) (length l.queries / (l.head.d + 1)) l.queries (length l.yielded) l.j-iterator.iter
    × Answered (settings l.head) (table l.head l.keys l.sheet l.index) l.queries (length l.yielded) l.values l.codes
