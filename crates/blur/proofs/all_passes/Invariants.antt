-- After k turns the first sheet is the one after k passes.
use mathlib.Core.Path.{◌≡◌}
use Prim.Native.Nat.{◌+◌, ◌≤◌}
use lib.ListN.{length}
use Rattle.table.specs.Heads.{settings, table}
use Rattle.blur.specs.Sheet.{sheet_after}
use Rattle.blur.proofs.all_passes.Given as goal

abbrev pub invariant-loop-k : goal.invariant-loop-k
invariant-loop-k l =
    (l.k ≤ l.n) × (l.n ≡ l.head.d + 1) × (length l.first ≡ length l.initial.first) × (length l.second ≡ length l.initial.second) × (l.first ≡ sheet_after (settings l.head) (table l.head l.keys l.initial.first l.index) l.k)
