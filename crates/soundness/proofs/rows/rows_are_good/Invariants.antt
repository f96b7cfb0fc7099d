-- The loop has passed the points before i: each is good and no heavier than all should be, and so much is their mass.
use mathlib.Core.Path.{◌≡◌}
use mathlib.Core.Bool.{true}
use Prim.Native.Nat.{◌*◌, ◌≤◌}
use Rattle.whole.specs.Size.{Abs≤}
use Rattle.whole.specs.Sum.{sum, all}
use Rattle.whole.specs.Lists.{at}
use Rattle.soundness.specs.Inner.{light_row}
use Rattle.soundness.proofs.rows.rows_are_good.Given as goal

abbrev pub invariant-loop-i : goal.invariant-loop-i
invariant-loop-i l =
    (l.i ≤ l.points)
    × (all l.i (light_row l.total l.d l.keys l.sums) ≡ true)
    × (l.masses ≡ sum l.i (λ j. at l.sums (2 * j)))
    × Abs≤ l.masses (l.i * 4294967295)
