-- The loop has passed the coordinates before c: each is good, and their sum so far is small.
use mathlib.Core.Path.{◌≡◌}
use mathlib.Core.Bool.{true}
use Prim.Native.Nat.{◌*◌}
use Rattle.whole.specs.Size.{Abs≤}
use Rattle.whole.specs.Sum.{sum, all}
use Rattle.whole.specs.Lists.{at}
use Rattle.lattice.specs.Limits.{farthest_point}
use Rattle.soundness.specs.Inner.{good_coordinate}
use Rattle.soundness.proofs.points.good_key.Given as goal

abbrev pub invariant-loop-c : goal.invariant-loop-c
invariant-loop-c l =
    (all l.c-index (λ i. good_coordinate l.n l.remainder (at l.key i)) ≡ true) × (l.total ≡ sum l.c-index (at l.key)) × Abs≤ l.total (l.c-index * farthest_point)
