-- The loop has passed the coordinates before this one, all of them near.
use mathlib.Core.Path.{◌≡◌}
use mathlib.Core.Bool.{true}
use lib.IntN.{nat_abs}
use lib.Dec.{leb}
use Rattle.whole.specs.Sum.{all}
use Rattle.whole.specs.Lists.{at}
use Rattle.lattice.specs.Limits.{farthest}
use Rattle.lattice.proofs.position.all_near.Given as goal

abbrev pub invariant-loop-c : goal.invariant-loop-c
invariant-loop-c l = all l.c-index (λ t. leb (nat_abs (at l.x t)) farthest) ≡ true
