-- The sum so far; i numbers of 32 bits stay within i times 2^31.
use Prim.Native.Nat.{◌*◌}
use mathlib.Core.Path.{◌≡◌}
use Rattle.whole.specs.Size.{Abs≤}
use Rattle.whole.specs.Sum.{sum}
use Rattle.whole.specs.Lists.{at}
use Rattle.lattice.proofs.position.coordinate_sum.Given as goal

abbrev pub invariant-loop-c : goal.invariant-loop-c
invariant-loop-c l = (l.total ≡ sum l.c-index (at l.x)) × Abs≤ l.total (l.c-index * 2147483648)
