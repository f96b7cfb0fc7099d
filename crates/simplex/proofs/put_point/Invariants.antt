-- The point's coordinates, one a turn.
use Rattle.std.proofs.Common.{◌≡◌, ℕ, ◌<◌}
use Rattle.whole.specs.Lists.{at}
use Rattle.simplex.specs.Inner.{point_of}
use Rattle.simplex.proofs.put_point.Given as goal

abbrev pub invariant-loop-i : goal.invariant-loop-i
invariant-loop-i l = (k : ℕ) → k < l.i → at l.point k ≡ at (point_of l.n l.z l.total) k
