-- After j turns the slots have the corners of the first j places.
use mathlib.Core.Path.{◌≡◌}
use Prim.Native.Nat.{◌+◌, ◌≤◌}
use lib.ListN.{length}
use Rattle.simplex.specs.Inner.{weights_by, coords_by}
use Rattle.simplex.proofs.enclose.Given as goal

abbrev pub invariant-loop-j : goal.invariant-loop-j
invariant-loop-j l = (l.j ≤ l.d + 1) × (length l.z ≡ 6) × (l.simplex.weights ≡ weights_by l.d l.fineness l.x l.j) × (l.simplex.coords ≡ coords_by l.d l.fineness l.x l.j)
