-- The sheet is filled from the front, a new pair a turn.
use mathlib.Core.Path.{◌≡◌}
use Prim.Native.Nat.{◌≤◌}
use Rattle.table.specs.Heads.{settings, table}
use Rattle.blur.specs.Inner.{NewPairs}
use Rattle.blur.proofs.pass.pass.Given as goal

abbrev pub invariant-loop-i : goal.invariant-loop-i
invariant-loop-i l = (l.i ≤ l.m) × (l.m ≡ l.head.points) × NewPairs (settings l.head) (table l.head l.keys l.from l.index) l.k l.i l.to
