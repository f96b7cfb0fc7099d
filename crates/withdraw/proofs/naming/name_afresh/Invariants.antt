-- After i turns the index is that of the first i points.
use mathlib.Core.Path.{◌≡◌}
use Prim.Native.Nat.{◌≤◌}
use Rattle.index.specs.Keys.{key_at}
use Rattle.book.specs.Withdraw.{afresh}
use Rattle.withdraw.proofs.naming.name_afresh.Given as goal

abbrev pub invariant-loop-i : goal.invariant-loop-i
invariant-loop-i l = (l.i ≤ l.points) × (l.index ≡ afresh l.capacity (key_at l.d l.keys) l.i)
