-- After so many slots their points are gone where they had to.
use mathlib.Core.Path.{◌≡◌}
use Prim.Native.Nat.{◌+◌, ◌≤◌}
use Rattle.table.specs.Heads.{settings}
use Rattle.shares.specs.Slots.{keys_to}
use Rattle.withdraw.specs.Inner.{unindexed, leave_keys}
use Rattle.withdraw.proofs.leaving.leave_all.Given as goal

abbrev pub invariant-loop-slot : goal.invariant-loop-slot
invariant-loop-slot l = (l.slot ≤ l.n) × (l.n ≡ l.head.d + 1)
    × (unindexed l.points l.keys l.sums ≡ leave_keys (settings l.head) (unindexed l.head.points l.initial.keys l.initial.sums) (keys_to l.head.d l.simplex.weights l.simplex.coords l.slot))
