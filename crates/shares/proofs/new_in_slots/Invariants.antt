use mathlib.Core.Path.{◌≡◌}
use Prim.Native.Nat.{◌+◌, ◌≤◌}
use Rattle.table.specs.Heads.{settings}
use Rattle.table.specs.Pour.{news_in}
use Rattle.shares.specs.Slots.{keys_to}
use Rattle.shares.proofs.new_in_slots.Given as goal

abbrev pub invariant-loop-slot : goal.invariant-loop-slot
invariant-loop-slot l = (l.slot ≤ l.n) × (l.n ≡ l.head.d + 1) × (l.count ≤ l.slot) × (l.count ≡ news_in (settings l.head) l.keys l.index (keys_to l.head.d l.simplex.weights l.simplex.coords l.slot))
