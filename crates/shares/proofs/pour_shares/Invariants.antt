use mathlib.Core.Path.{◌≡◌}
use Prim.Native.Nat.{◌+◌, ◌≤◌}
use lib.ListN.{length}
use Rattle.table.specs.Heads.{settings, table_with, table}
use Rattle.table.specs.Pour.{pour}
use Rattle.shares.specs.Slots.{rows_to}
use Rattle.shares.proofs.pour_shares.Given as goal

abbrev pub invariant-loop-slot : goal.invariant-loop-slot
invariant-loop-slot l =
    (l.slot ≤ l.n) × (l.n ≡ l.head.d + 1) × (length l.keys ≡ length l.initial.keys) × (length l.sums ≡ length l.initial.sums) × (length l.index ≡ length l.initial.index)
    × (table_with l.head l.points l.keys l.sums l.index ≡ pour (settings l.head) (table l.head l.initial.keys l.initial.sums l.initial.index) (rows_to l.head.d l.simplex.weights l.simplex.coords l.value l.slot))
