-- After so many slots the sheet has their rows, and the points that are missing are counted.
use mathlib.Core.Path.{◌≡◌}
use Prim.Native.Nat.{◌+◌, ◌≤◌}
use lib.ListN.{length}
use Rattle.table.specs.Heads.{settings}
use Rattle.shares.specs.Slots.{rows_to}
use Rattle.spread.specs.Spreading.{Lifts}
use Rattle.spread.proofs.lifting.lift_shares.Given as goal

abbrev pub invariant-loop-slot : goal.invariant-loop-slot
invariant-loop-slot l =
    (l.slot ≤ l.n) × (l.n ≡ l.head.d + 1) × (length l.sheet ≡ length l.initial.sheet)
    × Lifts (settings l.head) l.keys l.index l.initial.sheet (rows_to l.head.d l.simplex.weights l.simplex.coords l.value l.slot) l.missing l.sheet
