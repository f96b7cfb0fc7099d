-- After so many entries the sheet has their readings' shares, and the points that are missing are counted.
use Rattle.std.proofs.Common.{◌≡◌, length}
use Rattle.table.specs.Heads.{settings}
use Rattle.spread.specs.Spreading.{Lifts}
use Rattle.spread.specs.Inner.{shares_to}
use Rattle.whole.proofs.Pieces.{Pieces}
use Rattle.spread.proofs.spread_book.Given as goal

abbrev pub invariant-loop-entry : goal.invariant-loop-entry
invariant-loop-entry l =
    (goal.iterator-loop-entry).can_next l.entry-iterator × (goal.iterator-loop-entry).is_finite l.entry-iterator
    × Pieces l.width l.head.readings l.book (length l.yielded) l.entry-iterator × (length l.sheet ≡ length l.initial.sheet)
    × Lifts (settings l.head) l.keys l.index l.initial.sheet (shares_to l.head.d l.head.fineness l.book (length l.yielded)) l.missing l.sheet
