-- The search for the row's key, then nothing or one store.
use mathlib.Core.Path.{sym}
use native.Mathlib.Omega.{arith}
use Rattle.table.specs.Table.{Row}
use Rattle.table.specs.Heads.{settings}
use Rattle.pour.proofs.Seeking.{place_in, place_read}
use Rattle.spread.proofs.OneRow.{not_lifted, lifted}
use Rattle.spread.proofs.lifting.lift_row.Goals as goal
use Rattle.spread.proofs.lifting.lift_row.Goals.{Start}

abbrev the : Start → Row
the s = record { key = s.args.key.now; mass = s.args.mass; value = s.args.value }

pub offset_bounds-index-place : goal.offset_bounds-index-place
offset_bounds-index-place c =
    omega (arith, place_in _ _ _ _ c.args.key.now c.requires.ready.searchable c.requires.size c.search-place.ensures, c.requires.ready.searchable.small)

pub bounds-index-place : goal.bounds-index-place
bounds-index-place c =
    place_read _ _ _ _ c.args.key.now c.requires.ready.searchable c.requires.size c.search-place.ensures

pub returns-then-entry-eq0 : goal.returns-then-entry-eq0
returns-then-entry-eq0 c =
    not_lifted (settings c.args.head) _ _ _ (the (goal.at.returns-then-entry-eq0 c).Start) c.requires c.search-place.ensures (let z = c.if-entry-eq0.true in omega arith)

pub returns : goal.returns
returns c =
    lifted (settings c.args.head) _ _ _ (the (goal.at.returns c).Start) c.requires c.search-place.ensures (λ y. let z = c.if-entry-eq0.false in omega arith) c.ranges.mass c.ranges.value (rw (sym c.from.ensures) c.raise_pair.ensures)
