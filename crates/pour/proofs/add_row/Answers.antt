-- The search for the row's key, then one of two calls that change the table; the laws say what they leave.
use native.Mathlib.Omega.{arith}
use Rattle.pour.proofs.Seeking.{can_search, place_in, place_read}
use Rattle.pour.proofs.Addition.{searched, appendable, added_new, to_raise, added_old}
use Rattle.pour.proofs.add_row.Goals as goal

pub search-place-requires : goal.search-place-requires
search-place-requires c = can_search _ _ _ _ c.args.key.now (searched _ _ _ c.requires) c.requires.good.size

pub offset_bounds-index-place : goal.offset_bounds-index-place
offset_bounds-index-place c =
    omega (arith, place_in _ _ _ _ c.args.key.now (searched _ _ _ c.requires) c.requires.good.size c.search-place.ensures, c.requires.ranged.C_most)

pub bounds-index-place : goal.bounds-index-place
bounds-index-place c =
    place_read _ _ _ _ c.args.key.now (searched _ _ _ c.requires) c.requires.good.size c.search-place.ensures

pub append_row-requires : goal.append_row-requires
append_row-requires c =
    appendable _ _ _ c.requires c.search-place.ensures (let z = c.if-entry-eq0.true in omega arith)

pub returns-then-entry-eq0 : goal.returns-then-entry-eq0
returns-then-entry-eq0 c =
    added_new _ _ _ c.requires c.search-place.ensures (let z = c.if-entry-eq0.true in omega arith) c.ranges.mass c.ranges.value c.append_row.ensures

pub raise_pair-requires : goal.raise_pair-requires
raise_pair-requires c =
    to_raise _ _ _ c.requires c.search-place.ensures c.from.ensures (λ y. let z = c.if-entry-eq0.false in omega arith) c.ranges.mass c.ranges.value

pub returns : goal.returns
returns c =
    added_old _ _ _ c.requires c.search-place.ensures c.from.ensures (λ y. let z = c.if-entry-eq0.false in omega arith) c.ranges.mass c.ranges.value c.raise_pair.ensures
