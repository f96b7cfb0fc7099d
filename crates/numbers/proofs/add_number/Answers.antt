-- A number sought: it is among them, or it takes the next entry and the empty place.
use mathlib.Core.Path.{◌≡◌, ap, ◌∙◌}
use Prim.Native.Nat.{◌*◌, ◌<◌}
use native.Mathlib.Omega.{arith}
use mir.Facts.{to_z-of_z}
use Rattle.numbers.specs.Indexing.{number_room, place_for}
use Rattle.numbers.proofs.Numbering.{can_search, place_in, added, not_added}
use Rattle.numbers.proofs.add_number.Goals as goal
use Rattle.numbers.proofs.add_number.Goals.{After-place_of-place}

pub place_of-place-requires : goal.place_of-place-requires
place_of-place-requires c = can_search _ _ _ c.requires.number_index

-- where the search ended
found : (c : After-place_of-place) → c.place_of-place.result ≡ place_for c.args.numbers.now c.args.places.now c.args.number
found c = c.place_of-place.ensures ∙ ap (place_for c.args.numbers.now c.args.places.now) (to_z-of_z c.ranges.number)

low : (c : After-place_of-place) → c.place_of-place.result < 2 * number_room
low c = place_in _ _ _ c.requires.number_index c.args.number (found c)

pub offset_bounds-places-place : goal.offset_bounds-places-place
offset_bounds-places-place c = omega (arith, low c)

pub bounds-places-place : goal.bounds-places-place
bounds-places-place c = omega (arith, low (goal.at.bounds-places-place c).After-place_of-place, c.requires.number_index.places_size)

pub returns-then-entry-ne0 : goal.returns-then-entry-ne0
returns-then-entry-ne0 c =
    not_added _ _ _ c.requires.number_index c.args.number (found (goal.at.returns-then-entry-ne0 c).After-place_of-place) (λ y. let z = c.if-entry-ne0.true in omega (arith, y))

pub offset_bounds-places-place-2 : goal.offset_bounds-places-place-2
offset_bounds-places-place-2 c = omega (arith, low (goal.at.offset_bounds-places-place-2 c).After-place_of-place)

pub bounds-places-place-2 : goal.bounds-places-place-2
bounds-places-place-2 c = omega (arith, low (goal.at.bounds-places-place-2 c).After-place_of-place, c.requires.number_index.places_size)

pub returns : goal.returns
returns c =
    added _ _ _ c.requires.number_index c.args.number (found (goal.at.returns c).After-place_of-place) c.requires.count_lt_most_readings (let z = c.if-entry-ne0.false in omega arith) (to_z-of_z c.ranges.number)
