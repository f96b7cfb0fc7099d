-- What the place where the search ends has.
use mathlib.Core.Path.{◌≡◌, ap, ◌∙◌}
use Prim.Native.Nat.{◌*◌, ◌<◌}
use native.Mathlib.Omega.{arith}
use mir.Facts.{to_z-of_z}
use Rattle.numbers.specs.Indexing.{number_room, place_for}
use Rattle.numbers.proofs.Numbering.{place_low}
use Rattle.numbers.proofs.is_held.Goals as goal
use Rattle.numbers.proofs.is_held.Goals.{After-place_of-place}

-- where the search ended
found : (c : After-place_of-place) → c.place_of-place.result ≡ place_for c.args.numbers.now c.args.places.now c.args.number
found c = c.place_of-place.ensures ∙ ap (place_for c.args.numbers.now c.args.places.now) (to_z-of_z c.ranges.number)

low : (c : After-place_of-place) → c.place_of-place.result < 2 * number_room
low c = omega (arith, found c, place_low c.args.numbers.now c.args.places.now c.args.number)

pub offset_bounds-places-place : goal.offset_bounds-places-place
offset_bounds-places-place c = omega (arith, low c)

pub bounds-places-place : goal.bounds-places-place
bounds-places-place c = omega (arith, low (goal.at.bounds-places-place c).After-place_of-place, c.requires.places)
