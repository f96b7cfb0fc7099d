-- The part that is lent to the search is the key of point i; the place found is one of the index, and names point i then.
use Rattle.std.proofs.Common.{◌≡◌, ◌+◌, ◌-◌, ◌*◌, ◌<◌, length, take, drop, arith, add-one, ap₂}
use lib.ListN.{set}
use Rattle.index.specs.Keys.{key_at}
use Rattle.index.proofs.Equality.{key_part}
use Rattle.withdraw.proofs.Named.{stretch_in, named_at, named_in}
use Rattle.withdraw.proofs.naming.name_point.Goals as goal
use Rattle.withdraw.proofs.naming.name_point.Goals.{Start, After-search-place}

own : (s : Start) → let a = s.args in take (a.d * a.i + a.d - a.d * a.i) (drop (a.d * a.i) a.keys.now) ≡ key_at a.d a.keys.now a.i
own s = key_part s.args.d s.args.keys.now s.args.i (stretch_in _ _ _ _ _ s.requires)

low : (c : After-search-place) → c.search-place.result < length c.args.index.now
low c = named_in _ _ _ _ _ c.requires (own (goal.at.After-search-place c).Start) c.search-place.ensures

pub offset_bounds-index-place : goal.offset_bounds-index-place
offset_bounds-index-place c = record { fits = omega (arith, low (goal.at.offset_bounds-index-place c).After-search-place) }

pub bounds-index-place : goal.bounds-index-place
bounds-index-place c = low (goal.at.bounds-index-place c).After-search-place

pub returns : goal.returns
returns c = ap₂ (set c.args.index.now) (named_at _ _ _ _ _ c.requires (own (goal.at.returns c).Start) c.search-place.ensures) (add-one c.args.i)
