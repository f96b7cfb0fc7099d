-- The part that is lent to the search is the key of point i.
use native.Mathlib.Omega.{arith}
use native.Mathlib.Numerals.{add-one}
use mathlib.Core.Path.{◌≡◌, ap, ◌∙◌}
use Prim.Native.Nat.{ℕ, ◌+◌, ◌-◌, ◌*◌, ◌≤◌}
use lib.Dec.{eqb}
use lib.ListN.{length, take, drop}
use Rattle.index.specs.Keys.{key_at}
use Rattle.index.specs.Search.{entry_at}
use Rattle.soundness.specs.Inner.{place_of}
use Rattle.index.proofs.Equality.{key_part}
use Rattle.soundness.proofs.Seeking.{room, found_at_lem, found_in_lem}
use Rattle.soundness.proofs.places.finds.Goals as goal
use Rattle.soundness.proofs.places.finds.Goals.{After-search-p, Start}

stretch : (s : Start) → s.args.d * s.args.i + s.args.d ≤ length s.args.keys.now
stretch s = room _ _ _ _ _ s.requires

own : (s : Start) → let a = s.args in take (a.d * a.i + a.d - a.d * a.i) (drop (a.d * a.i) a.keys.now) ≡ key_at a.d a.keys.now a.i
own s = key_part s.args.d s.args.keys.now s.args.i (stretch s)

place : (c : After-search-p) → let a = c.args in c.search-p.result ≡ place_of a.d a.capacity a.keys.now a.index.now a.i
place c = found_at_lem _ _ _ _ _ c.requires (own c.before.before.before.before) c.search-p.ensures

pub offset_bounds-index-p : goal.offset_bounds-index-p
offset_bounds-index-p c = omega (arith, found_in_lem _ _ _ _ _ c.requires (place c))

pub bounds-index-p : goal.bounds-index-p
bounds-index-p c = found_in_lem _ _ _ _ _ c.requires (place (goal.at.bounds-index-p c).After-search-p)

pub returns : goal.returns
returns c =
    ap (λ (p : ℕ). eqb (entry_at c.args.index.now p) (c.args.i + 1)) (place (goal.at.returns c).After-search-p) ∙ ap (eqb _) (add-one c.args.i)
