-- Whether there is room for the points of readings: exactly where they have a listing of at most C points together with those that the table was made of. A table that is made of them shows
-- such a listing; and where they have one, the points stored and the points that are new are different points of it.
use mathlib.Core.Path.{◌≡◌, refl, subst}
use mathlib.Core.List.{List, [], ◌∷◌, ◌++◌, Permᴰ}
use Prim.Native.Nat.{ℕ, ◌+◌, ◌≤◌, ◌<◌}
use native.Mathlib.Omega.{arith}
use lib.IntN.{ℤ, pos, ◌+ℤ◌}
use lib.ListN.{length, get_or, take, length-map, length-append}
use lib.Signed.{◌≤ℤ◌}
use Rattle.whole.specs.Sum.{over}
use Rattle.whole.specs.Lists.{at, All, Each}
use Rattle.whole.proofs.Linear.{on, difs, ints}
use Rattle.whole.proofs.Parts.{le_out}
use Rattle.whole.proofs.Sum.{over_append}
use Rattle.lattice.specs.Limits.{most_readings}
use Rattle.lattice.specs.Lattice.{Point}
use Rattle.lattice.specs.Weight.{weight}
use Rattle.lattice.specs.Points.{Points, points}
use Rattle.lattice.proofs.Points.{exactly_these}
use Rattle.table.specs.Table.{Settings, Table, Row, keys_of, key, row, rows, whole}
use Rattle.table.specs.Reading.{Reading, share, shares, Lawful, mass_from}
use Rattle.table.specs.Pour.{news}
use Rattle.table.proofs.Lists.{all_tab, all_list, all_map, all_before, all_after}
use Rattle.table.proofs.Rows.{Apart}
use Rattle.table.proofs.Shares.{shares_apart}
use Rattle.table.proofs.Keeping.{rows_apart}
use Rattle.table.proofs.Good.{key_whole}
use Rattle.listing.specs.Listing.{listed}
use Rattle.listing.proofs.Rising.{all_perm, perm_length}
use Rattle.promises.specs.Acceptance.{FitInto}
use Rattle.promises.proofs.Building.{Built}
use Rattle.promises.proofs.Sums.{over_permᴰ}
use Rattle.promises.proofs.Sorted.{Has}
use Rattle.promises.proofs.Different.{all_counted}
use Rattle.promises.proofs.Holding.{row_from}
use Rattle.promises.proofs.Listed.{listing_from, point_in_lem}
use Rattle.promises.proofs.Order.{listed_length}

-- ---- readings that a table is made of fit into it
pub built_fits : (c : Settings) (t : Table) (rs : List Reading) → Built c t rs → FitInto c.d c.S c.C rs
built_fits c t rs B = record {
  each = B.proper;
  few = omega (arith, B.counts, B.fine.sound.few);
  listing = listed c t;
  theirs = listing_from c t rs B;
  room = omega (arith, listed_length c t, B.fine.sound.indexed.sparse.room);
}

-- ---- what readings give to a point is not less with others before or after them
weights : (d S : ℕ) (y : List ℤ) (rs : List Reading) → (n : ℕ) × (mass_from d S rs y ≡ pos n)
unfolding over
weights d S y [] = (0, refl)
weights d S y (r ∷ rs) = let (n, e) = weights d S y rs in (weight d S (at r.position) (at y) + n, rw e refl)

more_after : (a : ℤ) (n : ℕ) → pos 1 ≤ℤ a → pos 1 ≤ℤ (a +ℤ pos n)
more_after = on _ λ a b. λ n. simp difs (λ h. omega ints)

more_before : (a : ℤ) (n : ℕ) → pos 1 ≤ℤ a → pos 1 ≤ℤ (pos n +ℤ a)
more_before = on _ λ a b. λ n. simp difs (λ h. omega ints)

module _ (d S : ℕ) (y : List ℤ) (rs qs : List Reading) where
  given_after : pos 1 ≤ℤ mass_from d S rs y → pos 1 ≤ℤ mass_from d S (rs ++ qs) y
  given_after h = let (n, e) = weights d S y qs in rw (over_append rs qs (λ r. pos (weight d S (at r.position) (at y))), e) (more_after (mass_from d S rs y) n h)

  given_before : pos 1 ≤ℤ mass_from d S qs y → pos 1 ≤ℤ mass_from d S (rs ++ qs) y
  given_before h = let (n, e) = weights d S y rs in rw (over_append rs qs (λ r. pos (weight d S (at r.position) (at y))), e) (more_before (mass_from d S qs y) n h)

-- ---- what is asked of readings, without their listing: keys that have all of their points
pub record Covers (d S C : ℕ) (rs : List Reading) : Type 0 where
  pub each : All (Lawful d) rs
  pub few : length rs ≤ most_readings
  pub keys : List (List ℤ)
  pub has : (y : List ℤ) → Point d y → pos 1 ≤ℤ mass_from d S rs y → Has [] keys (take d y)
  pub room : length keys ≤ C

pub fits_covers : (d S C : ℕ) (rs : List Reading) → FitInto d S C rs → Covers d S C rs
fits_covers d S C rs F = record {
  each = F.each;
  few = F.few;
  keys = keys_of F.listing;
  has = point_in_lem d S rs F.listing F.theirs;
  room = omega (arith, length-map F.listing (λ (r : Row). r.key), F.room);
}

-- of two lists together, it is asked of each
module _ (d S C : ℕ) (rs qs : List Reading) (O : Covers d S C (rs ++ qs)) where
  pub covers_first : Covers d S C rs
  covers_first = record {
    each = all_before (Lawful d) rs qs O.each;
    few = omega (arith, O.few, length-append rs qs);
    keys = O.keys;
    has = λ y Y h. O.has y Y (given_after d S y rs qs h);
    room = O.room;
  }

  pub covers_second : Covers d S C qs
  covers_second = record {
    each = all_after (Lawful d) rs qs O.each;
    few = omega (arith, O.few, length-append rs qs);
    keys = O.keys;
    has = λ y Y h. O.has y Y (given_before d S y rs qs h);
    room = O.room;
  }

-- and of a larger capacity less
pub covers_more : (d S C K : ℕ) (rs : List Reading) → C ≤ K → Covers d S C rs → Covers d S K rs
covers_more d S C K rs h O = record { each = O.each; few = O.few; keys = O.keys; has = O.has; room = omega (arith, h, O.room) }

-- it does not depend on their order
pub covers_perm : (d S C : ℕ) (rs qs : List Reading) → Permᴰ rs qs → Covers d S C rs → Covers d S C qs
covers_perm d S C rs qs p O = record {
  each = all_perm (Lawful d) p O.each;
  few = omega (arith, O.few, perm_length p);
  keys = O.keys;
  has = λ y Y h. O.has y Y (rw (over_permᴰ (λ r. pos (weight d S (at r.position) (at y))) p) h);
  room = O.room;
}

-- ---- keys that have all points of the readings that a table is made of have those that it stores
stored_in : (c : Settings) (t : Table) (qs : List Reading) → Built c t qs → (ks : List (List ℤ))
    → ((y : List ℤ) → Point c.d y → pos 1 ≤ℤ mass_from c.d c.S qs y → Has [] ks (take c.d y)) → (i : ℕ) → i < t.m → Has [] ks (key c t i)
stored_in c t qs B ks has i l =
    let R = row_from c t qs B i l in
    let h = has (whole (key c t i)) R.point (subst (λ (z : ℤ). pos 1 ≤ℤ z) R.mass_is R.some) in
    subst (Has [] ks) (key_whole c.d (key c t i) (B.fine.sound.good i l).size) h

-- so where they have those of other readings too, there is room for rows of different points that are among them
room_for : (c : Settings) (t : Table) (qs rs : List Reading) → Built c t qs → (O : Covers c.d c.S c.C (qs ++ rs)) (new : List Row) → Each Apart new
    → All (λ r. Has [] O.keys r.key) new → t.m + news c t (keys_of new) ≤ c.C
room_for c t qs rs B O new u h =
    let stored = stored_in c t qs B O.keys (λ y Y g. O.has y Y (given_after c.d c.S y qs rs g)) in
    omega (arith, O.room, all_counted c t B.fine O.keys new stored u h)

-- ---- a reading
module _ (c : Settings) (t : Table) (qs rs : List Reading) (r : Reading) (B : Built c t qs) (O : Covers c.d c.S c.C (qs ++ (r ∷ rs))) where
  the_points : Points c.d c.S r.position (points c.d c.S r.position)
  the_points = exactly_these c.d c.S B.fine.ranged.S_least r.position

  given_own : (y : List ℤ) → 0 < weight c.d c.S (at r.position) (at y) → pos 1 ≤ℤ mass_from c.d c.S (qs ++ (r ∷ rs)) y
  unfolding over
  given_own y h = given_before c.d c.S y qs (r ∷ rs) (
      let w = pos (weight c.d c.S (at r.position) (at y)) in
      let (n, e) = weights c.d c.S y rs in
      rw e (more_after w n (le_out (pos 1) w (omega (arith, h)))))

  shares_in : All (λ (a : Row). Has [] O.keys a.key) (shares c.d c.S r)
  unfolding shares
  shares_in =
      let ps = points c.d c.S r.position in
      all_map (λ (a : Row). Has [] O.keys a.key) (share c.d c.S r) ps (all_list (λ y. Has [] O.keys (take c.d y)) ps []
      (λ i l. O.has (get_or ps i []) (the_points.point i l) (given_own (get_or ps i []) (the_points.heavy i l))))

  pub own : Lawful c.d r
  own = (all_after (Lawful c.d) qs (r ∷ rs) O.each).0

  pub room_for_reading : t.m + news c t (keys_of (shares c.d c.S r)) ≤ c.C
  room_for_reading = room_for c t qs (r ∷ rs) B O (shares c.d c.S r) (shares_apart c.d c.S B.fine.ranged.S_least r) shares_in

-- ---- a table merged in
module _ (d S C K : ℕ) (t s : Table) (qs rs : List Reading) where
  abbrev c : Settings
  c = record { d = d; S = S; C = C }

  abbrev b : Settings
  b = record { d = d; S = S; C = K }

  rows_in : Built b s rs → (O : Covers d S C (qs ++ rs)) → All (λ r. Has [] O.keys r.key) (rows b s)
  unfolding rows
  rows_in E O = all_tab (λ r. Has [] O.keys r.key) s.m (row b s) (stored_in b s rs E O.keys (λ y Y g. O.has y Y (given_before d S y qs rs g)))

  pub room_for_table : Built c t qs → Built b s rs → Covers d S C (qs ++ rs) → t.m + news c t (keys_of (rows b s)) ≤ C
  room_for_table B E O = room_for c t qs rs B O (rows b s) (rows_apart b s E.fine) (rows_in E O)
