-- The sorted listing of readings: the listing of a table made of them is one, it is told by the readings alone, and not by their order.
use mathlib.Core.Path.{◌≡◌, refl, sym, ap, ap₂, ◌∙◌, subst}
use mathlib.Core.List.{List, [], ◌∷◌, map, Perm}
use Prim.Native.Nat.{ℕ, zero, suc, ◌<◌}
use native.Mathlib.Omega.{arith}
use lib.Dec.{T}
use lib.IntN.{ℤ, pos, ◌*ℤ◌}
use lib.ListN.{length, take, length-map}
use lib.Signed.{◌≤ℤ◌}
use Rattle.whole.specs.Lists.{at, All}
use Rattle.whole.proofs.Lists.{length_tab, get_or_tab}
use Rattle.lattice.specs.Lattice.{Point}
use Rattle.lattice.specs.Weight.{weight}
use Rattle.table.specs.Table.{Settings, Table, Row, keys_of, key, row, whole, found}
use Rattle.table.specs.Reading.{Reading, mass_from, value_from}
use Rattle.table.proofs.Lists.{each_list, all_map, each_map}
use Rattle.table.proofs.Rows.{row_eq}
use Rattle.table.proofs.Good.{whole_size, key_whole}
use Rattle.table.proofs.Theorems.{search_finds, stored_exactly}
use Rattle.listing.specs.Order.{precedes}
use Rattle.listing.specs.Listing.{order, listed}
use Rattle.listing.proofs.KeyOrder.{before_irr, before_trans}
use Rattle.listing.proofs.Rising.{all_at, all_imp}
use Rattle.listing.proofs.Listings.{ordered_perm, order_low, order_lists}
use Rattle.promises.specs.Order.{RowFrom, ListedFrom}
use Rattle.promises.proofs.Building.{Built}
use Rattle.promises.proofs.Sums.{over_perm}
use Rattle.promises.proofs.Sorted.{Has, has_perm, one_list, map_at}
use Rattle.promises.proofs.Holding.{holds_at, row_from}

-- the key of a row, and the order of keys
abbrev key_of : Row → List ℤ
key_of r = r.key

abbrev Before : List ℤ → List ℤ → Type 0
Before k j = T (precedes k j)

-- ---- it does not depend on the order of the readings
module _ (d S : ℕ) (rs qs : List Reading) (p : Perm rs qs) where
  mass_perm : (y : List ℤ) → mass_from d S rs y ≡ mass_from d S qs y
  mass_perm y = over_perm (λ r. pos (weight d S (at r.position) (at y))) rs qs p

  value_perm : (y : List ℤ) → value_from d S rs y ≡ value_from d S qs y
  value_perm y = over_perm (λ r. pos (weight d S (at r.position) (at y)) *ℤ r.value) rs qs p

  row_perm : (r : Row) → RowFrom d S rs r → RowFrom d S qs r
  row_perm r R = record { point = R.point; mass_is = R.mass_is ∙ mass_perm (whole r.key); value_is = R.value_is ∙ value_perm (whole r.key); some = R.some }

  pub listed_perm : (l : List Row) → ListedFrom d S rs l → ListedFrom d S qs l
  listed_perm l L = record {
    each = all_imp (RowFrom d S rs) (RowFrom d S qs) l row_perm L.each;
    ascending = L.ascending;
    full = λ y Y h. L.full y Y (rw (mass_perm y) h);
  }

-- ---- there is one such list
module _ (d S : ℕ) (rs : List Reading) where
  -- a row is told by its key
  row_at : List ℤ → Row
  row_at k = record { key = k; mass = mass_from d S rs (whole k); value = value_from d S rs (whole k) }

  by_keys : (l : List Row) → All (RowFrom d S rs) l → l ≡ map row_at (keys_of l)
  unfolding row_at
  by_keys [] h = refl
  by_keys (r ∷ l) h = ap₂ ◌∷◌ (row_eq r (row_at r.key) refl h.0.mass_is h.0.value_is) (by_keys l h.1)

  -- a lattice point to which readings give weight has its key in every listing of them,
  pub point_in_lem : (m : List Row) → ListedFrom d S rs m → (y : List ℤ) → Point d y → pos 1 ≤ℤ mass_from d S rs y → Has [] (keys_of m) (take d y)
  point_in_lem m M y Y h = let (i, l, e) = M.full y Y h in (i, rw (length-map m key_of) l, e)

  -- and so has a row that they make
  pub row_in : (m : List Row) → ListedFrom d S rs m → (r : Row) → Point d (whole r.key) → pos 1 ≤ℤ mass_from d S rs (whole r.key) → Has [] (keys_of m) r.key
  row_in m M r P h =
      let size : length r.key ≡ d = omega (arith, P.size, whole_size r.key) in
      subst (Has [] (keys_of m)) (key_whole d r.key size) (point_in_lem m M (whole r.key) P h)

  made_in : (m : List Row) → ListedFrom d S rs m → (r : Row) → RowFrom d S rs r → Has [] (keys_of m) r.key
  made_in m M r R = row_in m M r R.point (subst (λ (z : ℤ). pos 1 ≤ℤ z) R.mass_is R.some)

  keys_in : (l m : List Row) → ListedFrom d S rs l → ListedFrom d S rs m → (k : List ℤ) → Has [] (keys_of l) k → Has [] (keys_of m) k
  keys_in l m L M k (i, h, e) = subst (Has [] (keys_of m)) e (all_at (Has [] (keys_of m)) (keys_of l) []
      (all_map (Has [] (keys_of m)) key_of l (all_imp (RowFrom d S rs) (λ r. Has [] (keys_of m) r.key) l (made_in m M) L.each)) i h)

  pub one_listing : (l m : List Row) → ListedFrom d S rs l → ListedFrom d S rs m → l ≡ m
  one_listing l m L M = by_keys l L.each
      ∙ ap (map row_at) (one_list [] Before before_irr before_trans (keys_of l) (keys_of m)
      (each_map Before key_of l L.ascending) (each_map Before key_of m M.ascending) (keys_in l m L M) (keys_in m l M L))
      ∙ sym (by_keys m M.each)

-- ---- the listing of a table made of readings
-- each stored point is listed
pub order_has : (c : Settings) (t : Table) (i : ℕ) → i < t.m → Has 0 (order c t) i
unfolding order
order_has c t i l = has_perm 0 (ordered_perm _ t.m (λ i. i)) i (i, omega (arith, length_tab t.m (λ i. i)), get_or_tab t.m (λ i. i) i 0 l)

module _ (c : Settings) (t : Table) (rs : List Reading) (B : Built c t rs) where
  -- a lattice point to which a reading gives weight is stored
  stored : (y : List ℤ) → Point c.d y → pos 1 ≤ℤ mass_from c.d c.S rs y → (i : ℕ) × (i < t.m) × (key c t i ≡ take c.d y)
  stored y Y h = go (found c t k) refl ((stored_exactly c t B.fine k).1 (subst (λ (p : ℤ × ℤ). pos 1 ≤ℤ p.0) (sym (holds_at c t rs B y Y)) h))
    where
      k : List ℤ
      k = take c.d y

      go : (e : ℕ) → found c t k ≡ e → 0 < found c t k → (i : ℕ) × (i < t.m) × (key c t i ≡ k)
      go zero e p = absurd (omega arith)
      go (suc i) e p = let (l, q) = (search_finds c t B.fine k i).0 e in (i, l, q)

  pub listing_from : ListedFrom c.d c.S rs (listed c t)
  unfolding listed
  listing_from = record {
    each = all_map (RowFrom c.d c.S rs) (row c t) (order c t)
        (all_imp (λ i. i < t.m) (λ i. RowFrom c.d c.S rs (row c t i)) (order c t) (row_from c t rs B) (order_low c t));
    ascending = each_map (λ a b. Before a.key b.key) (row c t) (order c t)
        (each_list (λ i j. Before (key c t i) (key c t j)) (order c t) 0 (order_lists c t B.fine).ascending);
    full = λ y Y h.
        let (i, l, e) = stored y Y h in
        let (j, k, q) = order_has c t i l in
        let k' : j < length (map (row c t) (order c t)) = rw (length-map (order c t) (row c t)) k in
        (j, k', map_at key_of (map (row c t) (order c t)) j (row c t 0) [] k' ∙ ap key_of (map_at (row c t) (order c t) j 0 (row c t 0) k) ∙ ap (key c t) q ∙ e);
  }
