-- Adding a row to a table whose points are found: it stays so, and what becomes of the number of points, of the sums over its rows and
-- of what is found.
use mathlib.Core.Path.{◌≡◌, refl, sym, ap, ap₂, ◌∙◌, subst}
use mathlib.Core.Logic.{◌⊎◌, inl, inr, ◌≢◌}
use mathlib.Core.Bool.{Bool, cond}
use mathlib.Core.List.{List, [], ◌∷◌}
use Prim.Native.Nat.{ℕ, zero, suc, ◌+◌, ◌*◌, ◌<◌}
use native.Mathlib.Nat.{eq-or-lt_of_le, le_of_suc-le-suc}
use native.Mathlib.Decide.{ℕ_discrete}
use native.Mathlib.Omega.{arith}
use lib.IntN.{ℤ, ◌+ℤ◌}
use lib.Dec.{eqb, eqb-suc-zero}
use Rattle.whole.specs.Lists.{All}
use Rattle.whole.specs.Sum.{over}
use Rattle.whole.proofs.Lists.{length_tab, get_or_tab}
use Rattle.index.specs.Indexed.{Indexed}
use Rattle.index.proofs.Finding.{search_lt, found_low, found_key, key_found, new_point_found}
use Rattle.table.specs.Table.{Settings, Table, Row, key, row, rows, entry, seek, found, keys_of}
use Rattle.table.specs.Sound.{Good}
use Rattle.table.specs.Pour.{append, raise, add_at, add, news, news_in}
use Rattle.table.specs.Inner.{Kept}
use Rattle.table.proofs.Lists.{over_snoc, over_set}
use Rattle.table.proofs.Rows.{join, Additive}
use Rattle.table.proofs.Store.{shape_append, key_old, key_new, row_old, row_new, rows_append, entry_at, entry_else, shape_raise, row_raised, row_else, rows_raise}
use Rattle.table.proofs.Good.{good_join}

-- ---- what is found in a table
module _ (c : Settings) (some : 0 < c.C) (t : Table) (K : Kept c t) where
  pub seek_lt : (k : List ℤ) → seek c t k < 2 * c.C
  seek_lt k = search_lt c.C (key c t) (entry t) some k

  pub low_found : (k : List ℤ) (i : ℕ) → found c t k ≡ suc i → i < t.m
  low_found = found_low c.C t.m (key c t) (entry t) some K.indexed.sparse

  pub has_key : (k : List ℤ) (i : ℕ) → found c t k ≡ suc i → key c t i ≡ k
  has_key = found_key c.C t.m (key c t) (entry t) some K.indexed.sparse

  pub finds_key : (k : List ℤ) (i : ℕ) → i < t.m → key c t i ≡ k → found c t k ≡ suc i
  finds_key = key_found c.C t.m (key c t) (entry t) some K.indexed

-- ---- one row more
module _ (c : Settings) (some : 0 < c.C) (t : Table) (K : Kept c t) (r : Row) (R : Good c.d r) (room : found c t r.key ≡ 0 → t.m < c.C) where
  abbrev place : ℕ
  place = seek c t r.key

  abbrev after : Table
  after = append c t place r

  kept_append : found c t r.key ≡ 0 → Kept c after
  unfolding append
  kept_append e = record {
    shape = shape_append c t place r K.shape (room e) R.size;
    indexed = new_point_found c.C t.m (key c t) (entry t) some K.indexed r.key (key c after) (entry after) e (room e)
        (key_old c t place r K.shape (room e) R.size) (key_new c t place r K.shape (room e) R.size)
        (entry_at c t place r K.shape (room e) R.size (seek_lt c some t K r.key))
        (entry_else c t place r K.shape (room e) R.size);
    good = λ i l. each i (eq-or-lt_of_le (le_of_suc-le-suc l));
  }
    where
      each : (i : ℕ) → (i ≡ t.m) ⊎ (i < t.m) → Good c.d (row c after i)
      each i (inl h) = rw h (subst (Good c.d) (sym (row_new c t place r K.shape (room e) R.size)) R)
      each i (inr l) = subst (Good c.d) (sym (row_old c t place r K.shape (room e) R.size i l)) (K.good i l)

  kept_raise : (i : ℕ) → found c t r.key ≡ suc i → Kept c (raise t i r)
  unfolding raise
  kept_raise i e =
      let l = low_found c some t K r.key i e in
      let l' : i < c.C = omega (arith, K.indexed.sparse.room) in
      record {
        shape = shape_raise c t i r K.shape l';
        indexed = K.indexed;
        good = λ j h. each l l' j h (ℕ_discrete j i);
      }
    where
      each : i < t.m → i < c.C → (j : ℕ) → j < t.m → Dec (j ≡ i) → Good c.d (row c (raise t i r) j)
      each l l' j h (yes q) = rw q (subst (Good c.d) (sym (row_raised c t i r K.shape l')) (good_join c.d (row c t i) r (K.good i l) R))
      each l l' j h (no q) = subst (Good c.d) (sym (row_else c t i r K.shape l' j q)) (K.good j h)

  -- what holds of the table after, from its two cases
  by_case : (Q : Table → Type 0) → (found c t r.key ≡ 0 → Q after) → ((i : ℕ) → found c t r.key ≡ suc i → Q (raise t i r)) → Q (add c t r)
  by_case Q f g = go (found c t r.key) refl
    where
      go : (e : ℕ) → found c t r.key ≡ e → Q (add_at c t r e)
      go zero e = f e
      go (suc i) e = g i e

  pub add_kept : Kept c (add c t r)
  add_kept = by_case (Kept c) kept_append kept_raise

  pub add_n : (add c t r).n ≡ t.n
  unfolding append raise
  add_n = by_case (λ u. u.n ≡ t.n) (λ e. refl) (λ i e. refl)

  pub add_m : (add c t r).m ≡ t.m + cond (eqb (found c t r.key) 0) 1 0
  unfolding append raise
  add_m = by_case (λ u. u.m ≡ t.m + cond (eqb (found c t r.key) 0) 1 0) (λ e. rw e (omega arith)) (λ i e. rw (e, eqb-suc-zero i) (omega arith))

  pub add_over : (f : Row → ℤ) → Additive f → over (rows c (add c t r)) f ≡ over (rows c t) f +ℤ f r
  unfolding rows
  add_over f F = by_case (λ u. over (rows c u) f ≡ over (rows c t) f +ℤ f r)
      (λ e. ap (λ (l : List Row). over l f) (rows_append c t place r K.shape (room e) R.size) ∙ over_snoc (rows c t) r f)
      raised
    where
      raised : (i : ℕ) → found c t r.key ≡ suc i → over (rows c (raise t i r)) f ≡ over (rows c t) f +ℤ f r
      raised i e =
          let l = low_found c some t K r.key i e in
          ap (λ (l : List Row). over l f) (rows_raise c t i r K.shape (omega (arith, K.indexed.sparse.room)) l)
          ∙ over_set f (rows c t) i (join (row c t i) r) r (f r) (rw (length_tab t.m (row c t)) l)
          (F (row c t i) r (has_key c some t K r.key i e) ∙ ap (λ (a : Row). f a +ℤ f r) (sym (get_or_tab t.m (row c t) i r l)))

  -- another key is found after exactly when it was before
  pub add_found : (z : List ℤ) → r.key ≢ z → eqb (found c (add c t r) z) 0 ≡ eqb (found c t z) 0
  unfolding raise append
  add_found z h = by_case (λ u. eqb (found c u z) 0 ≡ eqb (found c t z) 0) appended (λ i e. refl)
    where
      appended : found c t r.key ≡ 0 → eqb (found c after z) 0 ≡ eqb (found c t z) 0
      appended e = before (found c t z) refl (found c after z) refl
        where
          I' : Indexed c.C (suc t.m) (key c after) (entry after)
          I' = (kept_append e).indexed

          before : (a : ℕ) → found c t z ≡ a → (b : ℕ) → found c after z ≡ b → eqb b 0 ≡ eqb a 0
          before zero p zero q = refl
          before (suc i) p b q = let l = low_found c some t K z i p in
              let k = key_old c t place r K.shape (room e) R.size i l ∙ has_key c some t K z i p in
              let s : b ≡ suc i = sym q ∙ key_found c.C (suc t.m) (key c after) (entry after) some I' z i (omega arith) k in
              rw (s, eqb-suc-zero i)
          before zero p (suc i) q = absurd (other (eq-or-lt_of_le (le_of_suc-le-suc (found_low c.C (suc t.m) (key c after) (entry after) some I'.sparse z i q))))
            where
              k : key c after i ≡ z
              k = found_key c.C (suc t.m) (key c after) (entry after) some I'.sparse z i q

              other : (i ≡ t.m) ⊎ (i < t.m) → ⊥
              other (inl s) = h (sym (key_new c t place r K.shape (room e) R.size) ∙ ap (key c after) (sym s) ∙ k)
              other (inr l) = let s = finds_key c some t K z i l (sym (key_old c t place r K.shape (room e) R.size i l) ∙ k) in omega (arith, s, p)

  pub add_news : (rs : List Row) → All (λ b. r.key ≢ b.key) rs → news c (add c t r) (keys_of rs) ≡ news c t (keys_of rs)
  unfolding news_in
  add_news [] h = refl
  add_news (b ∷ rs) h = ap₂ (λ (x : Bool) (n : ℕ). cond x 1 0 + n) (add_found b.key h.0) (add_news rs h.1)
