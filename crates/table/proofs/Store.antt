-- What appending a point and raising a point do to the lengths, the keys, the rows and the index entries.
use mathlib.Core.Path.{◌≡◌, refl, ap, ap₂, ◌∙◌}
use mathlib.Core.Logic.{◌≢◌}
use mathlib.Core.List.{List, [], ◌∷◌, ◌++◌}
use Prim.Native.Nat.{ℕ, suc, ◌+◌, ◌*◌, ◌≤◌, ◌<◌}
use native.Mathlib.Nat.{le_refl, mul-le-mul_left}
use native.Mathlib.Omega.{arith}
use lib.IntN.{ℤ, pos, ◌+ℤ◌}
use lib.ListN.{length, set, length-set}
use lib.Seq.{get_or-set_same, get_or-set_other}
use Rattle.whole.specs.Lists.{at, tab, splice}
use Rattle.whole.proofs.Lists.{tab_cong, length_splice, get_or_splice_before, get_or_splice_in}
use Rattle.index.specs.Keys.{key_at}
use Rattle.index.proofs.Equality.{stretch_fits}
use Rattle.table.specs.Table.{Settings, Table, Row, key, mass, value, row, rows, entry}
use Rattle.table.specs.Pour.{set_pair, append, raise}
use Rattle.table.specs.Sound.{Shape}
use Rattle.table.proofs.Lists.{tab_snoc, tab_set, tab_self}
use Rattle.table.proofs.Rows.{row_eq, join}

-- ---- a key put into its stretch
module _ (d C i : ℕ) (l k : List ℤ) (size : length l ≡ d * C) (less : i < C) (fit : length k ≡ d) where
  inside : d * i + d ≤ d * C
  inside = stretch_fits d i C (d * C) less (le_refl (d * C))

  pub begins : d * i ≤ length l
  begins = omega (arith, inside)

  pub put_length : length (splice l (d * i) k) ≡ d * C
  put_length = length_splice l (d * i) k (omega (arith, inside)) ∙ size

  pub put_before : (j : ℕ) → j < i → key_at d (splice l (d * i) k) j ≡ key_at d l j
  unfolding key_at
  put_before j h = tab_cong d (λ e. at (splice l (d * i) k) (d * j + e)) (λ e. at l (d * j + e))
      (λ e g. let m : d * suc j ≤ d * i = mul-le-mul_left d h in get_or_splice_before l (d * i) k (d * j + e) (pos 0) begins (omega arith))

  pub put_key : key_at d (splice l (d * i) k) i ≡ k
  unfolding key_at
  put_key = tab_cong d (λ e. at (splice l (d * i) k) (d * i + e)) (λ e. at k e)
      (λ e g. get_or_splice_in l (d * i) k e (pos 0) begins (omega arith)) ∙ tab_self k d (pos 0) fit

-- ---- a pair of sums
module _ (l : List ℤ) (i : ℕ) (w v : ℤ) where
  pub pair_length : length (set_pair l i w v) ≡ length l
  unfolding set_pair
  pair_length = length-set (set l (2 * i) w) (2 * i + 1) v ∙ length-set l (2 * i) w

  pub pair_mass : 2 * i < length l → at (set_pair l i w v) (2 * i) ≡ w
  unfolding set_pair
  pair_mass h = get_or-set_other (set l (2 * i) w) (2 * i + 1) (2 * i) v (pos 0) (omega arith) ∙ get_or-set_same l (2 * i) w (pos 0) h

  pub pair_value : 2 * i + 1 < length l → at (set_pair l i w v) (2 * i + 1) ≡ v
  unfolding set_pair
  pair_value h = get_or-set_same (set l (2 * i) w) (2 * i + 1) v (pos 0) (rw (length-set l (2 * i) w) h)

  pub pair_else : (p : ℕ) → p ≢ 2 * i → p ≢ 2 * i + 1 → at (set_pair l i w v) p ≡ at l p
  unfolding set_pair
  pair_else p a b = get_or-set_other (set l (2 * i) w) (2 * i + 1) p v (pos 0) b ∙ get_or-set_other l (2 * i) p w (pos 0) a

-- ---- a new point
module _ (c : Settings) (t : Table) (p : ℕ) (r : Row) (H : Shape c t) (less : t.m < c.C) (fit : length r.key ≡ c.d) where
  pub shape_append : Shape c (append c t p r)
  unfolding append
  shape_append = record {
    keys = put_length c.d c.C t.m t.keys r.key H.keys less fit;
    sums = pair_length t.sums t.m r.mass r.value ∙ H.sums;
    index = length-set t.index p (suc t.m) ∙ H.index;
  }

  pub key_old : (i : ℕ) → i < t.m → key c (append c t p r) i ≡ key c t i
  unfolding append
  key_old i l = put_before c.d c.C t.m t.keys r.key H.keys less fit i l

  pub key_new : key c (append c t p r) t.m ≡ r.key
  unfolding append
  key_new = put_key c.d c.C t.m t.keys r.key H.keys less fit

  pub row_old : (i : ℕ) → i < t.m → row c (append c t p r) i ≡ row c t i
  unfolding append
  row_old i l = row_eq (row c (append c t p r) i) (row c t i) (key_old i l)
      (pair_else t.sums t.m r.mass r.value (2 * i) (omega arith) (omega arith))
      (pair_else t.sums t.m r.mass r.value (2 * i + 1) (omega arith) (omega arith))

  pub row_new : row c (append c t p r) t.m ≡ r
  unfolding append
  row_new = row_eq (row c (append c t p r) t.m) r key_new
      (pair_mass t.sums t.m r.mass r.value (omega (arith, H.sums)))
      (pair_value t.sums t.m r.mass r.value (omega (arith, H.sums)))

  pub rows_append : rows c (append c t p r) ≡ rows c t ++ (r ∷ [])
  unfolding rows append
  rows_append = tab_snoc t.m (row c (append c t p r))
      ∙ ap₂ (λ (l : List Row) (a : Row). l ++ (a ∷ [])) (tab_cong t.m (row c (append c t p r)) (row c t) row_old) row_new

  pub entry_at : p < 2 * c.C → entry (append c t p r) p ≡ suc t.m
  unfolding append
  entry_at h = get_or-set_same t.index p (suc t.m) 0 (rw H.index h)

  pub entry_else : (q : ℕ) → q ≢ p → entry (append c t p r) q ≡ entry t q
  unfolding append
  entry_else q h = get_or-set_other t.index p q (suc t.m) 0 h

-- ---- more at a point
module _ (c : Settings) (t : Table) (i : ℕ) (r : Row) (H : Shape c t) (less : i < c.C) where
  pub shape_raise : Shape c (raise t i r)
  unfolding raise
  shape_raise = record { keys = H.keys; sums = pair_length t.sums i (mass t i +ℤ r.mass) (value t i +ℤ r.value) ∙ H.sums; index = H.index }

  pub row_raised : row c (raise t i r) i ≡ join (row c t i) r
  unfolding raise
  row_raised = row_eq (row c (raise t i r) i) (join (row c t i) r) refl
      (pair_mass t.sums i (mass t i +ℤ r.mass) (value t i +ℤ r.value) (omega (arith, H.sums)))
      (pair_value t.sums i (mass t i +ℤ r.mass) (value t i +ℤ r.value) (omega (arith, H.sums)))

  pub row_else : (j : ℕ) → j ≢ i → row c (raise t i r) j ≡ row c t j
  unfolding raise
  row_else j h = row_eq (row c (raise t i r) j) (row c t j) refl
      (pair_else t.sums i (mass t i +ℤ r.mass) (value t i +ℤ r.value) (2 * j) (omega arith) (omega arith))
      (pair_else t.sums i (mass t i +ℤ r.mass) (value t i +ℤ r.value) (2 * j + 1) (omega arith) (omega arith))

  pub rows_raise : i < t.m → rows c (raise t i r) ≡ set (rows c t) i (join (row c t i) r)
  unfolding rows raise
  rows_raise l = tab_set t.m (row c t) (row c (raise t i r)) i l row_else ∙ ap (λ (a : Row). set (tab t.m (row c t)) i a) row_raised
