-- A work sheet by place: the pairs of the stored points in stored order, then 0. A table with a sheet in place of its sums has the sheet's
-- numbers as its map.
use mathlib.Core.Path.{◌≡◌, refl, sym, ap, ◌∙◌, subst}
use mathlib.Core.Logic.{◌⊎◌, inl, inr}
use mathlib.Core.Bool.{false}
use mathlib.Core.List.{List, [], ◌∷◌, ◌++◌}
use Prim.Native.Nat.{ℕ, zero, suc, ◌+◌, ◌*◌, ◌-◌, ◌/◌, ◌%◌, ◌<◌, ◌≤◌}
use native.Mathlib.Nat.{not-suc-le-zero, le_of_suc-le-suc, eq-or-lt_of_le}
use native.Mathlib.Decide.{dec_lt, dec_le}
use native.Mathlib.Omega.{arith}
use lib.Dec.{ltb}
use lib.IntN.{ℤ, pos}
use lib.ListN.{length, replicate, length-append, length-replicate, get_or-append}
use lib.Seq.{get_or-append-add, ext_get_or}
use Rattle.whole.specs.Lists.{at, collect}
use Rattle.whole.proofs.Lists.{zeros}
use Rattle.index.proofs.Finding.{finds_exactly}
use Rattle.table.specs.Table.{Settings, Table, key, entry, found, pair_at, held}
use Rattle.table.proofs.Rows.{pair_path}
use Rattle.blur.specs.Blur.{is_stored}
use Rattle.blur.specs.Sheet.{sheet, with_sums}
use Rattle.blur.specs.Inner.{Readable}

-- ---- pairs one after the other
pairs_length : (n : ℕ) (f g : ℕ → ℤ) → length (collect n (λ i. f i ∷ g i ∷ [])) ≡ 2 * n
unfolding collect
pairs_length zero f g = refl
pairs_length (suc n) f g = length-append (collect n (λ i. f i ∷ g i ∷ [])) (f n ∷ g n ∷ []) ∙ omega (arith, pairs_length n f g)

-- past a list of n numbers
past : (l r : List ℤ) (n i j : ℕ) → length l ≡ n → j ≡ n + i → at (l ++ r) j ≡ at r i
past l r n i j e q = rw (q, ← e) (get_or-append-add l r i (pos 0))

pairs_mass : (n : ℕ) (f g : ℕ → ℤ) (i : ℕ) → i < n → at (collect n (λ i. f i ∷ g i ∷ [])) (2 * i) ≡ f i
unfolding collect
pairs_mass zero f g i l = absurd (not-suc-le-zero l)
pairs_mass (suc n) f g i l = go (eq-or-lt_of_le (le_of_suc-le-suc l)) (pairs_mass n f g i)
  where
    go : (i ≡ n) ⊎ (i < n) → (i < n → at (collect n (λ i. f i ∷ g i ∷ [])) (2 * i) ≡ f i) → at (collect n (λ i. f i ∷ g i ∷ []) ++ (f n ∷ g n ∷ [])) (2 * i) ≡ f i
    go (inl e) ih = past (collect n (λ i. f i ∷ g i ∷ [])) (f n ∷ g n ∷ []) (2 * n) 0 (2 * i) (pairs_length n f g) (omega arith) ∙ ap f (sym e)
    go (inr h) ih = get_or-append (collect n (λ i. f i ∷ g i ∷ [])) (f n ∷ g n ∷ []) (pos 0) (2 * i) (omega (arith, pairs_length n f g)) ∙ ih h

pairs_value : (n : ℕ) (f g : ℕ → ℤ) (i : ℕ) → i < n → at (collect n (λ i. f i ∷ g i ∷ [])) (2 * i + 1) ≡ g i
unfolding collect
pairs_value zero f g i l = absurd (not-suc-le-zero l)
pairs_value (suc n) f g i l = go (eq-or-lt_of_le (le_of_suc-le-suc l)) (pairs_value n f g i)
  where
    go : (i ≡ n) ⊎ (i < n) → (i < n → at (collect n (λ i. f i ∷ g i ∷ [])) (2 * i + 1) ≡ g i) → at (collect n (λ i. f i ∷ g i ∷ []) ++ (f n ∷ g n ∷ [])) (2 * i + 1) ≡ g i
    go (inl e) ih = past (collect n (λ i. f i ∷ g i ∷ [])) (f n ∷ g n ∷ []) (2 * n) 1 (2 * i + 1) (pairs_length n f g) (omega arith) ∙ ap g (sym e)
    go (inr h) ih = get_or-append (collect n (λ i. f i ∷ g i ∷ [])) (f n ∷ g n ∷ []) (pos 0) (2 * i + 1) (omega (arith, pairs_length n f g)) ∙ ih h

-- what holds at the two places of each of m pairs and at every place past them holds at every place
pub each_place : (Q : ℕ → Type 0) (m : ℕ) → ((i : ℕ) → i < m → Q (2 * i)) → ((i : ℕ) → i < m → Q (2 * i + 1)) → ((j : ℕ) → 2 * m ≤ j → Q j) → (j : ℕ) → Q j
each_place Q m mass value rest j = go (dec_le (2 * m) j) (dec_lt 0 (j % 2))
  where
    go : Dec (2 * m ≤ j) → Dec (0 < j % 2) → Q j
    go (yes h) p = rest j h
    go (no h) (yes p) = let q : 2 * (j / 2) + 1 ≡ j = omega arith in subst Q q (value (j / 2) (omega arith))
    go (no h) (no p) = let q : 2 * (j / 2) ≡ j = omega arith in subst Q q (mass (j / 2) (omega arith))

-- ---- the sheet of f and g, place by place
module _ (c : Settings) (t : Table) (f g : List ℤ → ℤ) where
  abbrev mass_at : ℕ → ℤ
  mass_at i = f (key c t i)

  abbrev value_at : ℕ → ℤ
  value_at i = g (key c t i)

  pub sheet_length : t.m ≤ c.C → length (sheet c t f g) ≡ 2 * c.C
  unfolding sheet
  sheet_length h = let z = replicate (2 * c.C - 2 * t.m) (pos 0) in
      length-append (collect t.m (λ i. mass_at i ∷ value_at i ∷ [])) z ∙ omega (arith, pairs_length t.m mass_at value_at, length-replicate (2 * c.C - 2 * t.m) (pos 0))

  pub sheet_mass : (i : ℕ) → i < t.m → at (sheet c t f g) (2 * i) ≡ f (key c t i)
  unfolding sheet
  sheet_mass i l = get_or-append (collect t.m (λ i. mass_at i ∷ value_at i ∷ [])) (replicate (2 * c.C - 2 * t.m) (pos 0)) (pos 0) (2 * i)
      (omega (arith, pairs_length t.m mass_at value_at)) ∙ pairs_mass t.m mass_at value_at i l

  pub sheet_value : (i : ℕ) → i < t.m → at (sheet c t f g) (2 * i + 1) ≡ g (key c t i)
  unfolding sheet
  sheet_value i l = get_or-append (collect t.m (λ i. mass_at i ∷ value_at i ∷ [])) (replicate (2 * c.C - 2 * t.m) (pos 0)) (pos 0) (2 * i + 1)
      (omega (arith, pairs_length t.m mass_at value_at)) ∙ pairs_value t.m mass_at value_at i l

  pub sheet_rest : (j : ℕ) → 2 * t.m ≤ j → at (sheet c t f g) j ≡ pos 0
  unfolding sheet
  sheet_rest j h = past (collect t.m (λ i. mass_at i ∷ value_at i ∷ [])) (replicate (2 * c.C - 2 * t.m) (pos 0)) (2 * t.m) (j - 2 * t.m) j
      (pairs_length t.m mass_at value_at) (omega arith) ∙ zeros (2 * c.C - 2 * t.m) (j - 2 * t.m)

  -- a list with these pairs and 0 past them is the sheet
  pub sheet_is : (l : List ℤ) → t.m ≤ c.C → length l ≡ 2 * c.C → ((i : ℕ) → i < t.m → at l (2 * i) ≡ f (key c t i))
      → ((i : ℕ) → i < t.m → at l (2 * i + 1) ≡ g (key c t i)) → ((j : ℕ) → 2 * t.m ≤ j → at l j ≡ pos 0) → l ≡ sheet c t f g
  sheet_is l room e mass value rest = ext_get_or (pos 0) l (sheet c t f g) (e ∙ sym (sheet_length room)) (λ j h. each_place (λ j. at l j ≡ at (sheet c t f g) j) t.m
      (λ i h. mass i h ∙ sym (sheet_mass i h)) (λ i h. value i h ∙ sym (sheet_value i h)) (λ j h. rest j h ∙ sym (sheet_rest j h)) j)

-- the table with the sheet in place of its sums has f and g as its map, where these are 0 off the stored points
pub sheet_held : (c : Settings) (t : Table) → Readable c t → (f g : List ℤ → ℤ) → ((y : List ℤ) → is_stored c t y ≡ false → f y ≡ pos 0) → ((y : List ℤ) → is_stored c t y ≡ false → g y ≡ pos 0)
    → (y : List ℤ) → held c (with_sums t (sheet c t f g)) y ≡ (f y, g y)
sheet_held c t R f g F G y = go (found c t y) refl
  where
    go : (e : ℕ) → found c t y ≡ e → pair_at (sheet c t f g) e ≡ (f y, g y)
    go zero e = let off = ap (ltb 0) e in pair_path (pos 0) (pos 0) (f y) (g y) (sym (F y off)) (sym (G y off))
    go (suc i) e = let (l, k) = (finds_exactly c.C t.m (key c t) (entry t) R.ranged.C_least R.indexed y i).0 e in
        pair_path (at (sheet c t f g) (2 * i)) (at (sheet c t f g) (2 * i + 1)) (f y) (g y) (sheet_mass c t f g i l ∙ ap f k) (sheet_value c t f g i l ∙ ap g k)
