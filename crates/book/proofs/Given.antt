-- What readings give to a lattice point: never less than 0, more with more readings, and value sums within ±1,000,000 times the mass.
use mathlib.Core.Path.{◌≡◌, refl, sym, ap, ap₂, ◌∙◌}
use mathlib.Core.Logic.{◌⊎◌, inl, inr}
use mathlib.Core.List.{List, [], ◌∷◌, ◌++◌}
use Prim.Native.Nat.{ℕ, zero, suc, ◌<◌}
use native.Mathlib.Omega.{arith}
use lib.IntN.{ℤ, pos, neg_ℤ, zero-*ℤ, ◌+ℤ◌, ◌*ℤ◌}
use lib.Signed.{◌≤ℤ◌, ≤ℤ_refl}
use Rattle.whole.specs.Sum.{over}
use Rattle.whole.specs.Lists.{at, All}
use Rattle.whole.proofs.Linear.{on, difs, ints}
use Rattle.whole.proofs.Parts.{le_in, le_out}
use Rattle.whole.proofs.Size.{abs_lo, abs_hi}
use Rattle.whole.proofs.Sum.{over_append}
use Rattle.lattice.specs.Limits.{most_value}
use Rattle.lattice.specs.Weight.{weight}
use Rattle.table.specs.Reading.{Reading, mass_from, value_from, Lawful}
use Rattle.table.proofs.Shares.{fair_low, fair_high}

module _ (d S : ℕ) (y : List ℤ) where
  abbrev weigh : Reading → ℕ
  weigh r = weight d S (at r.position) (at y)

  pub mass_low : (rs : List Reading) → pos 0 ≤ℤ mass_from d S rs y
  unfolding over
  mass_low [] = ≤ℤ_refl (pos 0)
  mass_low (r ∷ rs) = lin (weigh r) (mass_from d S rs y) (mass_low rs)
    where
      lin : (w : ℕ) (a : ℤ) → pos 0 ≤ℤ a → pos 0 ≤ℤ (pos w +ℤ a)
      lin w = on _ λ a b. simp difs (omega ints)

  -- no mass, no value sum
  pub none_given : (rs : List Reading) → mass_from d S rs y ≡ pos 0 → value_from d S rs y ≡ pos 0
  unfolding over
  none_given [] e = refl
  none_given (r ∷ rs) e =
      let h : weigh r ≡ 0 = none (weigh r) (mass_from d S rs y) (mass_low rs) e in
      let g : mass_from d S rs y ≡ pos 0 = rest (weigh r) (mass_from d S rs y) (mass_low rs) e in
      ap₂ ◌+ℤ◌ (ap (λ (w : ℕ). pos w *ℤ r.value) h ∙ zero-*ℤ r.value) (none_given rs g)
    where
      none : (w : ℕ) (a : ℤ) → pos 0 ≤ℤ a → pos w +ℤ a ≡ pos 0 → w ≡ 0
      none w = on _ λ a b. simp difs (omega ints)

      rest : (w : ℕ) (a : ℤ) → pos 0 ≤ℤ a → pos w +ℤ a ≡ pos 0 → a ≡ pos 0
      rest w = on _ λ a b. simp difs (omega ints)

  -- a reading among others
  pub mass_with : (a : List Reading) (r : Reading) (z : List Reading) → mass_from d S (a ++ (r ∷ z)) y ≡ mass_from d S (a ++ z) y +ℤ pos (weigh r)
  unfolding over
  mass_with a r z = over_append a (r ∷ z) (λ r. pos (weigh r)) ∙ lin (mass_from d S a y) (pos (weigh r)) (mass_from d S z y)
      ∙ ap (λ (s : ℤ). s +ℤ pos (weigh r)) (sym (over_append a z (λ r. pos (weigh r))))
    where
      lin : (a b c : ℤ) → a +ℤ (b +ℤ c) ≡ a +ℤ c +ℤ b
      lin = on _ λ a b. on _ λ c d. on _ λ e f. simp difs (omega ints)

  -- one that gives some
  pub mass_some : (a : List Reading) (r : Reading) (z : List Reading) → 0 < weigh r → pos 1 ≤ℤ mass_from d S (a ++ (r ∷ z)) y
  mass_some a r z h = rw (mass_with a r z) (lin (weigh r) h (mass_from d S (a ++ z) y) (mass_low (a ++ z)))
    where
      lin : (w : ℕ) → 0 < w → (m : ℤ) → pos 0 ≤ℤ m → pos 1 ≤ℤ (m +ℤ pos w)
      lin w h = on _ λ a b. simp difs (omega ints)

  pub value_with : (a : List Reading) (r : Reading) (z : List Reading) → value_from d S (a ++ (r ∷ z)) y ≡ value_from d S (a ++ z) y +ℤ pos (weigh r) *ℤ r.value
  unfolding over
  value_with a r z = over_append a (r ∷ z) (λ r. pos (weigh r) *ℤ r.value) ∙ lin (value_from d S a y) (pos (weigh r) *ℤ r.value) (value_from d S z y)
      ∙ ap (λ (s : ℤ). s +ℤ pos (weigh r) *ℤ r.value) (sym (over_append a z (λ r. pos (weigh r) *ℤ r.value)))
    where
      lin : (a b c : ℤ) → a +ℤ (b +ℤ c) ≡ a +ℤ c +ℤ b
      lin = on _ λ a b. on _ λ c d. on _ λ e f. simp difs (omega ints)

  -- value sums of lawful readings
  pub value_low : (rs : List Reading) → All (Lawful d) rs → neg_ℤ (pos most_value *ℤ mass_from d S rs y) ≤ℤ value_from d S rs y
  unfolding over
  value_low [] h = ≤ℤ_refl (pos 0)
  value_low (r ∷ rs) h = lin (pos (weigh r)) (mass_from d S rs y) (pos (weigh r) *ℤ r.value) (value_from d S rs y) (fair_low (weigh r) r.value (abs_lo h.0.fair)) (value_low rs h.1)
    where
      lin : (a b v w : ℤ) → neg_ℤ (pos most_value *ℤ a) ≤ℤ v → neg_ℤ (pos most_value *ℤ b) ≤ℤ w → neg_ℤ (pos most_value *ℤ (a +ℤ b)) ≤ℤ (v +ℤ w)
      lin = on _ λ a b. on _ λ c d. on _ λ e f. on _ λ g h. simp difs (omega ints)

  pub value_high : (rs : List Reading) → All (Lawful d) rs → value_from d S rs y ≤ℤ (pos most_value *ℤ mass_from d S rs y)
  unfolding over
  value_high [] h = ≤ℤ_refl (pos 0)
  value_high (r ∷ rs) h = lin (pos (weigh r)) (mass_from d S rs y) (pos (weigh r) *ℤ r.value) (value_from d S rs y) (fair_high (weigh r) r.value (abs_hi h.0.fair)) (value_high rs h.1)
    where
      lin : (a b v w : ℤ) → v ≤ℤ (pos most_value *ℤ a) → w ≤ℤ (pos most_value *ℤ b) → (v +ℤ w) ≤ℤ (pos most_value *ℤ (a +ℤ b))
      lin = on _ λ a b. on _ λ c d. on _ λ e f. on _ λ g h. simp difs (omega ints)

-- a number from 0 up is 0 or at least 1
pub zero_or_more : (z : ℤ) → pos 0 ≤ℤ z → (z ≡ pos 0) ⊎ (pos 1 ≤ℤ z)
zero_or_more (pos zero) h = inl refl
zero_or_more (pos (suc n)) h = inr (le_out (pos 1) (pos (suc n)) (omega arith))
zero_or_more (lib.IntN.negsuc n) h = absurd (omega (arith, le_in (pos 0) (lib.IntN.negsuc n) h))
