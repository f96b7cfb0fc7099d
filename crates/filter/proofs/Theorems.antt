-- The statements of specs/Theorems.antt, proved; those on the values entered stand in Between.antt.
use mathlib.Core.Path.{◌≡◌, refl, sym, ap, ap₂, ◌∙◌, subst, fun_ext}
use mathlib.Core.Logic.{◌⊎◌, inl, inr, ⊎_elim}
use mathlib.Core.Bool.{Bool, true, false, not, cond}
use mathlib.Core.List.{List}
use Prim.Native.Nat.{ℕ, suc, ◌*◌, ◌<◌}
use native.Mathlib.Decide.{ℕ_discrete}
use native.Mathlib.Omega.{arith}
use lib.IntN.{ℤ, pos, nat_abs, ◌*ℤ◌}
use lib.Signed.{◌≤ℤ◌, ◌<ℤ◌}
use Rattle.whole.specs.Size.{Abs≤}
use Rattle.whole.specs.Rounding.{rounded, most_fraction}
use Rattle.whole.specs.Sum.{sum}
use Rattle.whole.proofs.Linear.{on, difs, ints}
use Rattle.whole.proofs.Parts.{nat_abs_is, le_in, le_out, eq_in}
use Rattle.whole.proofs.Signed.{abs_pos}
use Rattle.whole.proofs.Ring.{*-one, *-comm, le_trans, mul_mono, le_or_lt}
use Rattle.whole.proofs.Rounding.{rounded_between}
use Rattle.whole.proofs.Sum.{sum_zero, sum_tight}
use Rattle.whole.proofs.Tests.{T_false}
use Rattle.lattice.specs.Limits.{most_W}
use Rattle.lattice.specs.Refusals.{first, no_point_met}
use Rattle.lattice.specs.Points.{weighed}
use Rattle.lattice.specs.Position.{Judged, judged}
use Rattle.lattice.proofs.Judging.{judged_right}
use Rattle.index.specs.Keys.{eq_z}
use Rattle.index.proofs.Equality.{eq_z_eq}
use Rattle.table.specs.Table.{Settings, Table, key, held}
use Rattle.table.specs.Sound.{Fine}
use Rattle.blur.specs.Blur.{mass_after, value_after, blurred_mass, blurred_value}
use Rattle.blur.specs.Inner.{most_blurred}
use Rattle.blur.specs.Theorems.{Between}
use Rattle.blur.proofs.Theorems.{mass_off, value_off, after_between, blur_of_map}
use Rattle.filter.specs.Answer.{weight_of, weighted, meets, code_by, beside, value_by, code, answer}
use Rattle.filter.specs.Inner.{ones, weighed_over}
use Rattle.filter.specs.Theorems.{Coded, CodedRight, NeverEleven, AnswerBetween, AnswersFit, AnswerOfMap}
use Rattle.filter.proofs.Weighing.{weighted_over, meets_ones, weights_light}
use Rattle.filter.proofs.Bounds.{weighed_low, weighed_high, weighed_small}
use Rattle.filter.proofs.Answers.{blurred_small, mapped, blurred_some}
use Rattle.filter.proofs.Coding.{by_position, by_points, judged_small, met_one, met_none}

-- ---- the mass sum of a query
module _ (c : Settings) (t : Table) (q : List ℤ) where
  -- where the numbers of stored points are above 0 and one is met, the weighted ones have a sum above 0
  weighted_above : (f : List ℤ → ℤ) → ((i : ℕ) → i < t.m → pos 1 ≤ℤ f (key c t i)) → meets c t q ≡ true → pos 1 ≤ℤ weighted c t f q
  unfolding weighted
  weighted_above f h met = ⊎_elim (λ l. l) (λ l. absurd (too_few l)) (le_or_lt (pos 1) (sum t.m term))
    where
      term : ℕ → ℤ
      term i = pos (weight_of c t q i) *ℤ f (key c t i)

      heavy : (i : ℕ) → i < t.m → pos (weight_of c t q i) ≤ℤ term i
      heavy i l = subst (λ (z : ℤ). z ≤ℤ term i) (*-comm (pos (weight_of c t q i)) (pos 1) ∙ *-one (pos (weight_of c t q i))) (mul_mono (weight_of c t q i) (h i l))

      lin : (a : ℤ) → a <ℤ pos 1 → a ≤ℤ pos 0
      lin = on _ λ a b. simp difs (omega ints)

      too_few : sum t.m term <ℤ pos 1 → ⊥
      too_few k =
          let (i, l, w) = met_one c t q met in
          let e = sum_tight t.m (λ i. pos 0) term (λ i l. le_trans (le_out (pos 0) (pos (weight_of c t q i)) (omega arith)) (heavy i l))
          (rw (sum_zero t.m) (lin (sum t.m term) k)) i l in
          omega (arith, w, le_in (pos (weight_of c t q i)) (term i) (heavy i l), eq_in (pos 0) (term i) e)

  -- so it is with the blurred masses of a sound table
  pub mass_sum_above : Fine c t → meets c t q ≡ true → pos 1 ≤ℤ weighted c t (blurred_mass c t) q
  mass_sum_above U = weighted_above (blurred_mass c t) (blurred_some c t U)

-- ---- the code of a query on a sound table
-- it is the position's, or 0 where a stored point is met, or 10
abbrev CodeCases : Settings → Table → List ℤ → Type 0
CodeCases c t q = ((judged q ≡ 0 → ⊥) × (code c t q ≡ judged q)) ⊎ ((judged q ≡ 0) × (((meets c t q ≡ true) × (code c t q ≡ 0)) ⊎ ((meets c t q ≡ false) × (code c t q ≡ no_point_met))))

code_cases : (c : Settings) (t : Table) → Fine c t → (q : List ℤ) → CodeCases c t q
unfolding first
code_cases c t U q = go (ℕ_discrete (judged q) 0) (meets c t q) refl
  where
    mass : ℤ
    mass = weighted c t (blurred_mass c t) q

    some : meets c t q ≡ true → not (eq_z mass (pos 0)) ≡ true
    some m = rw (T_false (eq_z mass (pos 0)) (λ z. omega (arith, le_in (pos 1) mass (mass_sum_above c t q U m), eq_in mass (pos 0) (eq_z_eq mass (pos 0) z)))) refl

    go : Dec (judged q ≡ 0) → (b : Bool) → meets c t q ≡ b → CodeCases c t q
    go (no h) b m = inl (h, by_position c t (blurred_mass c t) q h)
    go (yes j) true m = inr (j, inl (m, by_points c t (blurred_mass c t) q j ∙ rw (m, some m) refl))
    go (yes j) false m = inr (j, inr (m, by_points c t (blurred_mass c t) q j ∙ rw m refl))

pub never_eleven : NeverEleven
never_eleven c t U q e = go (code_cases c t U q)
  where
    go : CodeCases c t q → ⊥
    go (inl (h, k)) = omega (arith, e, k, judged_small q)
    go (inr (j, inl (m, k))) = omega (arith, e, k)
    go (inr (j, inr (m, k))) = omega (arith, e, k)

pub coded_right : CodedRight
coded_right c t U q size = go (code_cases c t U q)
  where
    J : Judged c.d q
    J = judged_right c.d q size

    go : CodeCases c t q → Coded c t q
    go (inl (h, k)) = record {
      four = (λ e. sym k ∙ e, λ e. k ∙ e);
      five = (λ e. sym k ∙ e, λ e. k ∙ e);
      ten = (λ e. absurd (omega (arith, e, k, judged_small q)), λ p. absurd (h (J.none.1 p.0)));
      none = (λ e. absurd (h (sym k ∙ e)), λ p. absurd (h (J.none.1 p.0)));
    }
    go (inr (j, inl (m, k))) = record {
      four = (λ e. absurd (omega (arith, e, k)), λ e. absurd (omega (arith, e, j)));
      five = (λ e. absurd (omega (arith, e, k)), λ e. absurd (omega (arith, e, j)));
      ten = (λ e. absurd (omega (arith, e, k)), λ p. let (i, l, w) = met_one c t q m in absurd (omega (arith, w, p.1 i l)));
      none = (λ e. (J.none.0 j, met_one c t q m), λ p. k);
    }
    go (inr (j, inr (m, k))) = record {
      four = (λ e. absurd (omega (arith, e, k)), λ e. absurd (omega (arith, e, j)));
      five = (λ e. absurd (omega (arith, e, k)), λ e. absurd (omega (arith, e, j)));
      ten = (λ e. (J.none.0 j, met_none c t q m), λ p. k);
      none = (λ e. absurd (omega (arith, e, k)), λ p. let (i, l, w) = p.1 in absurd (omega (arith, w, met_none c t q m i l)));
    }

-- ---- the two sums and the value of a query
-- the two sums of a sound table, over the points of weight above 0
module _ (c : Settings) (t : Table) (U : Fine c t) (q : List ℤ) where
  mass_sum : weighted c t (blurred_mass c t) q ≡ weighed_over c.d (weighed c.d c.S q) (blurred_mass c t)
  mass_sum = weighted_over c t (mapped c t U) (blurred_mass c t) (mass_off c t (suc c.d)) q

  value_sum : weighted c t (blurred_value c t) q ≡ weighed_over c.d (weighed c.d c.S q) (blurred_value c t)
  value_sum = weighted_over c t (mapped c t U) (blurred_value c t) (value_off c t (suc c.d)) q

-- a query that is answered meets a point
pub answered : (c : Settings) (t : Table) → Fine c t → (q : List ℤ) → code c t q ≡ 0 → meets c t q ≡ true
answered c t U q e = go (code_cases c t U q)
  where
    go : CodeCases c t q → meets c t q ≡ true
    go (inl (h, k)) = absurd (h (sym k ∙ e))
    go (inr (j, inl (m, k))) = m
    go (inr (j, inr (m, k))) = absurd (omega (arith, e, k))

-- "with value 0 beside any code but 0"
pub value_given : (c : Settings) (t : Table) (q : List ℤ) → code c t q ≡ 0 → answer c t q ≡ rounded (weighted c t (blurred_value c t) q) (nat_abs (weighted c t (blurred_mass c t) q))
unfolding value_by
value_given c t q e = ap (λ (x : ℕ). beside x (rounded (weighted c t (blurred_value c t) q) (nat_abs (weighted c t (blurred_mass c t) q)))) e

-- ---- answers between bounds
pub answer_between : AnswerBetween
answer_between lo hi c t U h q e = rw (value_given c t q e) (rounded_between num lo hi (nat_abs den) (omega (arith, le_in (pos 1) den above, nat_abs_is den))
    (subst (λ (z : ℤ). (lo *ℤ z) ≤ℤ num) size_is low) (subst (λ (z : ℤ). num ≤ℤ (hi *ℤ z)) size_is high))
  where
    ps : List (List ℤ × ℕ)
    ps = weighed c.d c.S q

    num : ℤ
    num = weighted c t (blurred_value c t) q

    den : ℤ
    den = weighted c t (blurred_mass c t) q

    above : pos 1 ≤ℤ den
    above = mass_sum_above c t q U (answered c t U q e)

    size_is : den ≡ pos (nat_abs den)
    size_is = abs_pos (le_trans (le_out (pos 0) (pos 1) (omega arith)) above)

    B : Between lo hi (blurred_mass c t) (blurred_value c t)
    B = after_between c t lo hi h (suc c.d)

    low : (lo *ℤ den) ≤ℤ num
    low = rw (mass_sum c t U q, value_sum c t U q) (weighed_low c.d ps lo (blurred_mass c t) (blurred_value c t) B.low)

    high : num ≤ℤ (hi *ℤ den)
    high = rw (mass_sum c t U q, value_sum c t U q) (weighed_high c.d ps hi (blurred_mass c t) (blurred_value c t) B.high)

-- ---- nothing leaves 64 bits
pub answers_fit : AnswersFit
answers_fit c t F q = record {
  mass_fits = rw (mass_sum c t F q) (bound (sized (blurred_mass c t) (λ y. (blurred_small c t F y).0)));
  value_fits = rw (value_sum c t F q) (bound (sized (blurred_value c t) (λ y. (blurred_small c t F y).1)));
}
  where
    ps : List (List ℤ × ℕ)
    ps = weighed c.d c.S q

    sized : (f : List ℤ → ℤ) → ((y : List ℤ) → Abs≤ (f y) most_blurred) → Abs≤ (weighed_over c.d ps f) (most_blurred * most_W)
    sized f h = weighed_small c.d ps (weights_light c F.ranged q) f most_blurred h

    bound : {z : ℤ} → Abs≤ z (most_blurred * most_W) → Abs≤ z most_fraction
    bound h = record { abs = omega (arith, h.abs) }

-- ---- the answer depends on the map alone
-- sums over the points of weight above 0, of equal numbers
same_over : (d d' S S' : ℕ) (f g : List ℤ → ℤ) (q : List ℤ) → d ≡ d' → S ≡ S' → ((y : List ℤ) → f y ≡ g y) → weighed_over d (weighed d S q) f ≡ weighed_over d' (weighed d' S' q) g
same_over d d' S S' f g q e h k = rw (e, h, fun_ext k) refl

module _ (c : Settings) (t : Table) (b : Settings) (s : Table) (U : Fine c t) (U' : Fine b s) (dim : c.d ≡ b.d) (fine : c.S ≡ b.S)
    (map : (y : List ℤ) → held c t y ≡ held b s y) (q : List ℤ) where
  same_meets : meets c t q ≡ meets b s q
  same_meets = meets_ones c t (mapped c t U) q
      ∙ ap (λ (z : ℤ). not (eq_z z (pos 0))) (same_over c.d b.d c.S b.S (ones c t) (ones b s) q dim fine
      (λ y. ap (λ (x : Bool). cond x (pos 1) (pos 0)) (blur_of_map c t b s U U' dim map 0 y).stored_same))
      ∙ sym (meets_ones b s (mapped b s U') q)

  same_mass : weighted c t (blurred_mass c t) q ≡ weighted b s (blurred_mass b s) q
  same_mass = mass_sum c t U q
      ∙ same_over c.d b.d c.S b.S (blurred_mass c t) (blurred_mass b s) q dim fine
      (λ y. (blur_of_map c t b s U U' dim map (suc c.d) y).mass_same ∙ ap (λ (d : ℕ). mass_after b s (suc d) y) dim)
      ∙ sym (mass_sum b s U' q)

  same_sum : weighted c t (blurred_value c t) q ≡ weighted b s (blurred_value b s) q
  same_sum = value_sum c t U q
      ∙ same_over c.d b.d c.S b.S (blurred_value c t) (blurred_value b s) q dim fine
      (λ y. (blur_of_map c t b s U U' dim map (suc c.d) y).value_same ∙ ap (λ (d : ℕ). value_after b s (suc d) y) dim)
      ∙ sym (value_sum b s U' q)

  same_codes : code c t q ≡ code b s q
  unfolding code_by
  same_codes = rw (same_meets, same_mass) refl

  same_values : answer c t q ≡ answer b s q
  unfolding value_by
  same_values = ap₂ beside same_codes (ap₂ (λ (v m : ℤ). rounded v (nat_abs m)) same_sum same_mass)

pub answer_of_map : AnswerOfMap
answer_of_map c t b s U U' dim fine map q = record { same_code = same_codes c t b s U U' dim fine map q; same_value = same_values c t b s U U' dim fine map q }
