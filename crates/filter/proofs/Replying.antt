-- One query: from what `judge`, `enclose` and `weigh` answer to what the next step asks, and to what is answered.
use mathlib.Core.Path.{◌≡◌, refl, sym, ap, ap₂, subst, ◌∙◌}
use mathlib.Core.Bool.{not}
use mathlib.Core.List.{List}
use Prim.Native.Nat.{ℕ, zero, suc}
use lib.IntN.{ℤ, pos, nat_abs}
use lib.ListN.{length}
use Rattle.whole.specs.Lists.{collect}
use Rattle.whole.specs.Rounding.{rounded}
use Rattle.lattice.specs.Position.{judged}
use Rattle.lattice.specs.Points.{weighed}
use Rattle.simplex.specs.Slots.{Placed, Encloses, slot}
use Rattle.simplex.proofs.Slots.{slots_are_the_points, weights_length, coords_length}
use Rattle.simplex.proofs.Placing.{placed}
use Rattle.index.specs.Keys.{eq_z}
use Rattle.table.specs.Table.{Settings, Table}
use Rattle.table.specs.Sound.{Ranged}
use Rattle.blur.specs.Blur.{masses, values}
use Rattle.blur.proofs.Stored.{not_stored}
use Rattle.filter.specs.Answer.{weighted, meets, code_by, beside, value_by}
use Rattle.filter.specs.Inner.{WeighedIs, Weighable, sums_code, sums_value, QuotientIs, Smooth, ReplyIs}
use Rattle.filter.proofs.Weighing.{weighted_over, meets_ones, weights_light}
use Rattle.filter.proofs.Coding.{by_position, by_points}

-- the value is 0 beside any number but 0
pub beside_none : (x : ℕ) (v : ℤ) → (x ≡ 0 → ⊥) → beside x v ≡ pos 0
beside_none zero v h = absurd (h refl)
beside_none (suc x) v h = refl

-- ---- the simplex
pub enclosable : (c : Settings) (q : List ℤ) → Ranged c → length q ≡ suc c.d → judged q ≡ 0 → Placed c.d c.S q
enclosable c q R e j = placed c.d c.S q R.d_least R.d_most R.S_least R.S_most e j

module _ (c : Settings) (t : Table) (A : Smooth c t) (q : List ℤ) (ws : List ℕ) (cs : List ℤ) (E : Encloses c.d c.S q ws cs) where
  slots_weighed : collect (suc c.d) (slot c.d ws cs) ≡ weighed c.d c.S q
  slots_weighed = let R = A.mapped.readable.ranged in slots_are_the_points c.d c.S R.d_most R.S_least q ws cs E

  pub weighable : Weighable c t ws cs
  weighable = record {
    readable = A.mapped.readable;
    small = A.small;
    weights_size = weights_length E;
    coords_size = coords_length E;
    light = rw slots_weighed (weights_light c A.mapped.readable.ranged q);
  }

  pub weighed_are : {w m v : ℤ} → WeighedIs c t (collect (suc c.d) (slot c.d ws cs)) w m v → WeighedIs c t (weighed c.d c.S q) w m v
  weighed_are {w} {m} {v} W = subst (λ (ps : List (List ℤ × ℕ)). WeighedIs c t ps w m v) slots_weighed W

-- ---- what is answered
-- a refused query
refused_is : (c : Settings) (t : Table) (q : List ℤ) (x : ℕ) → x ≡ code_by c t (masses c t) q → (x ≡ 0 → ⊥) → ReplyIs c t q (pos 0) x
unfolding value_by
refused_is c t q x k h = record { value_is = sym (beside_none (code_by c t (masses c t) q) _ (λ z. h (k ∙ z))); code_is = k }

pub refused_position : (c : Settings) (t : Table) (q : List ℤ) (x : ℕ) → x ≡ judged q → (x ≡ 0 → ⊥) → ReplyIs c t q (pos 0) x
refused_position c t q x j h = refused_is c t q x (j ∙ sym (by_position c t (masses c t) q (λ z. h (j ∙ z)))) h

-- the three sums at a position
module _ (c : Settings) (t : Table) (A : Smooth c t) (q : List ℤ) (j : judged q ≡ 0) (w m v : ℤ) (W : WeighedIs c t (weighed c.d c.S q) w m v) where
  met : meets c t q ≡ not (eq_z w (pos 0))
  met = meets_ones c t A.mapped q ∙ ap (λ (z : ℤ). not (eq_z z (pos 0))) (sym W.weight_is)

  mass_sum : weighted c t (masses c t) q ≡ m
  mass_sum = weighted_over c t A.mapped (masses c t) (λ y e. ap (λ (p : ℤ × ℤ). p.0) (not_stored c t y e)) q ∙ sym W.mass_is

  value_sum : weighted c t (values c t) q ≡ v
  value_sum = weighted_over c t A.mapped (values c t) (λ y e. ap (λ (p : ℤ × ℤ). p.1) (not_stored c t y e)) q ∙ sym W.value_is

  code_is : code_by c t (masses c t) q ≡ sums_code w m
  unfolding sums_code
  code_is = by_points c t (masses c t) q j ∙ rw (met, mass_sum) refl

  -- what the sums give is the reply
  pub replied : {r : ℤ} {x : ℕ} → QuotientIs w m v r x → ReplyIs c t q r x
  unfolding value_by sums_value
  replied Q = record { value_is = Q.value_is ∙ sym (ap₂ beside code_is (ap₂ (λ (v m : ℤ). rounded v (nat_abs m)) value_sum mass_sum)); code_is = Q.code_is ∙ sym code_is }
