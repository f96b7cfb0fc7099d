-- Weighted sums over the points around a query: a bound on the numbers of every point is one on the sum, and what that says of the sums over a
-- sheet of blurred pairs: "384·4,096·1,000,000·4^6·384 is below 2.5·10^18".
use mathlib.Core.Path.{◌≡◌, refl, sym, ap₂, ◌∙◌}
use mathlib.Core.List.{List, [], ◌∷◌}
use Prim.Native.Nat.{ℕ, ◌*◌}
use native.Mathlib.Omega.{arith}
use lib.IntN.{ℤ, *ℤ-zero, pos, neg_ℤ, ◌+ℤ◌, ◌*ℤ◌}
use lib.ListN.{take}
use lib.Signed.{◌≤ℤ◌, ≤ℤ_refl}
use Rattle.whole.specs.Size.{Abs≤}
use Rattle.whole.specs.Sum.{over}
use Rattle.whole.proofs.Parts.{le_out}
use Rattle.whole.proofs.Ring.{*-dist-l, *-left, *-comm, *-one, *-zero, neg_times, le_trans, add_mono, neg_mono, mul_mono}
use Rattle.whole.proofs.Size.{abs_pair, abs_lo, abs_hi}
use Rattle.lattice.specs.Limits.{most_W, most_value}
use Rattle.table.specs.Table.{Settings, Table, mass}
use Rattle.blur.specs.Blur.{masses, values}
use Rattle.blur.specs.Inner.{most_blurred}
use Rattle.blur.proofs.Stored.{every_pair, held_small}
use Rattle.filter.specs.Inner.{weighed_over, WeighedIs, Smooth, Quotable}

-- ---- a number of each point, weighed
module _ (d : ℕ) where
  -- the greater number at every point has the greater sum
  weighed_le : (ps : List (List ℤ × ℕ)) (f g : List ℤ → ℤ) → ((y : List ℤ) → f y ≤ℤ g y) → weighed_over d ps f ≤ℤ weighed_over d ps g
  unfolding over
  weighed_le [] f g h = ≤ℤ_refl (pos 0)
  weighed_le (p ∷ ps) f g h = add_mono (mul_mono p.1 (h (take d p.0))) (weighed_le ps f g h)

  weighed_times : (ps : List (List ℤ × ℕ)) (k : ℤ) (f : List ℤ → ℤ) → weighed_over d ps (λ y. k *ℤ f y) ≡ k *ℤ weighed_over d ps f
  unfolding over
  weighed_times [] k f = sym (*ℤ-zero k)
  weighed_times (p ∷ ps) k f =
      let a = pos p.1 in
      let x = f (take d p.0) in
      rw (weighed_times ps k f, *-left a k x) (sym (*-dist-l k (a *ℤ x) (weighed_over d ps f)))

  -- 1 at every point: the weights
  weighed_ones : (ps : List (List ℤ × ℕ)) → weighed_over d ps (λ y. pos 1) ≡ over ps (λ p. pos p.1)
  unfolding over
  weighed_ones [] = refl
  weighed_ones (p ∷ ps) = ap₂ ◌+ℤ◌ (*-comm (pos p.1) (pos 1) ∙ *-one (pos p.1)) (weighed_ones ps)

  -- lo times the one number, and hi times it, bound the other
  pub weighed_low : (ps : List (List ℤ × ℕ)) (lo : ℤ) (f g : List ℤ → ℤ) → ((y : List ℤ) → (lo *ℤ f y) ≤ℤ g y) → (lo *ℤ weighed_over d ps f) ≤ℤ weighed_over d ps g
  weighed_low ps lo f g h = rw (← weighed_times ps lo f) (weighed_le ps (λ y. lo *ℤ f y) g h)

  pub weighed_high : (ps : List (List ℤ × ℕ)) (hi : ℤ) (f g : List ℤ → ℤ) → ((y : List ℤ) → g y ≤ℤ (hi *ℤ f y)) → weighed_over d ps g ≤ℤ (hi *ℤ weighed_over d ps f)
  weighed_high ps hi f g h = rw (← weighed_times ps hi f) (weighed_le ps g (λ y. hi *ℤ f y) h)

  -- the weights together are at most 384, so the sum is at most 384 times the greatest number
  pub weighed_small : (ps : List (List ℤ × ℕ)) → over ps (λ p. pos p.1) ≤ℤ pos most_W → (f : List ℤ → ℤ) (B : ℕ) → ((y : List ℤ) → Abs≤ (f y) B) → Abs≤ (weighed_over d ps f) (B * most_W)
  weighed_small ps light f B h = abs_pair low high
    where
      w : ℤ
      w = over ps (λ p. pos p.1)

      same : (z : ℤ) → z *ℤ pos 1 ≡ z
      same z = *-comm z (pos 1) ∙ *-one z

      more : (pos B *ℤ w) ≤ℤ pos (B * most_W)
      more = mul_mono B light

      high : weighed_over d ps f ≤ℤ pos (B * most_W)
      high = le_trans (rw (weighed_ones ps) at (weighed_high ps (pos B) (λ y. pos 1) f (λ y. rw (same (pos B)) (abs_hi (h y))))) more

      low : neg_ℤ (pos (B * most_W)) ≤ℤ weighed_over d ps f
      low = le_trans (neg_mono more) (rw (weighed_ones ps, neg_times (pos B) w) at (weighed_low ps (neg_ℤ (pos B)) (λ y. pos 1) f (λ y. rw (same (neg_ℤ (pos B))) (abs_lo (h y)))))

-- ---- the sums over a sheet of blurred pairs
module _ (c : Settings) (t : Table) (A : Smooth c t) (ps : List (List ℤ × ℕ)) (light : over ps (λ p. pos p.1) ≤ℤ pos most_W) (w m v : ℤ) (S : WeighedIs c t ps w m v) where
  small : (y : List ℤ) → Abs≤ (masses c t y) most_blurred × Abs≤ (values c t y) most_blurred
  small = held_small c t A.mapped.readable most_blurred A.small

  mass_small : Abs≤ m (most_blurred * most_W)
  mass_small = rw S.mass_is (weighed_small c.d ps light (masses c t) most_blurred (λ y. (small y).0))

  value_small : Abs≤ v (most_blurred * most_W)
  value_small = rw S.value_is (weighed_small c.d ps light (values c t) most_blurred (λ y. (small y).1))

  mass_least : pos 0 ≤ℤ m
  mass_least = rw (S.mass_is, ← *-zero (weighed_over c.d ps (masses c t))) (weighed_low c.d ps (pos 0) (masses c t) (masses c t)
      (every_pair c t A.mapped.readable (λ a b. (pos 0 *ℤ a) ≤ℤ a) (≤ℤ_refl (pos 0)) (λ i l. rw (*-zero (mass t i)) (le_trans (le_out (pos 0) (pos 1) (omega arith)) (A.some i l)))))

  value_low : (neg_ℤ (pos most_value) *ℤ m) ≤ℤ v
  value_low = rw (S.mass_is, S.value_is) (weighed_low c.d ps (neg_ℤ (pos most_value)) (masses c t) (values c t)
      (every_pair c t A.mapped.readable (λ a b. (neg_ℤ (pos most_value) *ℤ a) ≤ℤ b) (≤ℤ_refl (pos 0)) (λ i l. rw (neg_times (pos most_value) (mass t i)) (A.low i l))))

  value_high : v ≤ℤ (pos most_value *ℤ m)
  value_high = rw (S.mass_is, S.value_is) (weighed_high c.d ps (pos most_value) (masses c t) (values c t)
      (every_pair c t A.mapped.readable (λ a b. b ≤ℤ (pos most_value *ℤ a)) (≤ℤ_refl (pos 0)) A.high))

  -- so their quotient can be had
  pub quotable : Quotable m v
  quotable = let a = mass_small in let b = value_small in record {
    least = mass_least;
    mass_small = record { abs = omega arith };
    value_small = record { abs = omega arith };
    low = value_low;
    high = value_high;
  }
