-- Reach: a point of weight above 0 has every |x_i - S·y_i| below W, since those sum to 0; so its coordinates are within ±1,000,005.
use mathlib.Core.Path.{◌≡◌, refl, ap, ◌∙◌}
use native.Mathlib.Omega.{arith}
use lib.IntN.{ℤ, pos, negsuc, neg_ℤ, ◌+ℤ◌, ◌-ℤ◌, ◌*ℤ◌}
use Prim.Native.Nat.{ℕ, zero, suc, ◌+◌, ◌*◌, ◌≤◌, ◌<◌}
use native.Mathlib.Nat.{mul-le-mul_left, mul-le-mul_right}
use native.Mathlib.Decide.{dec_le}
use lib.Signed.{◌≤ℤ◌}
use Rattle.whole.specs.Size.{P, N, Abs≤}
use Rattle.whole.specs.Sum.{sum}
use Rattle.whole.specs.Lists.{at}
use Rattle.whole.proofs.Parts.{P_mono, N_mono, add_is, mul_is, P_neg, N_neg}
use Rattle.whole.proofs.Linear.{on, difs, ints}
use Rattle.whole.proofs.Ring.{le_zero_of_times, zero_le_of_times}
use Rattle.whole.proofs.Sum.{sum_add, sum_mul, sum_neg, sum_const, sum_le}
use Rattle.lattice.specs.Weight.{residual, spread, weight}
use Rattle.lattice.specs.Theorems.{Reach}
use Rattle.lattice.proofs.Spread.{Spread, spread_is}

-- ---- |x_i − S y_i| is below W
pub near : (d S : ℕ) (x y : ℕ → ℤ) → sum (suc d) x ≡ pos 0 → sum (suc d) y ≡ pos 0 → 0 < weight d S x y → (i : ℕ) → i < suc d → (P (residual S x y i) < suc d * S) × (N (residual S x y i) < suc d * S)
unfolding weight
near d S x y X Y w i l = (omega (arith, hi'), omega (arith, lo'))
  where
    s : ℕ
    s = spread d (residual S x y)

    R : Spread (suc d) (residual S x y) s
    R = spread_is d (residual S x y)

    lin0 : (s : ℕ) (a b : ℤ) → a ≡ pos 0 → b ≡ pos 0 → a +ℤ neg_ℤ (pos s *ℤ b) ≡ pos 0
    lin0 s a b e f = rw (e, f) (z s)
      where
        z : (s : ℕ) → pos 0 +ℤ neg_ℤ (pos s *ℤ pos 0) ≡ pos 0
        z s = simp difs (omega ints)

    zero_sum : sum (suc d) (residual S x y) ≡ pos 0
    zero_sum = sum_add (suc d) x (λ i. neg_ℤ (pos S *ℤ y i)) ∙ ap (λ (z : ℤ). sum (suc d) x +ℤ z) (sum_neg (suc d) (λ i. pos S *ℤ y i) ∙ ap neg_ℤ (sum_mul (suc d) (pos S) y)) ∙ lin0 S (sum (suc d) x) (sum (suc d) y) X Y

    least : residual S x y R.lo ≤ℤ pos 0
    least = le_zero_of_times (suc d) (residual S x y R.lo) (omega arith) (rw (zero_sum, sum_const (suc d) (residual S x y R.lo)) at (sum_le (suc d) (λ i. residual S x y R.lo) (residual S x y) R.below))

    greatest : pos 0 ≤ℤ residual S x y R.hi
    greatest = zero_le_of_times (suc d) (residual S x y R.hi) (omega arith) (rw (zero_sum, sum_const (suc d) (residual S x y R.hi)) at (sum_le (suc d) (residual S x y) (λ i. residual S x y R.hi) R.above))

    lin : (s : ℕ) (a lo hi : ℤ) → a ≤ℤ hi → hi ≡ lo +ℤ pos s → lo ≤ℤ pos 0 → a ≤ℤ pos s
    lin s = on _ λ a b. on _ λ c d. on _ λ e f. simp difs (omega ints)

    lin' : (s a lo hi : ℤ) → lo ≤ℤ a → hi ≡ lo +ℤ s → pos 0 ≤ℤ hi → neg_ℤ s ≤ℤ a
    lin' = on _ λ s t. on _ λ a b. on _ λ c d. on _ λ e f. simp difs (omega ints)

    hi' : P (residual S x y i) ≤ s
    hi' = P_mono (residual S x y i) (pos s) (lin s (residual S x y i) (residual S x y R.lo) (residual S x y R.hi) (R.above i l) R.is least)

    neg : (s : ℕ) → N (neg_ℤ (pos s)) ≡ s
    neg zero = refl
    neg (suc s) = refl

    lo' : N (residual S x y i) ≤ s
    lo' = omega (arith, neg s, N_mono (neg_ℤ (pos s)) (residual S x y i) (lin' (pos s) (residual S x y i) (residual S x y R.lo) (residual S x y R.hi) (R.below i l) R.is greatest))

-- ---- so |y_i| is at most 1,000,000 + d where |x_i| is at most 1,000,000
bound : (d S a t : ℕ) → d ≤ 5 → 0 < S → S * a ≤ 1000000 + t → t < suc d * S → a ≤ 1000005
bound d S a t hd h_s h k = go (dec_le a 1000005)
  where
    go : Dec (a ≤ 1000005) → a ≤ 1000005
    go (yes l) = l
    go (no l) = let l' : 1000006 ≤ a = omega arith in absurd (omega (arith, mul-le-mul_left S l', mul-le-mul_right S hd))

-- S·y_i is no further from 0 than x_i and the residual together
above : (S : ℕ) (x y : ℤ) → S * P y ≤ P x + N (x -ℤ pos S *ℤ y) + S * N y
above S x y = omega (arith, add_is x (neg_ℤ (pos S *ℤ y)), P_neg (pos S *ℤ y), N_neg (pos S *ℤ y), mul_is (pos S) y)

below : (S : ℕ) (x y : ℤ) → S * N y ≤ N x + P (x -ℤ pos S *ℤ y) + S * P y
below S x y = omega (arith, add_is x (neg_ℤ (pos S *ℤ y)), P_neg (pos S *ℤ y), N_neg (pos S *ℤ y), mul_is (pos S) y)

small : (d S : ℕ) (x y : ℤ) → d ≤ 5 → 0 < S → Abs≤ x 1000000 → (P (x -ℤ pos S *ℤ y) < suc d * S) × (N (x -ℤ pos S *ℤ y) < suc d * S) → Abs≤ y 1000005
small d S x (pos a) hd h_s X r = record { abs = omega (arith, bound d S a (N (x -ℤ pos S *ℤ pos a)) hd h_s (omega (arith, above S x (pos a))) r.1) }
small d S x (negsuc a) hd h_s X r = record { abs = omega (arith, bound d S (suc a) (P (x -ℤ pos S *ℤ negsuc a)) hd h_s (omega (arith, below S x (negsuc a))) r.0) }

pub reach : Reach
reach d S hd p x y X Y w i l = small d S (at x i) (at y i) hd p (X.near i l) (near d S (at x) (at y) X.zero_sum Y.lattice.total w i l)
