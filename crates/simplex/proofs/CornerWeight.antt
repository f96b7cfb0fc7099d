-- The weight of a corner: W less the greatest remainder of x_i - x_j by W. This is how the program weighs it.
use mathlib.Core.Path.{◌≡◌, ap}
use native.Mathlib.Omega.{arith}
use lib.IntN.{ℤ, pos, ◌+ℤ◌, ◌-ℤ◌, ◌*ℤ◌}
use Prim.Native.Nat.{ℕ, suc, ◌*◌, ◌-◌, ◌≤◌, ◌<◌}
use lib.Signed.{◌≤ℤ◌}
use Rattle.whole.specs.Floor.{floor, remainder}
use Rattle.whole.specs.Sum.{sum}
use Rattle.whole.proofs.Linear.{on, difs, ints}
use Rattle.whole.proofs.Floor.{div_rem, remainder_is}
use Rattle.lattice.specs.Weight.{residual, spread, weight}
use Rattle.lattice.specs.Points.{corner_at}
use Rattle.simplex.specs.Inner.{peak}
use Rattle.simplex.proofs.Peak.{peak_is}
use Rattle.lattice.proofs.Corners.{W_some}
use Rattle.lattice.proofs.Spread.{spread_one, Spread, spread_is}

module _ (d S : ℕ) (p : 0 < S) (x : ℕ → ℤ) (j : ℕ) (q : j < suc d) where
  W : ℕ
  W = suc d * S

  wide : 0 < W
  unfolding W
  wide = W_some d S p

  left : ℕ → ℕ
  left i = remainder (x i -ℤ x j) W

  base : ℤ
  base = x j +ℤ pos S *ℤ sum (suc d) (λ i. floor (x i -ℤ x j) W)

  -- x_i − S y_i is the remainder, up to what does not depend on i
  res_left : (i : ℕ) → residual S x (corner_at d S x j) i ≡ pos (left i) +ℤ base
  unfolding left base W
  res_left i = lin (suc d) S (x i) (x j) (floor (x i -ℤ x j) W) (sum (suc d) (λ i. floor (x i -ℤ x j) W)) (pos (left i)) (div_rem (x i -ℤ x j) W wide)
    where
      lin : (n S : ℕ) (a b z s r : ℤ) → a -ℤ b ≡ pos (n * S) *ℤ z +ℤ r → a -ℤ pos S *ℤ (pos n *ℤ z -ℤ s) ≡ r +ℤ (b +ℤ pos S *ℤ s)
      lin n S = on _ λ a b. on _ λ c d. on _ λ e f. on _ λ g h. on _ λ i j. simp difs (omega ints)

  left_own : left j ≡ 0
  unfolding left
  left_own = remainder_is (x j -ℤ x j) (pos 0) W 0 wide (lin W (x j))
    where
      lin : (m : ℕ) (a : ℤ) → a -ℤ a ≡ pos m *ℤ pos 0 +ℤ pos 0
      lin m = on _ λ a b. simp difs (omega ints)

  pub corner_spread : Spread (suc d) (residual S x (corner_at d S x j)) (peak (suc d) (λ i. remainder (x i -ℤ x j) (suc d * S)))
  unfolding left W
  corner_spread = let t = peak_is d left in record {
    hi = t.0;
    lo = j;
    hi_in = t.1;
    lo_in = q;
    above = λ i l. rw (res_left i, res_left t.0, ← t.2) (lin (left i) (peak (suc d) left) base (t.3 i l));
    below = λ i l. rw (res_left i, res_left j, left_own) (lin 0 (left i) base (omega arith));
    is = rw (res_left t.0, res_left j, left_own, ← t.2) (lin' (peak (suc d) left) base);
  }
    where
      lin : (m n : ℕ) (c : ℤ) → m ≤ n → (pos m +ℤ c) ≤ℤ (pos n +ℤ c)
      lin m n = on _ λ a b. simp difs (omega ints)

      lin' : (m : ℕ) (c : ℤ) → pos m +ℤ c ≡ pos 0 +ℤ c +ℤ pos m
      lin' m = on _ λ a b. simp difs (omega ints)

  pub corner_weighs : weight d S x (corner_at d S x j) ≡ suc d * S - peak (suc d) (λ i. remainder (x i -ℤ x j) (suc d * S))
  unfolding weight
  corner_weighs = ap (λ (s : ℕ). suc d * S - s) (spread_one (suc d) (residual S x (corner_at d S x j)) (spread d (residual S x (corner_at d S x j))) (peak (suc d) (λ i. remainder (x i -ℤ x j) (suc d * S))) (spread_is d (residual S x (corner_at d S x j))) corner_spread)
