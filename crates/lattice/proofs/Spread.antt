-- What the greatest, the least and their difference are; and that the weight of a point is the number of grains that land on it: the grains inside
-- its window, from the least residual to the greatest.
use mathlib.Core.Path.{◌≡◌, refl, ap, ◌∙◌}
use mathlib.Core.Logic.{◌⊎◌, inl, inr}
use mathlib.Core.Bool.{Bool, true, false, cond}
use native.Mathlib.Omega.{arith}
use lib.IntN.{ℤ, pos, negsuc, neg_ℤ, nat_abs, ◌+ℤ◌, ◌-ℤ◌, ◌*ℤ◌}
use lib.Signed.{◌≤ℤ◌, le_z, le_z_yes}
use Prim.Native.Nat.{ℕ, zero, suc, ◌+◌, ◌*◌, ◌-◌, ◌≤◌, ◌<◌, min}
use native.Mathlib.Nat.{le_antisymm, le_refl, eq-or-lt_of_le, le_of_suc-le-suc}
use native.Mathlib.Decide.{dec_lt, dec_le}
use lib.Dec.{T, ltb, leb, ltb→lt, lt→ltb, leb→le, le→leb}
use Rattle.whole.specs.Size.{P, N}
use Rattle.whole.specs.Sum.{sum, all}
use Rattle.whole.proofs.Parts.{P_mono, N_mono, eq_in, add_is, le_in, P_neg, N_neg}
use Rattle.whole.proofs.Linear.{on, difs, ints}
use Rattle.whole.proofs.Ring.{le_z_refl, le_z_trans, le_z_flip}
use Rattle.whole.proofs.Tests.{all_at, all_of, and_l, and_r, and_i}
use Rattle.whole.proofs.Sum.{pick}
use Rattle.lattice.specs.Weight.{best, ge_z, residual, spread, weight}
use Rattle.lattice.proofs.Grains.{inside, off, lands}

-- ---- what the greatest and the least are
pub record Spread (n : ℕ) (a : ℕ → ℤ) (s : ℕ) : Type 0 where
  pub hi : ℕ
  pub lo : ℕ
  pub hi_in : hi < n
  pub lo_in : lo < n
  pub above : (i : ℕ) → i < n → a i ≤ℤ a hi
  pub below : (i : ℕ) → i < n → a lo ≤ℤ a i
  pub is : a hi ≡ a lo +ℤ pos s

module _ (r : ℤ → ℤ → Bool) (re : (a : ℤ) → T (r a a)) (tr : (a b c : ℤ) → T (r a b) → T (r b c) → T (r a c)) (fl : (a b : ℤ) → (T (r a b) → ⊥) → T (r b a)) where
  pub best_is : (d : ℕ) (f : ℕ → ℤ) → (h : ℕ) × (h < suc d) × (best r d f ≡ f h) × ((i : ℕ) → i < suc d → T (r (f i) (f h)))
  unfolding best
  best_is zero f = (0, omega arith, refl, λ i l. let e : i ≡ 0 = omega arith in rw e (re (f 0)))
  best_is (suc d) f = go (best_is d f) (r (best r d f) (f (suc d))) (λ t. t) (λ t. t)
    where
      either : (h i : ℕ) → ((i : ℕ) → i < suc d → T (r (f i) (f h))) → T (r (f (suc d)) (f h)) → (i ≡ suc d) ⊎ (i < suc d) → T (r (f i) (f h))
      either h i old new (inl e) = rw e new
      either h i old new (inr l) = old i l

      go : ((h : ℕ) × (h < suc d) × (best r d f ≡ f h) × ((i : ℕ) → i < suc d → T (r (f i) (f h)))) → (c : Bool) → (T (r (best r d f) (f (suc d))) → T c) → (T c → T (r (best r d f) (f (suc d))))
          → (h : ℕ) × (h < suc (suc d)) × (cond c (f (suc d)) (best r d f) ≡ f h) × ((i : ℕ) → i < suc (suc d) → T (r (f i) (f h)))
      go (h, l, e, u) true s t = (suc d, le_refl (suc (suc d)), refl, λ i k. either (suc d) i (λ j m. tr (f j) (best r d f) (f (suc d)) (rw e (u j m)) (t tt)) (re (f (suc d))) (eq-or-lt_of_le (le_of_suc-le-suc k)))
      go (h, l, e, u) false s t = (h, omega arith, e, λ i k. either h i u (rw (← e) (fl (best r d f) (f (suc d)) s)) (eq-or-lt_of_le (le_of_suc-le-suc k)))

pub spread_is : (d : ℕ) (f : ℕ → ℤ) → Spread (suc d) f (spread d f)
unfolding spread
spread_is d f =
    let t = best_is le_z le_z_refl le_z_trans le_z_flip d f in
    let b = best_is ge_z le_z_refl (λ a b c h k. le_z_trans c b a k h) (λ a b. le_z_flip b a) d f in
    record {
      hi = t.0;
      lo = b.0;
      hi_in = t.1;
      lo_in = b.1;
      above = λ i l. le_z_yes (t.3 i l);
      below = λ i l. le_z_yes (b.3 i l);
      is = rw (t.2, b.2) (lin (f t.0) (f b.0) (le_z_yes (t.3 b.0 b.1)));
    }
  where
    up : (z : ℤ) → N z ≤ P z → z ≡ pos (nat_abs z)
    up (pos n) h = refl
    up (negsuc n) h = absurd (omega arith)

    ring : (a b : ℤ) → a ≡ b +ℤ (a -ℤ b)
    ring = on _ λ a b. on _ λ c d. simp difs (omega ints)

    lin : (a b : ℤ) → b ≤ℤ a → a ≡ b +ℤ pos (nat_abs (a -ℤ b))
    lin a b h = ring a b ∙ ap (λ (z : ℤ). b +ℤ z) (up (a -ℤ b) (omega (arith, add_is a (neg_ℤ b), P_neg b, N_neg b, le_in b a h)))

-- there is one such number
pub spread_one : (n : ℕ) (a : ℕ → ℤ) (s t : ℕ) → Spread n a s → Spread n a t → s ≡ t
spread_one n a s t A B = le_antisymm (half s t A B) (half t s B A)
  where
    lin : (s t : ℕ) (h l h' l' : ℤ) → h ≤ℤ h' → l' ≤ℤ l → h ≡ l +ℤ pos s → h' ≡ l' +ℤ pos t → s ≤ t
    lin s t = on _ λ a b. on _ λ c d. on _ λ e f. on _ λ g h. simp difs (omega ints)

    half : (s t : ℕ) → Spread n a s → Spread n a t → s ≤ t
    half s t A B = lin s t (a A.hi) (a A.lo) (a B.hi) (a B.lo) (B.above A.hi A.hi_in) (B.below A.lo A.lo_in) A.is B.is

-- ---- the window: the grains between the least and the greatest
pub record Window (n W : ℕ) (a : ℕ → ℤ) (s : ℕ) : Type 0 where
  pub A : ℕ
  pub B : ℕ
  pub size : s ≡ A + B
  pub into : (u : ℕ) → T (all n (λ i. inside W (a i) u)) → (A ≤ u) × (u + B < W)
  pub back : (u : ℕ) → A ≤ u → u + B < W → T (all n (λ i. inside W (a i) u))

pub window : (n W : ℕ) (a : ℕ → ℤ) (s b : ℕ) → b < n → a b ≡ pos 0 → Spread n a s → Window n W a s
unfolding inside
window n W a s b q e R = record {
  A = N (a R.lo);
  B = P (a R.hi);
  size = omega (arith, add_is (a R.lo) (pos s), eq_in (a R.hi) (a R.lo +ℤ pos s) R.is, P_mono (a R.lo) (pos 0) (rw e at (R.below b q)), N_mono (pos 0) (a R.hi) (rw e at (R.above b q)));
  into = λ u t. let at : (i : ℕ) → i < n → T (inside W (a i) u) = all_at n (λ i. inside W (a i) u) t in (
    leb→le (N (a R.lo)) u (and_l (leb (N (a R.lo)) u) (ltb (u + P (a R.lo)) W) (at R.lo R.lo_in)),
    ltb→lt (u + P (a R.hi)) W (and_r (leb (N (a R.hi)) u) (ltb (u + P (a R.hi)) W) (at R.hi R.hi_in)),
  );
  back = λ u f g. all_of n (λ i. inside W (a i) u) (λ i l. and_i (leb (N (a i)) u) (ltb (u + P (a i)) W)
      (le→leb (N (a i)) u (omega (arith, N_mono (a R.lo) (a i) (R.below i l))))
      (lt→ltb (u + P (a i)) W (omega (arith, P_mono (a i) (a R.hi) (R.above i l)))));
}

-- ---- how many numbers stand in a window
count_step : (A B W K : ℕ) (c : Bool) → (T c → (A ≤ K) × (K + B < W)) → (A ≤ K → K + B < W → T c) → pos (min K (W - B) - A) +ℤ pick c (pos 1) ≡ pos (min (suc K) (W - B) - A)
count_step A B W K true f g = let h = f tt in ap pos (omega arith)
count_step A B W K false f g = ap pos (go (dec_le A K) (dec_lt (K + B) W))
  where
    go : Dec (A ≤ K) → Dec (K + B < W) → min K (W - B) - A + 0 ≡ min (suc K) (W - B) - A
    go (yes h) (yes k) = absurd (g h k)
    go (yes h) (no k) = omega arith
    go (no h) (yes k) = omega arith
    go (no h) (no k) = omega arith

count : (A B W K : ℕ) (h : ℕ → Bool) → ((u : ℕ) → T (h u) → (A ≤ u) × (u + B < W)) → ((u : ℕ) → A ≤ u → u + B < W → T (h u)) → sum K (λ u. pick (h u) (pos 1)) ≡ pos (min K (W - B) - A)
unfolding sum
count A B W zero h f g = ap pos (omega arith)
count A B W (suc K) h f g = ap (λ (z : ℤ). z +ℤ pick (h K) (pos 1)) (count A B W K h f g) ∙ count_step A B W K (h K) (f K) (g K)

pub window_count : (n W : ℕ) (a : ℕ → ℤ) (s : ℕ) → Window n W a s → sum W (λ u. pick (all n (λ i. inside W (a i) u)) (pos 1)) ≡ pos (W - s)
window_count n W a s Q = count Q.A Q.B W W (λ u. all n (λ i. inside W (a i) u)) Q.into Q.back ∙ ap pos (omega (arith, Q.size))

-- ---- a weight is a count of grains
shift_spread : (n : ℕ) (a f : ℕ → ℤ) (s : ℕ) (c : ℤ) → ((i : ℕ) → f i ≡ a i +ℤ c) → Spread n f s → Spread n a s
shift_spread n a f s c e R = record {
  hi = R.hi;
  lo = R.lo;
  hi_in = R.hi_in;
  lo_in = R.lo_in;
  above = λ i l. lin (a i) (a R.hi) c (rw (e i, e R.hi) at (R.above i l));
  below = λ i l. lin (a R.lo) (a i) c (rw (e R.lo, e i) at (R.below i l));
  is = lin' (a R.hi) (a R.lo) c (pos s) (rw (e R.hi, e R.lo) at R.is);
}
  where
    lin : (a b c : ℤ) → (a +ℤ c) ≤ℤ (b +ℤ c) → a ≤ℤ b
    lin = on _ λ a b. on _ λ c d. on _ λ e f. simp difs (omega ints)

    lin' : (a b c s : ℤ) → a +ℤ c ≡ b +ℤ c +ℤ s → a ≡ b +ℤ s
    lin' = on _ λ a b. on _ λ c d. on _ λ e f. on _ λ g h. simp difs (omega ints)

module _ (d S : ℕ) (x y : ℕ → ℤ) (b : ℕ) (q : b < suc d) where
  pub win : Window (suc d) (suc d * S) (off S x y b) (spread d (residual S x y))
  win = window (suc d) (suc d * S) (off S x y b) (spread d (residual S x y)) b q (lin0 S (x b) (y b))
      (shift_spread (suc d) (off S x y b) (residual S x y) (spread d (residual S x y)) (residual S x y b) (λ i. lin (x i) (x b) (y i) (y b) (pos S)) (spread_is d (residual S x y)))
    where
      lin0 : (S : ℕ) (x y : ℤ) → x -ℤ x -ℤ pos S *ℤ (y -ℤ y) ≡ pos 0
      lin0 S = on _ λ a b. on _ λ c d. simp difs (omega ints)

      lin : (a b c d s : ℤ) → a -ℤ s *ℤ c ≡ a -ℤ b -ℤ s *ℤ (c -ℤ d) +ℤ (b -ℤ s *ℤ d)
      lin = on _ λ a b. on _ λ c d. on _ λ e f. on _ λ g h. on _ λ i j. simp difs (omega ints)

  pub grains : sum (suc d * S) (λ u. pick (lands (suc d) S x y b u) (pos 1)) ≡ pos (weight d S x y)
  unfolding lands weight
  grains = window_count (suc d) (suc d * S) (off S x y b) (spread d (residual S x y)) win

  -- some grain lands on a point of weight above 0, and a point on which one lands has weight above 0
  pub some_grain : 0 < weight d S x y → (u : ℕ) × (u < suc d * S) × T (lands (suc d) S x y b u)
  unfolding lands weight
  some_grain h = let Q = win in (Q.A, omega arith, Q.back Q.A (le_refl Q.A) (omega arith))

  pub grain_weight : (u : ℕ) → T (lands (suc d) S x y b u) → 0 < weight d S x y
  unfolding lands weight
  grain_weight u t = let Q = win in let f = Q.into u t in omega arith
