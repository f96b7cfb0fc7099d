-- The facts of the lattice, over coordinates as functions: each point of weight above 0 is the corner of a place; at most one of each remainder; and for
-- a list that has each of them once, the weights sum to W and weight times point sums to (d+1)·x, since they count grains.
use mathlib.Core.Path.{◌≡◌, refl, sym, ap, ap₂, ◌∙◌}
use mathlib.Core.Bool.{Bool, true, false}
use native.Mathlib.Omega.{arith}
use lib.IntN.{+ℤ_idr, ℤ, pos, neg_ℤ, ◌+ℤ◌, ◌-ℤ◌, ◌*ℤ◌}
use lib.Signed.{◌≤ℤ◌}
use Prim.Native.Nat.{ℕ, suc, ◌+◌, ◌*◌, ◌-◌, ◌≤◌, ◌<◌}
use native.Mathlib.Nat.{mul-pos}
use native.Mathlib.Decide.{dec_lt}
use lib.Dec.{T, ltb, leb, le→leb, lt→ltb}
use Rattle.whole.specs.Size.{P, N}
use Rattle.whole.specs.Floor.{floor, remainder}
use Rattle.whole.specs.Sum.{sum}
use Rattle.whole.proofs.Parts.{P_mono, N_mono, eq_in, le_out}
use Rattle.whole.proofs.Linear.{on, difs, ints}
use Rattle.whole.proofs.Ring.{*-comm}
use Rattle.whole.proofs.Floor.{div_rem, floor_one, floor_le, floor_next}
use Rattle.whole.proofs.Tests.{all_of, and_i}
use Rattle.whole.proofs.Sum.{sum_cong, sum_add, sum_mul, sum_neg, sum_const, sum_swap, sum_le, sum_tight, pick, one_hit, hermite}
use Rattle.lattice.specs.Lattice.{Lattice, remainder_of}
use Rattle.lattice.specs.Weight.{residual, spread, weight}
use Rattle.lattice.specs.Points.{spanned, corner_at}
use Rattle.lattice.proofs.Grains.{grain, grain_base, spanned_remainder, spanned_lattice, off, inside, lands, lands_is, is_lands}
use Rattle.lattice.proofs.Spread.{Spread, spread_is, grains, some_grain, grain_weight}

between : (a b : ℤ) → a ≤ℤ b → (e : ℕ) × (b ≡ a +ℤ pos e)
between = on _ λ a b. on _ λ c d. λ h. (c + b - (a + d), simp difs (omega ints))

-- two sums less than n apart whose negatives leave one remainder by n
close : (n : ℕ) (s t : ℤ) → 0 < n → s ≤ℤ t → ((s +ℤ pos n) ≤ℤ t → ⊥) → remainder (neg_ℤ s) n ≡ remainder (neg_ℤ t) n → t ≡ s
close n s t p h k e = lin n s t (floor (neg_ℤ s) n) (floor (neg_ℤ t) n) (pos (remainder (neg_ℤ t) n)) qs qt
    (floor_one n 0 c.0 (floor (neg_ℤ s) n) (floor (neg_ℤ t) n) p (small (dec_lt c.0 n)) (lin'' n c.0 s t (floor (neg_ℤ s) n) (floor (neg_ℤ t) n) (pos (remainder (neg_ℤ t) n)) qs qt c.1))
  where
    c : (e : ℕ) × (t ≡ s +ℤ pos e)
    c = between s t h

    lin' : (n e : ℕ) (s t : ℤ) → n ≤ e → t ≡ s +ℤ pos e → (s +ℤ pos n) ≤ℤ t
    lin' n e = on _ λ a b. on _ λ c d. simp difs (omega ints)

    small : Dec (c.0 < n) → c.0 < n
    small (yes l) = l
    small (no l) = absurd (k (lin' n c.0 s t (omega arith) c.1))

    qs : neg_ℤ s ≡ pos n *ℤ floor (neg_ℤ s) n +ℤ pos (remainder (neg_ℤ t) n)
    qs = div_rem (neg_ℤ s) n p ∙ ap (λ (m : ℕ). pos n *ℤ floor (neg_ℤ s) n +ℤ pos m) e

    qt : neg_ℤ t ≡ pos n *ℤ floor (neg_ℤ t) n +ℤ pos (remainder (neg_ℤ t) n)
    qt = div_rem (neg_ℤ t) n p

    lin'' : (n e : ℕ) (s t q r k : ℤ) → neg_ℤ s ≡ pos n *ℤ q +ℤ k → neg_ℤ t ≡ pos n *ℤ r +ℤ k → t ≡ s +ℤ pos e → pos n *ℤ q +ℤ pos 0 ≡ pos n *ℤ r +ℤ pos e
    lin'' n e = on _ λ a b. on _ λ c d. on _ λ e f. on _ λ g h. on _ λ i j. simp difs (omega ints)

    lin : (n : ℕ) (s t q r k : ℤ) → neg_ℤ s ≡ pos n *ℤ q +ℤ k → neg_ℤ t ≡ pos n *ℤ r +ℤ k → q ≡ r → t ≡ s
    lin n s t q r k a b e = lin''' s t (b ∙ ap (λ (z : ℤ). pos n *ℤ z +ℤ k) (sym e) ∙ sym a)
      where
        lin''' : (s t : ℤ) → neg_ℤ t ≡ neg_ℤ s → t ≡ s
        lin''' = on _ λ a b. on _ λ c d. simp difs (omega ints)

-- W is above 0
pub W_some : (d S : ℕ) → 0 < S → 0 < suc d * S
W_some d S p = mul-pos {m = suc d} (omega arith) p

module _ (d S : ℕ) (p : 0 < S) (x : ℕ → ℤ) where
  wide : 0 < suc d * S
  wide = W_some d S p

  grain_lattice : (b u : ℕ) → Lattice (suc d) (spanned (suc d) (grain (suc d * S) x b u))
  grain_lattice b u = spanned_lattice (suc d) (grain (suc d * S) x b u) (omega arith)

  self : (b u : ℕ) → b < suc d → u < suc d * S → T (lands (suc d) S x (spanned (suc d) (grain (suc d * S) x b u)) b u)
  self b u q h = is_lands (suc d) S x (spanned (suc d) (grain (suc d * S) x b u)) b q (grain_lattice b u) u h (λ i l. refl)

  pub corner_lattice : (j : ℕ) → Lattice (suc d) (corner_at d S x j)
  corner_lattice j = spanned_lattice (suc d) (λ i. floor (x i -ℤ x j) (suc d * S)) (omega arith)

  -- the corner of place j is where grain 0 lands, measured from place j
  first_grain : (j i : ℕ) → corner_at d S x j i ≡ spanned (suc d) (grain (suc d * S) x j 0) i
  first_grain j i = ap₂ ◌-ℤ◌ (ap (λ (z : ℤ). pos (suc d) *ℤ z) (own i)) (sum_cong (suc d) (λ i. floor (x i -ℤ x j) (suc d * S)) (grain (suc d * S) x j 0) (λ i l. own i))
    where
      own : (i : ℕ) → floor (x i -ℤ x j) (suc d * S) ≡ grain (suc d * S) x j 0 i
      own i = ap (λ (v : ℤ). floor v (suc d * S)) (sym (+ℤ_idr (x i -ℤ x j)))

  pub corner_weight : (j : ℕ) → j < suc d → 0 < weight d S x (corner_at d S x j)
  corner_weight j q = grain_weight d S x (corner_at d S x j) j q 0 (is_lands (suc d) S x (corner_at d S x j) j q (corner_lattice j) 0 wide (λ i l. first_grain j i))

  -- each point of weight above 0 is a corner
  pub a_corner : (y : ℕ → ℤ) → Lattice (suc d) y → 0 < weight d S x y → (j : ℕ) × (j < suc d) × ((i : ℕ) → i < suc d → y i ≡ corner_at d S x j i)
  unfolding weight lands inside
  a_corner y Y w = (R.lo, R.lo_in, λ i l. is i l ∙ sym (first_grain R.lo i))
    where
      s : ℕ
      s = spread d (residual S x y)

      R : Spread (suc d) (residual S x y) s
      R = spread_is d (residual S x y)

      a : ℕ → ℤ
      a i = off S x y R.lo i

      lin : (a b c d s : ℤ) → (b -ℤ s *ℤ d) ≤ℤ (a -ℤ s *ℤ c) → pos 0 ≤ℤ (a -ℤ b -ℤ s *ℤ (c -ℤ d))
      lin = on _ λ a b. on _ λ c d. on _ λ e f. on _ λ g h. on _ λ i j. simp difs (omega ints)

      lin' : (a b c d s t r : ℤ) → (a -ℤ s *ℤ c) ≤ℤ t → t ≡ b -ℤ s *ℤ d +ℤ r → (a -ℤ b -ℤ s *ℤ (c -ℤ d)) ≤ℤ r
      lin' = on _ λ a b. on _ λ c d. on _ λ e f. on _ λ g h. on _ λ i j. on _ λ k l. on _ λ m n. simp difs (omega ints)

      is : (i : ℕ) → i < suc d → y i ≡ spanned (suc d) (grain (suc d * S) x R.lo 0) i
      is = lands_is (suc d) S x y R.lo R.lo_in Y 0 wide (all_of (suc d) (λ i. inside (suc d * S) (off S x y R.lo i) 0) (λ i l. and_i (leb (N (a i)) 0) (ltb (0 + P (a i)) (suc d * S))
          (le→leb (N (a i)) 0 (N_mono (pos 0) (a i) (lin (x i) (x R.lo) (y i) (y R.lo) (pos S) (R.below i l))))
          (lt→ltb (0 + P (a i)) (suc d * S) (omega (arith, P_mono (a i) (pos s) (lin' (x i) (x R.lo) (y i) (y R.lo) (pos S) (residual S x y R.hi) (pos s) (R.above i l) R.is))))))

  -- two grains from one place that leave one remainder land on one point
  up : (b u i : ℕ) → grain (suc d * S) x b 0 i ≤ℤ grain (suc d * S) x b u i
  up b u i = floor_le (x i -ℤ x b +ℤ pos 0) (x i -ℤ x b +ℤ pos u) (suc d * S) wide (lin u (x i -ℤ x b))
    where
      lin : (u : ℕ) (v : ℤ) → (v +ℤ pos 0) ≤ℤ (v +ℤ pos u)
      lin u = on _ λ a b. simp difs (omega ints)

  up_one : (b u i : ℕ) → u < suc d * S → grain (suc d * S) x b u i ≤ℤ (grain (suc d * S) x b 0 i +ℤ pos 1)
  up_one b u i h = rw (← floor_next (x i -ℤ x b +ℤ pos 0) (suc d * S) wide) (floor_le (x i -ℤ x b +ℤ pos u) (x i -ℤ x b +ℤ pos 0 +ℤ pos (suc d * S)) (suc d * S) wide (lin u (suc d * S) (x i -ℤ x b) h))
    where
      lin : (u m : ℕ) (v : ℤ) → u < m → (v +ℤ pos u) ≤ℤ (v +ℤ pos 0 +ℤ pos m)
      lin u m = on _ λ a b. simp difs (omega ints)

  module _ (b u : ℕ) (q : b < suc d) (h : u < suc d * S) where
    f : ℕ → ℤ
    f = grain (suc d * S) x b 0

    g : ℕ → ℤ
    g = grain (suc d * S) x b u

    not_all : (sum (suc d) f +ℤ pos (suc d)) ≤ℤ sum (suc d) g → ⊥
    unfolding f g
    not_all k = lin (f b) (g b) (grain_base (suc d * S) x b 0 wide) (grain_base (suc d * S) x b u h)
        (sum_tight (suc d) g (λ i. f i +ℤ pos 1) (λ i l. up_one b u i h) (rw (sum_add (suc d) f (λ i. pos 1), sum_const (suc d) (pos 1)) (times (suc d) (sum (suc d) f) (sum (suc d) g) k)) b q)
      where
        times : (n : ℕ) (a b : ℤ) → (a +ℤ pos n) ≤ℤ b → (a +ℤ pos n *ℤ pos 1) ≤ℤ b
        times n = on _ λ a b. on _ λ c d. simp difs (omega ints)

        lin : (a b : ℤ) → a ≡ pos 0 → b ≡ pos 0 → b ≡ a +ℤ pos 1 → ⊥
        lin = on _ λ a b. on _ λ c d. simp difs (omega ints)

    sums : remainder (neg_ℤ (sum (suc d) f)) (suc d) ≡ remainder (neg_ℤ (sum (suc d) g)) (suc d) → sum (suc d) g ≡ sum (suc d) f
    unfolding f g
    sums e = close (suc d) (sum (suc d) f) (sum (suc d) g) (omega arith) (sum_le (suc d) f g (λ i l. up b u i)) not_all e

    same_grain : remainder (neg_ℤ (sum (suc d) f)) (suc d) ≡ remainder (neg_ℤ (sum (suc d) g)) (suc d) → (i : ℕ) → i < suc d → spanned (suc d) f i ≡ spanned (suc d) g i
    unfolding f g
    same_grain e i l = ap₂ ◌-ℤ◌ (ap (λ (z : ℤ). pos (suc d) *ℤ z) (sum_tight (suc d) f g (λ i l. up b u i) (le_out (sum (suc d) g) (sum (suc d) f) (omega (arith, eq_in (sum (suc d) g) (sum (suc d) f) (sums e)))) i l)) (sym (sums e))

  -- at most one point of each remainder
  pub one_each : (y y' : ℕ → ℤ) → Lattice (suc d) y → Lattice (suc d) y' → 0 < weight d S x y → 0 < weight d S x y' → remainder_of d y ≡ remainder_of d y' → (i : ℕ) → i < suc d → y i ≡ y' i
  unfolding f g
  one_each y y' Y Y' w w' e i l =
      let v = a_corner y Y w in
      let b = v.0 in
      let t = some_grain d S x y' b v.1 w' in
      let u = t.0 in
      let is : (i : ℕ) → i < suc d → y' i ≡ spanned (suc d) (grain (suc d * S) x b u) i = lands_is (suc d) S x y' b v.1 Y' u t.1 t.2 in
      v.2 i l ∙ first_grain b i ∙ same_grain b u v.1 t.1 (
      sym (spanned_remainder (suc d) (grain (suc d * S) x b 0) 0 (omega arith)) ∙ ap (λ (z : ℤ). remainder z (suc d)) (sym (v.2 0 (omega arith) ∙ first_grain b 0)) ∙ e
      ∙ ap (λ (z : ℤ). remainder z (suc d)) (is 0 (omega arith)) ∙ spanned_remainder (suc d) (grain (suc d * S) x b u) 0 (omega arith)) i l ∙ sym (is i l)

  -- a list of lattice points that has each point of weight above 0, and has it once
  module _ (K : ℕ) (ys : ℕ → ℕ → ℤ) (Ys : (m : ℕ) → m < K → Lattice (suc d) (ys m))
      (once : (m m' : ℕ) → m < K → m' < K → ((i : ℕ) → i < suc d → ys m i ≡ ys m' i) → m ≡ m')
      (each : (y : ℕ → ℤ) → Lattice (suc d) y → 0 < weight d S x y → (m : ℕ) × (m < K) × ((i : ℕ) → i < suc d → ys m i ≡ y i)) where
    abbrev point : ℕ → ℕ → ℤ
    point u = spanned (suc d) (grain (suc d * S) x 0 u)

    on_grain : (m u : ℕ) → m < K → u < suc d * S → T (lands (suc d) S x (ys m) 0 u) → (i : ℕ) → i < suc d → ys m i ≡ point u i
    on_grain m u k h = lands_is (suc d) S x (ys m) 0 (omega arith) (Ys m k) u h

    the : (u : ℕ) → u < suc d * S → (m : ℕ) × (m < K) × T (lands (suc d) S x (ys m) 0 u)
    the u h =
        let e = each (point u) (grain_lattice 0 u) (grain_weight d S x (point u) 0 (omega arith) u (self 0 u (omega arith) h)) in
        (e.0, e.1, is_lands (suc d) S x (ys e.0) 0 (omega arith) (Ys e.0 e.1) u h e.2)

    pub by_grains : (F G : ℕ → ℤ) → ((m u : ℕ) → m < K → u < suc d * S → T (lands (suc d) S x (ys m) 0 u) → F m ≡ G u)
        → sum K (λ m. pos (weight d S x (ys m)) *ℤ F m) ≡ sum (suc d * S) G
    by_grains F G fg = sum_cong K (λ m. pos (weight d S x (ys m)) *ℤ F m) (λ m. sum (suc d * S) (λ u. pick (lands (suc d) S x (ys m) 0 u) (F m))) (λ m k. spell m)
        ∙ sum_swap K (suc d * S) (λ m u. pick (lands (suc d) S x (ys m) 0 u) (F m))
        ∙ sum_cong (suc d * S) (λ u. sum K (λ m. pick (lands (suc d) S x (ys m) 0 u) (F m))) G (λ u h. let t = the u h in
        one_hit K (λ m. lands (suc d) S x (ys m) 0 u) F t.0 t.1 t.2
        (λ m k q. once m t.0 k t.1 (λ i l. on_grain m u k h q i l ∙ sym (on_grain t.0 u t.1 h t.2 i l)))
        ∙ fg t.0 u t.1 h t.2)
      where
        pick_times : (c : Bool) (z : ℤ) → z *ℤ pick c (pos 1) ≡ pick c z
        pick_times true = on _ λ a b. simp difs (omega ints)
        pick_times false = on _ λ a b. simp difs (omega ints)

        spell : (m : ℕ) → pos (weight d S x (ys m)) *ℤ F m ≡ sum (suc d * S) (λ u. pick (lands (suc d) S x (ys m) 0 u) (F m))
        spell m = *-comm (pos (weight d S x (ys m))) (F m) ∙ ap (λ (z : ℤ). F m *ℤ z) (sym (grains d S x (ys m) 0 (omega arith)))
            ∙ sym (sum_mul (suc d * S) (F m) (λ u. pick (lands (suc d) S x (ys m) 0 u) (pos 1)))
            ∙ sum_cong (suc d * S) (λ u. F m *ℤ pick (lands (suc d) S x (ys m) 0 u) (pos 1)) (λ u. pick (lands (suc d) S x (ys m) 0 u) (F m)) (λ u h. pick_times (lands (suc d) S x (ys m) 0 u) (F m))

    pub weights : sum K (λ m. pos (weight d S x (ys m))) ≡ pos (suc d * S)
    weights = sum_cong K (λ m. pos (weight d S x (ys m))) (λ m. pos (weight d S x (ys m)) *ℤ pos 1) (λ m k. lin (pos (weight d S x (ys m))))
        ∙ by_grains (λ m. pos 1) (λ u. pos 1) (λ m u k h t. refl) ∙ sum_const (suc d * S) (pos 1) ∙ sym (lin (pos (suc d * S)))
      where
        lin : (z : ℤ) → z ≡ z *ℤ pos 1
        lin = on _ λ a b. simp difs (omega ints)

    pub moment : sum (suc d) x ≡ pos 0 → (i : ℕ) → i < suc d → sum K (λ m. pos (weight d S x (ys m)) *ℤ ys m i) ≡ pos (suc d) *ℤ x i
    moment zero_sum i l = by_grains (λ m. ys m i) (λ u. point u i) (λ m u k h t. on_grain m u k h t i l)
        ∙ sum_add W (λ u. pos (suc d) *ℤ grain W x 0 u i) (λ u. neg_ℤ (sum (suc d) (grain W x 0 u)))
        ∙ ap₂ ◌+ℤ◌ (sum_mul W (pos (suc d)) (λ u. grain W x 0 u i) ∙ ap (λ (z : ℤ). pos (suc d) *ℤ z) (hermite W (x i -ℤ x 0) wide)) inner
        ∙ lin (suc d) (x i) (x 0)
      where
        W : ℕ
        W = suc d * S

        lin' : (n : ℕ) (a : ℤ) → neg_ℤ (pos 0 +ℤ pos n *ℤ neg_ℤ a) ≡ pos n *ℤ a
        lin' n = on _ λ a b. simp difs (omega ints)

        inner : sum W (λ u. neg_ℤ (sum (suc d) (grain W x 0 u))) ≡ pos (suc d) *ℤ x 0
        inner = sum_neg W (λ u. sum (suc d) (grain W x 0 u)) ∙ ap neg_ℤ (sum_swap W (suc d) (λ u. grain W x 0 u)
            ∙ sum_cong (suc d) (λ j. sum W (λ u. grain W x 0 u j)) (λ j. x j -ℤ x 0) (λ j k. hermite W (x j -ℤ x 0) wide)
            ∙ sum_add (suc d) x (λ j. neg_ℤ (x 0)) ∙ ap₂ ◌+ℤ◌ zero_sum (sum_const (suc d) (neg_ℤ (x 0)))) ∙ lin' (suc d) (x 0)

        lin : (n : ℕ) (a b : ℤ) → pos n *ℤ (a -ℤ b) +ℤ pos n *ℤ b ≡ pos n *ℤ a
        lin n = on _ λ a b. on _ λ c d. simp difs (omega ints)
