-- Grains. A position drops W grains; grain u, measured from the base place b, lands on the lattice point of z_i = ⌊(x_i - x_b + u) / W⌋. Here: that
-- this is a lattice point, that each lattice point comes from such numbers z, and that grain u lands on y exactly where x_i - x_b - S·(y_i - y_b) + u
-- is from 0 to W - 1 at every place.
use mathlib.Core.Path.{◌≡◌, sym, ap, ap₂, ◌∙◌}
use mathlib.Core.Bool.{Bool, ◌&&◌}
use native.Mathlib.Omega.{arith}
use lib.IntN.{ℤ, pos, neg_ℤ, ◌+ℤ◌, ◌-ℤ◌, ◌*ℤ◌}
use Prim.Native.Nat.{ℕ, zero, suc, ◌+◌, ◌*◌, ◌-◌, ◌≤◌, ◌<◌}
use lib.Dec.{T, ltb, leb, ltb→lt, lt→ltb, leb→le, le→leb}
use Rattle.whole.specs.Size.{P, N}
use Rattle.whole.specs.Floor.{floor, remainder}
use Rattle.whole.specs.Sum.{sum, all}
use Rattle.whole.proofs.Parts.{eq_out, eq_in, add_is, apart}
use Rattle.whole.proofs.Linear.{on, difs, ints}
use Rattle.whole.proofs.Floor.{div_rem, remainder_lt, floor_one, floor_is, remainder_is}
use Rattle.whole.proofs.Tests.{all_at, all_of, and_l, and_r, and_i}
use Rattle.whole.proofs.Sum.{sum_cong, sum_add, sum_mul, sum_const}
use Rattle.lattice.specs.Lattice.{Lattice}
use Rattle.lattice.specs.Points.{spanned}

-- where grain u of a position lands, measured from place b
abbrev pub grain : ℕ → (ℕ → ℤ) → ℕ → ℕ → ℕ → ℤ
grain W x b u i = floor (x i -ℤ x b +ℤ pos u) W

pub grain_base : (W : ℕ) (x : ℕ → ℤ) (b u : ℕ) → u < W → grain W x b u b ≡ pos 0
grain_base W x b u h = floor_is (x b -ℤ x b +ℤ pos u) (pos 0) W u h (lin W u (x b))
  where
    lin : (m u : ℕ) (a : ℤ) → a -ℤ a +ℤ pos u ≡ pos m *ℤ pos 0 +ℤ pos u
    lin m u = on _ λ a b. simp difs (omega ints)

-- ---- each integer vector gives a lattice point
pub spanned_remainder : (n : ℕ) (z : ℕ → ℤ) (i : ℕ) → 0 < n → remainder (spanned n z i) n ≡ remainder (neg_ℤ (sum n z)) n
spanned_remainder n z i p = remainder_is (spanned n z i) (z i +ℤ floor (neg_ℤ (sum n z)) n) n (remainder (neg_ℤ (sum n z)) n) (remainder_lt (neg_ℤ (sum n z)) n p)
    (lin n (z i) (sum n z) (floor (neg_ℤ (sum n z)) n) (pos (remainder (neg_ℤ (sum n z)) n)) (div_rem (neg_ℤ (sum n z)) n p))
  where
    lin : (k : ℕ) (a b q r : ℤ) → neg_ℤ b ≡ pos k *ℤ q +ℤ r → pos k *ℤ a -ℤ b ≡ pos k *ℤ (a +ℤ q) +ℤ r
    lin k = on _ λ a b. on _ λ c d. on _ λ e f. on _ λ g k. simp difs (omega ints)

pub spanned_lattice : (n : ℕ) (z : ℕ → ℤ) → 0 < n → Lattice n (spanned n z)
spanned_lattice n z p = record { total = tot; same = λ i l. spanned_remainder n z i p ∙ sym (spanned_remainder n z 0 p) }
  where
    lin0 : (k : ℕ) (s : ℤ) → pos k *ℤ s +ℤ pos k *ℤ neg_ℤ s ≡ pos 0
    lin0 k = on _ λ a b. simp difs (omega ints)

    tot : sum n (spanned n z) ≡ pos 0
    tot = sum_add n (λ i. pos n *ℤ z i) (λ i. neg_ℤ (sum n z)) ∙ ap₂ ◌+ℤ◌ (sum_mul n (pos n) z) (sum_const n (neg_ℤ (sum n z))) ∙ lin0 n (sum n z)

-- ---- and each lattice point comes from one, normed at place b
module _ (n : ℕ) (y : ℕ → ℤ) (b : ℕ) (q : b < n) (Y : Lattice n y) where
  abbrev pub zof : ℕ → ℤ
  zof i = floor (y i) n -ℤ floor (y b) n

  p : 0 < n
  p = omega arith

  k : ℕ
  k = remainder (y 0) n

  split : (i : ℕ) → i < n → y i ≡ pos n *ℤ floor (y i) n +ℤ pos k
  unfolding k
  split i l = div_rem (y i) n p ∙ ap (λ (m : ℕ). pos n *ℤ floor (y i) n +ℤ pos m) (Y.same i l)

  step : (i : ℕ) → i < n → y i -ℤ y b ≡ pos n *ℤ zof i
  step i l = lin n (y i) (y b) (floor (y i) n) (floor (y b) n) (pos k) (split i l) (split b q)
    where
      lin : (k : ℕ) (a b q r s : ℤ) → a ≡ pos k *ℤ q +ℤ s → b ≡ pos k *ℤ r +ℤ s → a -ℤ b ≡ pos k *ℤ (q -ℤ r)
      lin k = on _ λ a b. on _ λ c d. on _ λ e f. on _ λ g k. on _ λ i j. simp difs (omega ints)

  sumq : sum n (λ i. floor (y i) n) +ℤ pos k ≡ pos 0
  sumq = floor_one n 0 0 (sum n (λ i. floor (y i) n) +ℤ pos k) (pos 0) p p
      (lin n (sum n (λ i. floor (y i) n)) (pos k) ∙ ap (λ (z : ℤ). z +ℤ pos 0) (
      ap₂ ◌+ℤ◌ (sym (sum_mul n (pos n) (λ i. floor (y i) n))) (sym (sum_const n (pos k)))
      ∙ sym (sum_add n (λ i. pos n *ℤ floor (y i) n) (λ i. pos k))
      ∙ sym (sum_cong n y (λ i. pos n *ℤ floor (y i) n +ℤ pos k) split) ∙ Y.total) ∙ lin0 n)
    where
      lin : (m : ℕ) (s k : ℤ) → pos m *ℤ (s +ℤ k) +ℤ pos 0 ≡ pos m *ℤ s +ℤ pos m *ℤ k +ℤ pos 0
      lin m = on _ λ a b. on _ λ c d. simp difs (omega ints)

      lin0 : (m : ℕ) → pos 0 +ℤ pos 0 ≡ pos m *ℤ pos 0 +ℤ pos 0
      lin0 m = simp difs (omega ints)

  sumz : sum n zof ≡ sum n (λ i. floor (y i) n) +ℤ pos n *ℤ neg_ℤ (floor (y b) n)
  sumz = sum_add n (λ i. floor (y i) n) (λ i. neg_ℤ (floor (y b) n)) ∙ ap (λ (z : ℤ). sum n (λ i. floor (y i) n) +ℤ z) (sum_const n (neg_ℤ (floor (y b) n)))

  pub is_spanned : (i : ℕ) → i < n → y i ≡ spanned n zof i
  is_spanned i l = lin n (y i) (floor (y i) n) (floor (y b) n) (sum n zof) (sum n (λ i. floor (y i) n)) (pos k) (split i l) sumq sumz
    where
      lin : (m : ℕ) (y q r s t k : ℤ) → y ≡ pos m *ℤ q +ℤ k → t +ℤ k ≡ pos 0 → s ≡ t +ℤ pos m *ℤ neg_ℤ r → y ≡ pos m *ℤ (q -ℤ r) -ℤ s
      lin m = on _ λ a b. on _ λ c d. on _ λ e f. on _ λ g h. on _ λ i j. on _ λ u v. simp difs (omega ints)

-- ---- the window
abbrev pub off : ℕ → (ℕ → ℤ) → (ℕ → ℤ) → ℕ → ℕ → ℤ
off S x y b i = x i -ℤ x b -ℤ pos S *ℤ (y i -ℤ y b)

unfoldable pub inside : ℕ → ℤ → ℕ → Bool
inside W a u = leb (N a) u && ltb (u + P a) W

unfoldable pub lands : ℕ → ℕ → (ℕ → ℤ) → (ℕ → ℤ) → ℕ → ℕ → Bool
lands n S x y b u = all n (λ i. inside (n * S) (off S x y b i) u)

-- 0 ≤ a + u < W, said with a remainder
pub in_remainder : (W : ℕ) (a : ℤ) (u : ℕ) → T (inside W a u) → (r : ℕ) × (r < W) × (a +ℤ pos u ≡ pos r)
unfolding inside
in_remainder W a u t =
    let lo : N a ≤ u = leb→le (N a) u (and_l (leb (N a) u) (ltb (u + P a) W) t) in
    let hi : u + P a < W = ltb→lt (u + P a) W (and_r (leb (N a) u) (ltb (u + P a) W) t) in
    (u + P a - N a, omega arith, eq_out (a +ℤ pos u) (pos (u + P a - N a)) (omega (arith, add_is a (pos u))))

low : (a u r n : ℕ) → a * n ≡ 0 → a + u ≡ r + n → n ≤ u
low zero u r n z e = omega arith
low (suc a) u r zero z e = omega arith
low (suc a) u r (suc n) z e = absurd (omega arith)

high : (a u r n W : ℕ) → a * n ≡ 0 → a + u ≡ r + n → u < W → r < W → u + a < W
high zero u r n W z e h k = omega arith
high (suc a) u r zero W z e h k = omega arith
high (suc a) u r (suc n) W z e h k = absurd (omega arith)

pub remainder_in : (W : ℕ) (a : ℤ) (u r : ℕ) → u < W → r < W → a +ℤ pos u ≡ pos r → T (inside W a u)
unfolding inside
remainder_in W a u r h k e =
    let f : P a + u ≡ r + N a = omega (arith, add_is a (pos u), eq_in (a +ℤ pos u) (pos r) e) in
    and_i (leb (N a) u) (ltb (u + P a) W) (le→leb (N a) u (low (P a) u r (N a) (apart a) f)) (lt→ltb (u + P a) W (high (P a) u r (N a) W (apart a) f h k))

module _ (n S : ℕ) (x y : ℕ → ℤ) (b : ℕ) (q : b < n) (Y : Lattice n y) (u : ℕ) (h : u < n * S) where
  z : ℕ → ℤ
  z = zof n y b q Y

  offz : (i : ℕ) → i < n → x i -ℤ x b ≡ pos (n * S) *ℤ z i +ℤ off S x y b i
  unfolding z
  offz i l = lin n S (x i) (x b) (y i) (y b) (z i) (step n y b q Y i l)
    where
      lin : (n S : ℕ) (a b c d z : ℤ) → c -ℤ d ≡ pos n *ℤ z → a -ℤ b ≡ pos (n * S) *ℤ z +ℤ (a -ℤ b -ℤ pos S *ℤ (c -ℤ d))
      lin n S a b c d z e = rw e (lin' n S a b z)
        where
          lin' : (n S : ℕ) (a b z : ℤ) → a -ℤ b ≡ pos (n * S) *ℤ z +ℤ (a -ℤ b -ℤ pos S *ℤ (pos n *ℤ z))
          lin' n S = on _ λ a b. on _ λ c d. on _ λ e f. simp difs (omega ints)

  inside_grain : (i : ℕ) → i < n → T (inside (n * S) (off S x y b i) u) → grain (n * S) x b u i ≡ z i
  inside_grain i l t =
      let r = in_remainder (n * S) (off S x y b i) u t in
      floor_is (x i -ℤ x b +ℤ pos u) (z i) (n * S) r.0 r.1 (lin (x i -ℤ x b) (pos (n * S) *ℤ z i) (off S x y b i) (pos u) (pos r.0) (offz i l) r.2)
    where
      lin : (a b c d r : ℤ) → a ≡ b +ℤ c → c +ℤ d ≡ r → a +ℤ d ≡ b +ℤ r
      lin = on _ λ a b. on _ λ c d. on _ λ e f. on _ λ g k. on _ λ i j. simp difs (omega ints)

  grain_inside : (i : ℕ) → i < n → grain (n * S) x b u i ≡ z i → T (inside (n * S) (off S x y b i) u)
  grain_inside i l e =
      let w : 0 < n * S = omega arith in
      let v = x i -ℤ x b +ℤ pos u in
      remainder_in (n * S) (off S x y b i) u (remainder v (n * S)) h (remainder_lt v (n * S) w)
      (lin (x i -ℤ x b) (pos (n * S) *ℤ z i) (off S x y b i) (pos u) (pos (remainder v (n * S))) (offz i l)
      (div_rem v (n * S) w ∙ ap (λ (q : ℤ). pos (n * S) *ℤ q +ℤ pos (remainder v (n * S))) e))
    where
      lin : (a b c d r : ℤ) → a ≡ b +ℤ c → a +ℤ d ≡ b +ℤ r → c +ℤ d ≡ r
      lin = on _ λ a b. on _ λ c d. on _ λ e f. on _ λ g k. on _ λ i j. simp difs (omega ints)

  pub lands_is : T (lands n S x y b u) → (i : ℕ) → i < n → y i ≡ spanned n (grain (n * S) x b u) i
  unfolding lands z
  lands_is t i l = is_spanned n y b q Y i l ∙ ap₂ ◌-ℤ◌ (ap (λ (q : ℤ). pos n *ℤ q) (sym (same i l))) (sum_cong n z (grain (n * S) x b u) (λ j m. sym (same j m)))
    where
      same : (j : ℕ) → j < n → grain (n * S) x b u j ≡ z j
      same j m = inside_grain j m (all_at n (λ i. inside (n * S) (off S x y b i) u) t j m)

  pub is_lands : ((i : ℕ) → i < n → y i ≡ spanned n (grain (n * S) x b u) i) → T (lands n S x y b u)
  unfolding lands z
  is_lands e = all_of n (λ i. inside (n * S) (off S x y b i) u) (λ i l. grain_inside i l (same i l))
    where
      eq : (i : ℕ) → i < n → spanned n z i ≡ spanned n (grain (n * S) x b u) i
      eq i l = sym (is_spanned n y b q Y i l) ∙ e i l

      z0 : z b ≡ pos 0
      z0 = lin (floor (y b) n)
        where
          lin : (a : ℤ) → a -ℤ a ≡ pos 0
          lin = on _ λ a b. simp difs (omega ints)

      grain0 : grain (n * S) x b u b ≡ pos 0
      grain0 = grain_base (n * S) x b u h

      lin : (n : ℕ) (s t a b c d : ℤ) → a ≡ pos 0 → b ≡ pos 0 → pos n *ℤ a -ℤ s ≡ pos n *ℤ b -ℤ t → pos n *ℤ c -ℤ s ≡ pos n *ℤ d -ℤ t → pos n *ℤ d +ℤ pos 0 ≡ pos n *ℤ c +ℤ pos 0
      lin n s t a b c d e f = rw (e, f) (lin' n s t c d)
        where
          lin' : (n : ℕ) (s t c d : ℤ) → pos n *ℤ pos 0 -ℤ s ≡ pos n *ℤ pos 0 -ℤ t → pos n *ℤ c -ℤ s ≡ pos n *ℤ d -ℤ t → pos n *ℤ d +ℤ pos 0 ≡ pos n *ℤ c +ℤ pos 0
          lin' n = on _ λ a b. on _ λ c d. on _ λ e f. on _ λ g k. simp difs (omega ints)

      same : (i : ℕ) → i < n → grain (n * S) x b u i ≡ z i
      same i l = floor_one n 0 0 (grain (n * S) x b u i) (z i) (omega arith) (omega arith)
          (lin n (sum n z) (sum n (grain (n * S) x b u)) (z b) (grain (n * S) x b u b) (z i) (grain (n * S) x b u i) z0 grain0 (eq b q) (eq i l))
