-- Floor and remainder: that they are the one pair with z = m·q + r and 0 ≤ r < m, their orders, and how the machine's quotient and remainder,
-- which go towards zero, give them. Assumes nothing.
use mathlib.Core.Path.{◌≡◌, refl, sym, ◌∙◌, ap}
use mathlib.Core.Logic.{⊎_elim}
use Prim.Native.Nat.{ℕ, suc, ◌-◌, ◌/◌, ◌%◌, ◌<◌, ◌≤◌}
use native.Mathlib.Nat.{mul-le-mul_left, mod-lt, div-add-mod', div-le_self, div-lt_self}
use native.Mathlib.Omega.{arith}
use lib.IntN.{ℤ, pos, negsuc, nat_abs, ◌+ℤ◌, ◌-ℤ◌, ◌*ℤ◌}
use lib.Signed.{◌≤ℤ◌, ◌<ℤ◌, quot_z, rem_z}
use Rattle.whole.specs.Size.{P, N, Abs≤}
use Rattle.whole.specs.Floor.{floor, remainder, DividedBy, DividedOnce, RemainderCases}
use Rattle.whole.proofs.Parts.{N_neg, le_in, lt_in, zin, zout}
use Rattle.whole.proofs.Linear.{on, difs, ints}
use Rattle.whole.proofs.Signed.{zed, zlt, zeq, ole, oeq, sizes}
use Rattle.whole.proofs.Ring.{le_or_lt, nonneg_N, negative_P}

-- document 01's own numbers, computed
pub remainder_cases : RemainderCases
unfolding remainder
remainder_cases = record { minus_four = refl; minus_one = refl; two = refl }

-- ════ the pair
pub remainder_lt : (z : ℤ) (m : ℕ) → 0 < m → remainder z m < m
unfolding remainder
remainder_lt (pos a) m h = mod-lt a h
remainder_lt (negsuc a) m h = omega (arith, mod-lt a h)

pub div_rem : (z : ℤ) (m : ℕ) → 0 < m → z ≡ pos m *ℤ floor z m +ℤ pos (remainder z m)
unfolding floor remainder
div_rem (pos a) m h = zeq (search zed depth 14) (omega (arith, div-add-mod' a m))
div_rem (negsuc a) m h = zeq (search zed depth 14) (omega (arith, div-add-mod' a m, mod-lt a h))

-- there is one such pair
below : (m r s : ℕ) (p q : ℤ) → r < m → p <ℤ q → (pos m *ℤ p +ℤ pos r) <ℤ (pos m *ℤ q +ℤ pos s)
below m r s p q h k = zlt (search zed depth 14) (omega (arith, mul-le-mul_left m (lt_in p q k)))

pub floor_one : (m r s : ℕ) (p q : ℤ) → r < m → s < m → pos m *ℤ p +ℤ pos r ≡ pos m *ℤ q +ℤ pos s → p ≡ q
floor_one m r s p q h k e = ⊎_elim (λ l. ⊎_elim (λ g. omega (arith, zin, zout)) (λ g. clash (below m r s p q h g)) (le_or_lt q p)) (λ g. clash' (below m s r q p k g)) (le_or_lt p q)
  where
    clash : (pos m *ℤ p +ℤ pos r) <ℤ (pos m *ℤ q +ℤ pos s) → p ≡ q
    clash g = omega (arith, zin, zout)

    clash' : (pos m *ℤ q +ℤ pos s) <ℤ (pos m *ℤ p +ℤ pos r) → p ≡ q
    clash' g = omega (arith, zin, zout)

pub div_unique : (z q : ℤ) (m r : ℕ) → r < m → z ≡ pos m *ℤ q +ℤ pos r → (q ≡ floor z m) × (r ≡ remainder z m)
div_unique z q m r h e = (same, rest same)
  where
    m⁺ : 0 < m
    m⁺ = omega arith

    both : pos m *ℤ q +ℤ pos r ≡ pos m *ℤ floor z m +ℤ pos (remainder z m)
    both = sym e ∙ div_rem z m m⁺

    same : q ≡ floor z m
    same = floor_one m r (remainder z m) q (floor z m) h (remainder_lt z m m⁺) both

    rest : q ≡ floor z m → r ≡ remainder z m
    rest g = omega (arith, oeq (ap (λ (x : ℤ). pos m *ℤ x +ℤ pos r) (sym g) ∙ both) (search zed depth 14) (omega arith))

-- ════ the machine's quotient and remainder by a positive divisor, and from them to the floor
quot_rem : (x : ℤ) (m : ℕ) → x ≡ pos m *ℤ quot_z x (pos m) +ℤ rem_z x (pos m)
quot_rem (pos a) m = zeq (search zed depth 14) (omega (arith, div-add-mod' a m))
quot_rem (negsuc a) m = zeq (search zed depth 14) (omega (arith, div-add-mod' (suc a) m))

pub floor_pos : (x d : ℤ) → pos 1 ≤ℤ d → pos 0 ≤ℤ rem_z x d → (quot_z x d ≡ floor x (nat_abs d)) × (rem_z x d ≡ pos (remainder x (nat_abs d)))
floor_pos x (negsuc m) h k = absurd h.le
floor_pos x (pos m) h k = (u.0, sym r ∙ ap pos u.1)
  where
    r : pos (P (rem_z x (pos m))) ≡ rem_z x (pos m)
    r = omega (arith, zout, nonneg_N k)

    u : (quot_z x (pos m) ≡ floor x m) × (P (rem_z x (pos m)) ≡ remainder x m)
    u = div_unique x (quot_z x (pos m)) m (P (rem_z x (pos m))) (omega (arith, (sizes x (pos m) h).rem_lt)) (quot_rem x m ∙ ap (λ (y : ℤ). pos m *ℤ quot_z x (pos m) +ℤ y) (sym r))

pub record FloorNeg (x d : ℤ) : Type 0 where
  pub quot_is : quot_z x d -ℤ pos 1 ≡ floor x (nat_abs d)
  pub rem_is : rem_z x d +ℤ d ≡ pos (remainder x (nat_abs d))
  pub less : N (quot_z x d) < N x

quot_less : (x : ℤ) (m : ℕ) → 0 < m → rem_z x (pos m) <ℤ pos 0 → N (quot_z x (pos m)) < N x
quot_less (pos a) m h k = let z : ⊥ = omega (arith, zin) in absurd z
quot_less (negsuc a) m h k = let t = lt_in (rem_z (negsuc a) (pos m)) (pos 0) k in
    omega (arith, N_neg (pos (suc a / m)), div-lt_self {n = suc a} {k = m} (omega arith) (omega (arith, mod-lt (suc a) h, N_neg (pos (suc a % m)))))

pub floor_neg : (x d : ℤ) → pos 1 ≤ℤ d → rem_z x d <ℤ pos 0 → FloorNeg x d
floor_neg x (negsuc m) h k = absurd h.le
floor_neg x (pos m) h k = record { quot_is = u.0; rem_is = r ∙ ap pos u.1; less = quot_less x m m⁺ k }
  where
    m⁺ : 0 < m
    m⁺ = omega (arith, le_in (pos 1) (pos m) h)

    r : rem_z x (pos m) +ℤ pos m ≡ pos (m - N (rem_z x (pos m)))
    r = zeq (search zed depth 14) (omega (arith, (sizes x (pos m) h).rem_lt, negative_P k))

    u : (quot_z x (pos m) -ℤ pos 1 ≡ floor x m) × (m - N (rem_z x (pos m)) ≡ remainder x m)
    u = div_unique x (quot_z x (pos m) -ℤ pos 1) m (m - N (rem_z x (pos m))) (omega (arith, zin, lt_in (rem_z x (pos m)) (pos 0) k))
        (quot_rem x m ∙ zeq (search zed depth 14) (omega (arith, (sizes x (pos m) h).rem_lt, negative_P k)))

-- a quotient is no larger than what is divided
pub quot_abs : {a d : ℤ} {B : ℕ} → Abs≤ a B → pos 1 ≤ℤ d → Abs≤ (quot_z a d) B
quot_abs {a} {d} h k = let s = sizes a d k in record { abs = omega arith }

-- ════ the floor's size and order
pub floor_p : (x : ℤ) (m : ℕ) → P (floor x m) ≤ P x
unfolding floor
floor_p (pos a) m = div-le_self a m
floor_p (negsuc a) m = omega arith

pub floor_n : (x : ℤ) (m : ℕ) → N (floor x m) ≤ N x
unfolding floor
floor_n (pos a) m = omega arith
floor_n (negsuc a) m = omega (arith, div-le_self a m)

pub floor_ge : (x lo : ℤ) (m : ℕ) → 0 < m → (pos m *ℤ lo) ≤ℤ x → lo ≤ℤ floor x m
floor_ge x lo m h b = ⊎_elim (λ l. l) (λ g. absurd (bad g)) (le_or_lt lo (floor x m))
  where
    bad : floor x m <ℤ lo → ⊥
    bad g = omega (arith, ole b (search zed depth 14) (omega arith), oeq (div_rem x m h) (search zed depth 14) (omega arith), remainder_lt x m h, mul-le-mul_left m (lt_in (floor x m) lo g))

pub remainder_shift : (x k : ℤ) (m : ℕ) → 0 < m → remainder (x +ℤ pos m *ℤ k) m ≡ remainder x m
remainder_shift x k m h = sym (div_unique (x +ℤ pos m *ℤ k) (floor x m +ℤ k) m (remainder x m) (remainder_lt x m h) (zeq (search zed depth 14) (omega (arith, oeq (div_rem x m h) (search zed depth 14) (omega arith))))).1

-- ════ the statements of specs/, and the laws by which callers use them
pub divided : DividedBy
divided z m h = record { is = div_rem z m h; less = remainder_lt z m h }

pub divided_once : DividedOnce
divided_once z q m r D = div_unique z q m r D.less D.is

pub floor_is : (z q : ℤ) (m r : ℕ) → r < m → z ≡ pos m *ℤ q +ℤ pos r → floor z m ≡ q
floor_is z q m r h e = sym (div_unique z q m r h e).0

pub remainder_is : (z q : ℤ) (m r : ℕ) → r < m → z ≡ pos m *ℤ q +ℤ pos r → remainder z m ≡ r
remainder_is z q m r h e = sym (div_unique z q m r h e).1

pub floor_le : (v w : ℤ) (m : ℕ) → 0 < m → v ≤ℤ w → floor v m ≤ℤ floor w m
floor_le v w m h k = floor_ge w (floor v m) m h (lin m (remainder v m) v w (floor v m) (div_rem v m h) k)
  where
    lin : (m r : ℕ) (v w q : ℤ) → v ≡ pos m *ℤ q +ℤ pos r → v ≤ℤ w → (pos m *ℤ q) ≤ℤ w
    lin m r = on _ λ a b. on _ λ c d. on _ λ e f. simp difs (omega ints)

pub floor_next : (v : ℤ) (m : ℕ) → 0 < m → floor (v +ℤ pos m) m ≡ floor v m +ℤ pos 1
floor_next v m h = floor_is (v +ℤ pos m) (floor v m +ℤ pos 1) m (remainder v m) (remainder_lt v m h) (lin m v (floor v m) (pos (remainder v m)) (div_rem v m h))
  where
    lin : (m : ℕ) (v q r : ℤ) → v ≡ pos m *ℤ q +ℤ r → v +ℤ pos m ≡ pos m *ℤ (q +ℤ pos 1) +ℤ r
    lin m = on _ λ a b. on _ λ c d. on _ λ e f. simp difs (omega ints)
