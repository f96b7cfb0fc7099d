-- The laws of the ring ℤ and of its order. Assumes nothing.
use mathlib.Core.Path.{◌≡◌, refl}
use mathlib.Core.Logic.{◌⊎◌, inl, inr}
use Prim.Native.Nat.{◌<◌, ℕ, ◌+◌, ◌*◌, ◌≤◌}
use native.Mathlib.Nat.{le_of_mul-le-mul_left, mul-le-mul_right}
use native.Mathlib.Decide.{dec_le}
use native.Mathlib.Omega.{arith}
use lib.IntN.{ℤ, pos, negsuc, neg_ℤ, ◌+ℤ◌, ◌-ℤ◌, ◌*ℤ◌}
use lib.Signed.{◌≤ℤ◌, ◌<ℤ◌, le_z, le_z_yes}
use lib.Dec.{T}
use Rattle.whole.specs.Size.{P, N}
use Rattle.whole.proofs.Parts.{le_in, lt_in, le_out, lt_out, zin, zout}
use Rattle.whole.proofs.Linear.{on, difs, ints, dif_le}
use Rattle.whole.proofs.Signed.{zed, zle, zeq}

-- ---- the ring
pub *-comm : (a b : ℤ) → a *ℤ b ≡ b *ℤ a
*-comm a b = zeq (search zed depth 14) (omega arith)

pub *-dist-l : (a b c : ℤ) → a *ℤ (b +ℤ c) ≡ a *ℤ b +ℤ a *ℤ c
*-dist-l a b c = zeq (search zed depth 14) (omega arith)

pub *-one : (a : ℤ) → pos 1 *ℤ a ≡ a
*-one a = zeq (search zed depth 14) (omega arith)

pub *-zero : (a : ℤ) → pos 0 *ℤ a ≡ pos 0
*-zero a = zeq (search zed depth 14) (omega arith)

pub neg_times : (a b : ℤ) → neg_ℤ a *ℤ b ≡ neg_ℤ (a *ℤ b)
neg_times a b = zeq (search zed depth 14) (omega arith)

pub minus_plus : (a b : ℤ) → (a -ℤ b) +ℤ b ≡ a
minus_plus a b = zeq (search zed depth 14) (omega arith)

-- of a higher degree: each side is multiplied out in ℤ first, and each monomial, its factors sorted, is an atom
pub *-left : (a b c : ℤ) → a *ℤ (b *ℤ c) ≡ b *ℤ (a *ℤ c)
*-left a b c = zeq (search zed depth 14) (omega arith)

-- ---- the order
pub le_trans : {a b c : ℤ} → a ≤ℤ b → b ≤ℤ c → a ≤ℤ c
le_trans {a} {b} {c} h k = omega (arith, zin, zout)

pub le_antisymm : {a b : ℤ} → a ≤ℤ b → b ≤ℤ a → a ≡ b
le_antisymm {a} {b} h k = omega (arith, zin, zout)

-- which of the two
pub le_or_lt : (a b : ℤ) → (a ≤ℤ b) ⊎ (b <ℤ a)
le_or_lt a b = go (dec_le (P a + N b) (P b + N a))
  where
    go : Dec (P a + N b ≤ P b + N a) → (a ≤ℤ b) ⊎ (b <ℤ a)
    go (yes h) = inl (le_out a b h)
    go (no h) = inr (lt_out b a (omega arith))

pub add_mono : {a b c d : ℤ} → a ≤ℤ b → c ≤ℤ d → (a +ℤ c) ≤ℤ (b +ℤ d)
add_mono {a} {b} {c} {d} h k = zle (search zed depth 14) (omega (arith, zin))

pub neg_mono : {a b : ℤ} → a ≤ℤ b → neg_ℤ b ≤ℤ neg_ℤ a
neg_mono {a} {b} h = zle (search zed depth 14) (omega (arith, zin))

-- times a natural number
pub mul_mono : {a b : ℤ} (k : ℕ) → a ≤ℤ b → (pos k *ℤ a) ≤ℤ (pos k *ℤ b)
mul_mono {a} {b} k h = zle (search zed depth 14) (omega (arith, mul-le-mul_right k (le_in a b h)))

pub nonneg_N : {z : ℤ} → pos 0 ≤ℤ z → N z ≡ 0
nonneg_N {z = pos n} h = refl
nonneg_N {z = negsuc n} h = absurd h.le

pub negative_P : {z : ℤ} → z <ℤ pos 0 → P z ≡ 0
negative_P {z = pos n} h = let l = lt_in (pos n) (pos 0) h in omega arith
negative_P {z = negsuc n} h = refl

-- a multiple by a positive number has the sign of the number
pub le_zero_of_times : (n : ℕ) (a : ℤ) → 0 < n → (pos n *ℤ a) ≤ℤ pos 0 → a ≤ℤ pos 0
le_zero_of_times n = on _ λ a b. simp difs (λ h k. dif_le a b 0 0 (let l : n * a ≤ n * b = omega ints in omega (arith, le_of_mul-le-mul_left l h)))

pub zero_le_of_times : (n : ℕ) (a : ℤ) → 0 < n → pos 0 ≤ℤ (pos n *ℤ a) → pos 0 ≤ℤ a
zero_le_of_times n = on _ λ a b. simp difs (λ h k. dif_le 0 0 a b (let l : n * b ≤ n * a = omega ints in omega (arith, le_of_mul-le-mul_left l h)))

-- ---- the order as a test
pub le_z_refl : (a : ℤ) → T (le_z a a)
le_z_refl a = (le_out a a (omega arith)).le

pub le_z_trans : (a b c : ℤ) → T (le_z a b) → T (le_z b c) → T (le_z a c)
le_z_trans a b c h k = (le_out a c (omega (arith, le_in a b (le_z_yes h), le_in b c (le_z_yes k)))).le

pub le_z_flip : (a b : ℤ) → (T (le_z a b) → ⊥) → T (le_z b a)
le_z_flip a b f = go (dec_le (P b + N a) (P a + N b))
  where
    go : Dec (P b + N a ≤ P a + N b) → T (le_z b a)
    go (yes h) = (le_out b a h).le
    go (no h) = absurd (f (le_out a b (omega arith)).le)
