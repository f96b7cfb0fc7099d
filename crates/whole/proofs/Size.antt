-- Bounds on the size of a number: of a sum or another expression by its reading, of a product, and that a small number fits a machine's. `Abs≤ z B` is
-- P z + N z ≤ B, which omega reads. Assumes nothing.
use mathlib.Core.Path.{◌≡◌, ap}
use Prim.Native.Nat.{ℕ, ◌+◌, ◌*◌, ◌<◌, ◌≤◌, suc}
use native.Mathlib.Nat.{mul-le-mul}
use native.Mathlib.Omega.{arith}
use lib.IntN.{ℤ, pos, negsuc, neg_ℤ, nat_abs, ◌*ℤ◌}
use lib.Signed.{◌≤ℤ◌}
use mir.Syntax.{w32, w64}
use mir.Val.{SFits}
use mir.ValLaws.{to_z-of_z}
use Rattle.whole.specs.Size.{P, N, Abs≤}
use Rattle.whole.proofs.Parts.{nat_abs_is, P_neg, N_neg, le_in, eq_in, sfits_make, zout}
use Rattle.whole.proofs.Signed.{zed, zle, ole, Rd, Holds, W32, W64}

pub abs_pair : {z : ℤ} {B : ℕ} → neg_ℤ (pos B) ≤ℤ z → z ≤ℤ pos B → Abs≤ z B
abs_pair {z} {B} h k = record { abs = go z (omega (arith, ole h (search zed depth 14) (omega arith))) (le_in z (pos B) k) }
  where
    go : (z : ℤ) → N z ≤ P z + B → P z + 0 ≤ B + N z → P z + N z ≤ B
    go (pos n) h k = omega arith
    go (negsuc n) h k = omega arith

pub abs_lo : {z : ℤ} {B : ℕ} → Abs≤ z B → neg_ℤ (pos B) ≤ℤ z
abs_lo {z} {B} h = zle (search zed depth 14) (omega arith)

pub abs_hi : {z : ℤ} {B : ℕ} → Abs≤ z B → z ≤ℤ pos B
abs_hi {z} {B} h = omega (arith, zout)

-- the size of a product is the product of the sizes
pub abs_mul : (a b : ℤ) → P (a *ℤ b) + N (a *ℤ b) ≡ (P a + N a) * (P b + N b)
abs_mul (pos a) (pos b) = omega arith
abs_mul (pos a) (negsuc b) = omega (arith, P_neg (pos (a * suc b)), N_neg (pos (a * suc b)))
abs_mul (negsuc a) (pos b) = omega (arith, P_neg (pos (suc a * b)), N_neg (pos (suc a * b)))
abs_mul (negsuc a) (negsuc b) = omega arith

-- of an expression, by its reading
bd_of : (a : ℤ) (B : ℕ) (e : Rd a) → Holds e.r.asks × (e.r.p ≤ e.r.n + B) × (e.r.n ≤ e.r.p + B) → P a + N a ≤ B
bd_of a B e h = go a e.r.p e.r.n (omega (arith, e.r.is h.0, eq_in a e.r.v (e.r.same h.0))) h.1 h.2
  where
    go : (a : ℤ) (p n : ℕ) → P a + n ≡ p + N a → p ≤ n + B → n ≤ p + B → P a + N a ≤ B
    go (pos x) p n h k l = omega arith
    go (negsuc x) p n h k l = omega arith

pub zabs : {a : ℤ} {B : ℕ} (e : Rd a) → Holds e.r.asks × (e.r.p ≤ e.r.n + B) × (e.r.n ≤ e.r.p + B) → Abs≤ a B
zabs {a} {B} e h = record { abs = bd_of a B e h }

pub abs_times : (a b : ℤ) {B C D : ℕ} → Abs≤ a B → Abs≤ b C → B * C ≤ D → Abs≤ (a *ℤ b) D
abs_times a b h k l = record { abs = omega (arith, abs_mul a b, mul-le-mul h.abs k.abs) }

-- a small number fits 32 bits, and is what is read back from its bits
pub fits32 : {z : ℤ} {B : ℕ} → Abs≤ z B → B < 2147483648 → SFits w32 z
fits32 {z} h k = sfits_make w32 z (omega arith) (omega arith)

pub back32 : {z : ℤ} {B : ℕ} → Abs≤ z B → B < 2147483648 → W32 z ≡ z
back32 {z} h k = to_z-of_z w32 z (fits32 h k)

-- and so with 64
pub fits64 : {z : ℤ} {B : ℕ} → Abs≤ z B → B < 9223372036854775808 → SFits w64 z
fits64 {z} h k = sfits_make w64 z (omega arith) (omega arith)

pub back64 : {z : ℤ} {B : ℕ} → Abs≤ z B → B < 9223372036854775808 → W64 z ≡ z
back64 {z} h k = to_z-of_z w64 z (fits64 h k)

-- ---- the size as the library has it
pub abs_of : (z : ℤ) (B : ℕ) → nat_abs z ≤ B → Abs≤ z B
abs_of z B h = record { abs = omega (arith, nat_abs_is z) }

pub of_abs : (z : ℤ) (B : ℕ) → Abs≤ z B → nat_abs z ≤ B
of_abs z B h = omega (arith, nat_abs_is z)

pub size_zero : (z : ℤ) → nat_abs z ≡ 0 → z ≡ pos 0
size_zero (pos n) e = ap pos e
size_zero (negsuc n) e = absurd (omega arith)
