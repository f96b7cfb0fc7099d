-- The two parts of a whole number, z = P z - N z: what they are of a sum, a difference and a product, and how orders, equations and the
-- ranges of machine numbers read in them. `omega` reads natural numbers only: these laws are how it comes to read ℤ. Assumes nothing.
use mathlib.Core.Path.{◌≡◌, refl, sym, ap, subst}
use mathlib.Core.Bool.{Bool, true, false, not, cond}
use Prim.Native.Nat.{ℕ, zero, suc, ◌+◌, ◌*◌, ◌-◌, ◌<◌, ◌≤◌, ◌^◌}
use native.Mathlib.Omega.{arith}
use lib.Dec.{T, ltb, nleb→lt, ltb→lt, nltb→le, leb→le, le→leb, lt→ltb}
use lib.IntN.{ℤ, pos, negsuc, neg_ℤ, nat_abs, sub_ℕ, ◌+ℤ◌, ◌*ℤ◌}
use lib.Signed.{◌≤ℤ◌, ◌<ℤ◌, le_z, lt_z, lt_z_yes, lt_z_no, le_z_yes}
use mir.Syntax.{Width}
use mir.Val.{SFits, hbits}
use Rattle.whole.specs.Size.{P, N}

is_sub : (b : Bool) (x y : ℕ) → (T b → x < y) → (T (not b) → y ≤ x) → P (cond b (negsuc (y - suc x)) (pos (x - y))) + y ≡ x + N (cond b (negsuc (y - suc x)) (pos (x - y)))
is_sub true x y f g = let h = f tt in omega arith
is_sub false x y f g = let h = g tt in omega arith

pub sub_is : (x y : ℕ) → P (sub_ℕ x y) + y ≡ x + N (sub_ℕ x y)
sub_is x y = is_sub (ltb x y) x y (ltb→lt x y) (nltb→le x y)

pub add_is : (a b : ℤ) → P (a +ℤ b) + (N a + N b) ≡ (P a + P b) + N (a +ℤ b)
add_is (pos a) (pos b) = omega arith
add_is (pos a) (negsuc b) = omega (arith, sub_is a (suc b))
add_is (negsuc a) (pos b) = omega (arith, sub_is b (suc a))
add_is (negsuc a) (negsuc b) = omega arith

pub P_neg : (z : ℤ) → P (neg_ℤ z) ≡ N z
P_neg (pos zero) = refl
P_neg (pos (suc n)) = refl
P_neg (negsuc n) = refl

pub N_neg : (z : ℤ) → N (neg_ℤ z) ≡ P z
N_neg (pos zero) = refl
N_neg (pos (suc n)) = refl
N_neg (negsuc n) = refl

pub neg_is : (a : ℤ) → P (neg_ℤ a) + P a ≡ N a + N (neg_ℤ a)
neg_is a = omega (arith, P_neg a, N_neg a)

neg_pos : (n : ℕ) → P (neg_ℤ (pos n)) + n ≡ 0 + N (neg_ℤ (pos n))
neg_pos n = neg_is (pos n)

pub mul_is : (a b : ℤ) → P (a *ℤ b) + (P a * N b + N a * P b) ≡ (P a * P b + N a * N b) + N (a *ℤ b)
mul_is (pos a) (pos b) = omega arith
mul_is (pos a) (negsuc b) = omega (arith, neg_pos (a * suc b))
mul_is (negsuc a) (pos b) = omega (arith, neg_pos (suc a * b))
mul_is (negsuc a) (negsuc b) = omega arith

pub nat_abs_is : (z : ℤ) → nat_abs z ≡ P z + N z
nat_abs_is (pos n) = omega arith
nat_abs_is (negsuc n) = omega arith

-- one of the two parts is 0: for products
pub apart : (z : ℤ) → P z * N z ≡ 0
apart (pos n) = omega arith
apart (negsuc n) = omega arith

-- ════ the order and the equation, by the parts
pub le_in : (a b : ℤ) → a ≤ℤ b → P a + N b ≤ P b + N a
le_in (pos a) (pos b) h = omega (arith, leb→le a b h.le)
le_in (pos a) (negsuc b) h = absurd h.le
le_in (negsuc a) (pos b) h = omega arith
le_in (negsuc a) (negsuc b) h = omega (arith, leb→le b a h.le)

pub le_out : (a b : ℤ) → P a + N b ≤ P b + N a → a ≤ℤ b
le_out (pos a) (pos b) h = record { le = le→leb a b (omega arith) }
le_out (pos a) (negsuc b) h = let z : ⊥ = omega arith in absurd z
le_out (negsuc a) (pos b) h = record { le = tt }
le_out (negsuc a) (negsuc b) h = record { le = le→leb b a (omega arith) }

pub lt_in : (a b : ℤ) → a <ℤ b → P a + N b < P b + N a
lt_in (pos a) (pos b) h = omega (arith, ltb→lt a b h.lt)
lt_in (pos a) (negsuc b) h = absurd h.lt
lt_in (negsuc a) (pos b) h = omega arith
lt_in (negsuc a) (negsuc b) h = omega (arith, ltb→lt b a h.lt)

pub lt_out : (a b : ℤ) → P a + N b < P b + N a → a <ℤ b
lt_out (pos a) (pos b) h = record { lt = lt→ltb a b (omega arith) }
lt_out (pos a) (negsuc b) h = let z : ⊥ = omega arith in absurd z
lt_out (negsuc a) (pos b) h = record { lt = tt }
lt_out (negsuc a) (negsuc b) h = record { lt = lt→ltb b a (omega arith) }

pub eq_in : (a b : ℤ) → a ≡ b → P a + N b ≡ P b + N a
eq_in a b e = subst (λ (z : ℤ). P a + N z ≡ P z + N a) e (omega arith)

pub eq_out : (a b : ℤ) → P a + N b ≡ P b + N a → a ≡ b
eq_out (pos a) (pos b) h = let e : a ≡ b = omega arith in ap pos e
eq_out (pos a) (negsuc b) h = let z : ⊥ = omega arith in absurd z
eq_out (negsuc a) (pos b) h = let z : ⊥ = omega arith in absurd z
eq_out (negsuc a) (negsuc b) h = let e : a ≡ b = omega arith in ap negsuc e

-- each part goes with the order
pub P_mono : (a b : ℤ) → a ≤ℤ b → P a ≤ P b
P_mono (pos a) b h = go b (le_in (pos a) b h)
  where
    go : (b : ℤ) → a + N b ≤ P b + 0 → a ≤ P b
    go b h = omega arith
P_mono (negsuc a) b h = omega arith

pub N_mono : (a b : ℤ) → a ≤ℤ b → N b ≤ N a
N_mono a (pos b) h = omega arith
N_mono a (negsuc b) h = omega (arith, le_in a (negsuc b) h)

-- ---- what a width holds. One statement, since omega applies one rule to a fact. It splits once, and where that is not needed it says  P z + N z ≤ 2 ^ hbits w
pub sfits_in : (w : Width) (z : ℤ) → SFits w z → P z + N z + (1 - N z) ≤ 2 ^ hbits w
sfits_in w (pos n) h = omega (arith, h.sfits)
sfits_in w (negsuc n) h = omega (arith, h.sfits)

pub sfits_make : (w : Width) (z : ℤ) → P z < N z + 2 ^ hbits w → N z ≤ P z + 2 ^ hbits w → SFits w z
sfits_make w (pos n) h k = record { sfits = omega arith }
sfits_make w (negsuc n) h k = record { sfits = omega arith }

-- ---- tests
pub lt_yes : (a b : ℤ) → lt_z a b ≡ true → P a + N b < P b + N a
lt_yes a b e = lt_in a b (lt_z_yes (subst T (sym e) tt))

pub lt_no : (a b : ℤ) → lt_z a b ≡ false → P b + N a ≤ P a + N b
lt_no a b e = le_in b a (lt_z_no (subst (λ (t : Bool). T (not t)) (sym e) tt))

pub le_yes : (a b : ℤ) → le_z a b ≡ true → P a + N b ≤ P b + N a
le_yes a b e = le_in a b (le_z_yes (subst T (sym e) tt))

nle : (a b : ℤ) → T (not (le_z a b)) → T (lt_z b a)
nle (pos a) (pos b) t = lt→ltb b a (nleb→lt a b t)
nle (pos a) (negsuc b) t = tt
nle (negsuc a) (pos b) t = t
nle (negsuc a) (negsuc b) t = lt→ltb a b (nleb→lt b a t)

pub le_no : (a b : ℤ) → le_z a b ≡ false → P b + N a < P a + N b
le_no a b e = lt_in b a (lt_z_yes (nle a b (subst (λ (t : Bool). T (not t)) (sym e) tt)))

pub ruleset zin = (le_in, lt_in, eq_in, sfits_in, lt_yes, lt_no, le_yes, le_no)

pub ruleset zout = (le_out, lt_out, eq_out)
