-- Equal keys: what the tests say; the stretch of a point as a part of the keys. Assumes nothing.
use Rattle.std.proofs.Common.{◌≡◌, ℕ, suc, ◌+◌, ◌-◌, ◌*◌, ◌<◌, ◌≤◌, T, false, eqb, List, [], ◌∷◌, length, take, drop, ℤ, pos, negsuc, sym, refl, ap, subst, ap₂, mul-le-mul_left, arith, eqb→eq}
use lib.Dec.{eqb_refl}
use Rattle.std.specs.Bool.{Decides}
use Rattle.whole.specs.Lists.{at}
use Rattle.whole.proofs.Tests.{and_l, and_r, and_i, T_true, T_false}
use Rattle.whole.proofs.Lists.{length_tab, part_tab}
use Rattle.index.specs.Keys.{eq_z, same, key_at}

-- ---- the tests and what they say
pub eq-eqb : (a b : ℕ) → a ≡ b → T (eqb a b)
eq-eqb a b e = subst (λ (n : ℕ). T (eqb a n)) e (eqb_refl a)

pub eq_z_eq : (a b : ℤ) → T (eq_z a b) → a ≡ b
eq_z_eq (pos a) (pos b) t = ap pos (eqb→eq a b t)
eq_z_eq (pos a) (negsuc b) t = absurd t
eq_z_eq (negsuc a) (pos b) t = absurd t
eq_z_eq (negsuc a) (negsuc b) t = ap negsuc (eqb→eq a b t)

pub eq_z_refl : (a : ℤ) → T (eq_z a a)
eq_z_refl (pos a) = eqb_refl a
eq_z_refl (negsuc a) = eqb_refl a

pub same_eq : (k l : List ℤ) → T (same k l) → k ≡ l
unfolding same
same_eq [] [] t = refl
same_eq [] (b ∷ l) t = absurd t
same_eq (a ∷ k) [] t = absurd t
same_eq (a ∷ k) (b ∷ l) t = ap₂ ◌∷◌ (eq_z_eq a b (and_l (eq_z a b) (same k l) t)) (same_eq k l (and_r (eq_z a b) (same k l) t))

pub same_refl : (k : List ℤ) → T (same k k)
unfolding same
same_refl [] = tt
same_refl (a ∷ k) = and_i (eq_z a a) (same k k) (eq_z_refl a) (same_refl k)

pub eq_same : (k l : List ℤ) → k ≡ l → T (same k l)
eq_same k l e = subst (λ (l : List ℤ). T (same k l)) e (same_refl k)

-- ---- two keys compared
pub same_decides : (a b : List ℤ) → Decides (same a b) (a ≡ b)
same_decides a b = (λ t. same_eq a b (subst T (sym t) tt), λ e. T_true (same a b) (eq_same a b e))

pub same_lengths : (a b : List ℤ) → (length a ≡ length b → ⊥) → false ≡ same a b
same_lengths a b h = sym (T_false (same a b) (λ t. h (ap length (same_eq a b t))))

-- ---- the stretch of a point
pub key_at_length : (d : ℕ) (keys : List ℤ) (i : ℕ) → length (key_at d keys i) ≡ d
unfolding key_at
key_at_length d keys i = length_tab d (λ j. at keys (d * i + j))

-- it lies within the keys, where there are m
pub stretch_fits : (d i m k : ℕ) → i < m → d * m ≤ k → d * i + d ≤ k
stretch_fits d i m k l h = let n : d * suc i ≤ d * m = mul-le-mul_left d l in omega arith

-- a part from a to a + d, as the code lends it
pub key_part : (d : ℕ) (keys : List ℤ) (i : ℕ) → d * i + d ≤ length keys → take (d * i + d - d * i) (drop (d * i) keys) ≡ key_at d keys i
unfolding key_at
key_part d keys i p = part_tab keys (d * i) d (pos 0) p
