-- Laws over ℤ variables in one line: `on` puts a difference of natural numbers for each variable, `simp difs` makes each side of a sum,
-- a difference or a product one difference, and `omega ints` does the rest:
--     law n = on _ λ p m. on _ λ q r. simp difs (omega ints)
-- It proves ring identities and linear goals with their hypotheses. ℕ arguments come first. Assumes nothing.
use mathlib.Core.Path.{◌≡◌, sym, ap, subst}
use Prim.Native.Nat.{ℕ, suc, ◌+◌, ◌*◌, ◌≤◌, ◌<◌}
use native.Mathlib.Omega.{arith}
use lib.IntN.{ℤ, pos, negsuc, neg_ℤ, ◌+ℤ◌, ◌*ℤ◌, sub_ℕ}
use lib.Signed.{◌≤ℤ◌, ◌<ℤ◌}
use Rattle.whole.specs.Size.{P, N}
use Rattle.whole.proofs.Parts.{sub_is, add_is, mul_is, P_neg, N_neg, eq_in, eq_out, le_in, le_out, lt_in, lt_out}

unfoldable pub dif : ℕ → ℕ → ℤ
dif p m = sub_ℕ p m

pub dif_pn : (p m : ℕ) → p + N (dif p m) ≡ P (dif p m) + m
unfolding dif
dif_pn p m = sym (sub_is p m)

pub dif_same : (p m p' m' : ℕ) → p + m' ≡ p' + m → dif p m ≡ dif p' m'
dif_same p m p' m' e = eq_out (dif p m) (dif p' m') (omega (arith, dif_pn p m, dif_pn p' m'))

pub same_dif : (p m p' m' : ℕ) → dif p m ≡ dif p' m' → p + m' ≡ p' + m
same_dif p m p' m' e = omega (arith, dif_pn p m, dif_pn p' m', eq_in (dif p m) (dif p' m') e)

pub dif_add : (p m p' m' : ℕ) → dif p m +ℤ dif p' m' ≡ dif (p + p') (m + m')
dif_add p m p' m' = eq_out (dif p m +ℤ dif p' m') (dif (p + p') (m + m')) (omega (arith, add_is (dif p m) (dif p' m'), dif_pn p m, dif_pn p' m', dif_pn (p + p') (m + m')))

pub dif_neg : (p m : ℕ) → neg_ℤ (dif p m) ≡ dif m p
dif_neg p m = eq_out (neg_ℤ (dif p m)) (dif m p) (omega (arith, P_neg (dif p m), N_neg (dif p m), dif_pn p m, dif_pn m p))

-- the general product, for numbers as differences in ℕ
cross : (p m P₁ N₁ p' m' P₂ N₂ : ℕ) → p + N₁ ≡ P₁ + m → p' + N₂ ≡ P₂ + m' → p * p' + m * m' + (P₁ * N₂ + N₁ * P₂) ≡ p * m' + m * p' + (P₁ * P₂ + N₁ * N₂)
cross p m P₁ N₁ p' m' P₂ N₂ e f = omega (arith, ap (λ (x : ℕ). x * p') e, ap (λ (x : ℕ). x * m') e, ap (λ (x : ℕ). P₁ * x) f, ap (λ (x : ℕ). N₁ * x) f)

pub dif_mul : (p m p' m' : ℕ) → dif p m *ℤ dif p' m' ≡ dif (p * p' + m * m') (p * m' + m * p')
dif_mul p m p' m' = eq_out (dif p m *ℤ dif p' m') (dif (p * p' + m * m') (p * m' + m * p'))
    (omega (
      arith,
      mul_is (dif p m) (dif p' m'),
      dif_pn (p * p' + m * m') (p * m' + m * p'),
      cross p m (P (dif p m)) (N (dif p m)) p' m' (P (dif p' m')) (N (dif p' m')) (dif_pn p m) (dif_pn p' m'),
    ))

pub pos_dif : (p : ℕ) → pos p ≡ dif p 0
pos_dif p = eq_out (pos p) (dif p 0) (omega (arith, dif_pn p 0))

pub negsuc_dif : (m : ℕ) → negsuc m ≡ dif 0 (suc m)
negsuc_dif m = eq_out (negsuc m) (dif 0 (suc m)) (omega (arith, dif_pn 0 (suc m)))

pub z_dif : (z : ℤ) → dif (P z) (N z) ≡ z
z_dif z = eq_out (dif (P z) (N z)) z (omega (arith, dif_pn (P z) (N z)))

pub on : (Q : ℤ → Type 0) → ((p m : ℕ) → Q (dif p m)) → (z : ℤ) → Q z
on Q f z = subst Q (z_dif z) (f (P z) (N z))

pub ruleset difs = (dif_mul, dif_neg, dif_add, pos_dif, negsuc_dif)

pub dif_le : (p m p' m' : ℕ) → p + m' ≤ p' + m → dif p m ≤ℤ dif p' m'
dif_le p m p' m' h = le_out (dif p m) (dif p' m') (omega (arith, dif_pn p m, dif_pn p' m'))

pub le_dif : (p m p' m' : ℕ) → dif p m ≤ℤ dif p' m' → p + m' ≤ p' + m
le_dif p m p' m' h = omega (arith, dif_pn p m, dif_pn p' m', le_in (dif p m) (dif p' m') h)

pub dif_lt : (p m p' m' : ℕ) → p + m' < p' + m → dif p m <ℤ dif p' m'
dif_lt p m p' m' h = lt_out (dif p m) (dif p' m') (omega (arith, dif_pn p m, dif_pn p' m'))

pub lt_dif : (p m p' m' : ℕ) → dif p m <ℤ dif p' m' → p + m' < p' + m
lt_dif p m p' m' h = omega (arith, dif_pn p m, dif_pn p' m', lt_in (dif p m) (dif p' m') h)

pub ruleset ints = (arith, dif_same, same_dif, dif_le, le_dif, dif_lt, lt_dif)
