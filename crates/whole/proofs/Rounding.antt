-- Rounding to the nearest, a half away from zero: the one number that `Rounds` says, between whole bounds where the fraction is, and how the
-- machine's quotient gives it. Assumes nothing.
use mathlib.Core.Path.{◌≡◌, refl, ◌∙◌, ap, ap₂}
use mathlib.Core.Logic.{⊎_elim}
use Prim.Native.Nat.{ℕ, zero, suc, ◌+◌, ◌*◌, ◌/◌, ◌<◌}
use native.Mathlib.Nat.{mul-le-mul_right, mod-lt, div-add-mod'}
use native.Mathlib.Omega.{arith}
use lib.IntN.{ℤ, pos, negsuc, neg_ℤ, nat_abs, ◌+ℤ◌, ◌-ℤ◌, ◌*ℤ◌}
use lib.Signed.{◌≤ℤ◌, ◌<ℤ◌, quot_z}
use Rattle.whole.specs.Rounding.{Rounds, rounded, RoundedIs, RoundedOnce, RoundedBetween, RoundingCases}
use Rattle.whole.proofs.Parts.{lt_in, zin}
use Rattle.whole.proofs.Signed.{zed, zle, zlt, zeq, ole, olt}
use Rattle.whole.proofs.Ring.{le_or_lt, le_antisymm}

-- document 01's own numbers, computed
pub rounding_cases : RoundingCases
unfolding rounded
rounding_cases = record { three_halves = refl; minus_three_halves = refl; minus_half = refl; third = refl; minus_two_thirds = refl }

-- ════ the one number that rounds so
pub rounded_rounds : (num : ℤ) (d : ℕ) → 0 < d → Rounds num d (rounded num d)
unfolding rounded
rounded_rounds (pos a) d h = let e = div-add-mod' (2 * a + d) (2 * d) in let l = mod-lt (2 * a + d) {m = 2 * d} (omega arith) in record {
  near_hi = zle (search zed depth 14) (omega arith);
  near_lo = zle (search zed depth 14) (omega arith);
  away_pos = λ _. zlt (search zed depth 14) (omega arith);
  away_neg = λ k. let z : ⊥ = omega (arith, zin) in absurd z;
}
rounded_rounds (negsuc a) d h = let e = div-add-mod' (2 * suc a + d) (2 * d) in let l = mod-lt (2 * suc a + d) {m = 2 * d} (omega arith) in record {
  near_hi = zle (search zed depth 14) (omega arith);
  near_lo = zle (search zed depth 14) (omega arith);
  away_pos = λ k. absurd k.le;
  away_neg = λ _. zlt (search zed depth 14) (omega arith);
}

pub rounds_lo : {num r : ℤ} {d : ℕ} (lo : ℤ) → 0 < d → Rounds num d r → (lo *ℤ pos d) ≤ℤ num → lo ≤ℤ r
rounds_lo {num} {r} {d} lo h k b = ⊎_elim (λ l. l) (λ g. absurd (bad g)) (le_or_lt lo r)
  where
    bad : r <ℤ lo → ⊥
    bad g = omega (arith, ole k.near_lo (search zed depth 14) (omega arith), ole b (search zed depth 14) (omega arith), mul-le-mul_right d (lt_in r lo g))

pub rounds_hi : {num r : ℤ} {d : ℕ} (hi : ℤ) → 0 < d → Rounds num d r → num ≤ℤ (hi *ℤ pos d) → r ≤ℤ hi
rounds_hi {num} {r} {d} hi h k b = ⊎_elim (λ l. l) (λ g. absurd (bad g)) (le_or_lt r hi)
  where
    bad : hi <ℤ r → ⊥
    bad g = omega (arith, ole k.near_hi (search zed depth 14) (omega arith), ole b (search zed depth 14) (omega arith), mul-le-mul_right d (lt_in hi r g))

-- and there is one such number
rounds_le : {num r r' : ℤ} {d : ℕ} → 0 < d → Rounds num d r → Rounds num d r' → r ≤ℤ r'
rounds_le {num} {r} {r'} {d} h k k' = ⊎_elim (λ l. l) (λ g. absurd (⊎_elim (λ n. bad⁺ g n) (λ n. bad⁻ g n) (le_or_lt (pos 0) num))) (le_or_lt r r')
  where
    bad⁺ : r' <ℤ r → pos 0 ≤ℤ num → ⊥
    bad⁺ g n = omega (arith, olt (k'.away_pos n) (search zed depth 14) (omega arith), ole k.near_hi (search zed depth 14) (omega arith), mul-le-mul_right d (lt_in r' r g))

    bad⁻ : r' <ℤ r → num <ℤ pos 0 → ⊥
    bad⁻ g n = omega (arith, ole k'.near_lo (search zed depth 14) (omega arith), olt (k.away_neg n) (search zed depth 14) (omega arith), mul-le-mul_right d (lt_in r' r g))

pub rounds_unique : {num r : ℤ} {d : ℕ} → 0 < d → Rounds num d r → r ≡ rounded num d
rounds_unique {num} {r} {d} h k = le_antisymm (rounds_le h k (rounded_rounds num d h)) (rounds_le h (rounded_rounds num d h) k)

-- as a machine computes it: the double and one more on its side of zero, halved towards zero
pub rounded_pos : {num den : ℤ} → pos 0 ≤ℤ num → pos 1 ≤ℤ den → quot_z (num +ℤ num +ℤ den) (den +ℤ den) ≡ rounded num (nat_abs den)
unfolding rounded
rounded_pos {num = pos a} {den = pos d} h k = ap pos (ap₂ ◌/◌ (omega arith) (omega arith))
rounded_pos {num = pos a} {den = negsuc d} h k = absurd k.le
rounded_pos {num = negsuc a} h k = absurd h.le

pub rounded_neg : {num den : ℤ} → num <ℤ pos 0 → pos 1 ≤ℤ den → quot_z (num +ℤ num -ℤ den) (den +ℤ den) ≡ rounded num (nat_abs den)
unfolding rounded
rounded_neg {num = pos a} h k = let z : ⊥ = omega (arith, zin) in absurd z
rounded_neg {num = negsuc a} {den = negsuc d} h k = absurd k.le
rounded_neg {num = negsuc a} {den = pos zero} h k = let z : ⊥ = omega (arith, zin) in absurd z
rounded_neg {num = negsuc a} {den = pos (suc d)} h k = ap (λ (z : ℤ). quot_z z (pos (suc d + suc d))) top ∙ ap (λ (n : ℕ). neg_ℤ (pos n)) (ap₂ ◌/◌ more two)
  where
    top : negsuc a +ℤ negsuc a -ℤ pos (suc d) ≡ negsuc (2 * suc a + d)
    top = zeq (search zed depth 14) (omega arith)

    more : suc (2 * suc a + d) ≡ 2 * suc a + suc d
    more = omega arith

    two : suc d + suc d ≡ 2 * suc d
    two = omega arith

-- ════ the statements of specs/
pub rounded_is : RoundedIs
rounded_is num den h = rounded_rounds num den h

pub rounded_once : RoundedOnce
rounded_once num r den h k = rounds_unique h k

pub rounded_between : RoundedBetween
rounded_between num lo hi den h a b = let k = rounded_rounds num den h in record { low = rounds_lo lo h k a; high = rounds_hi hi h k b }
