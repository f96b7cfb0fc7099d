-- The quotient rounded to the nearest whole number, where a half goes away from zero.
use Rattle.std.specs.Prelude.{◌≡◌, ℕ, suc, ◌+◌, ◌*◌, ◌/◌, ◌<◌, ℤ, pos, negsuc, neg_ℤ, ◌-ℤ◌, ◌*ℤ◌, ◌≤ℤ◌, ◌<ℤ◌}
use Rattle.whole.specs.Size.{Abs≤, Within}

-- "Rounded to the nearest whole number, a half goes away from zero": r is at most a half from num / den, and
-- where it is exactly a half, on the side away from 0.
pub record Rounds (num : ℤ) (den : ℕ) (r : ℤ) : Type 0 where
  pub near_hi : (pos 2 *ℤ (r *ℤ pos den -ℤ num)) ≤ℤ pos den
  pub near_lo : (pos 2 *ℤ (num -ℤ r *ℤ pos den)) ≤ℤ pos den
  pub away_pos : pos 0 ≤ℤ num → (pos 2 *ℤ (num -ℤ r *ℤ pos den)) <ℤ pos den
  pub away_neg : num <ℤ pos 0 → (pos 2 *ℤ (r *ℤ pos den -ℤ num)) <ℤ pos den

-- the number that it is
unfoldable pub rounded : ℤ → ℕ → ℤ
rounded (pos a) den = pos ((2 * a + den) / (2 * den))
rounded (negsuc a) den = neg_ℤ (pos ((2 * suc a + den) / (2 * den)))

-- Statement: `rounded` rounds so, and there is no other such number.
abbrev pub RoundedIs : Type 0
RoundedIs = (num : ℤ) (den : ℕ) → 0 < den → Rounds num den (rounded num den)

abbrev pub RoundedOnce : Type 0
RoundedOnce = (num r : ℤ) (den : ℕ) → 0 < den → Rounds num den r → r ≡ rounded num den

-- Statement: a quotient between two whole numbers is rounded to one between them.
abbrev pub RoundedBetween : Type 0
RoundedBetween = (num lo hi : ℤ) (den : ℕ) → 0 < den → (lo *ℤ pos den) ≤ℤ num → num ≤ℤ (hi *ℤ pos den) → Within lo hi (rounded num den)

-- "*Rounding: 3/2 is 2, -3/2 is -2, -1/2 is -1, 1/3 is 0, -2/3 is -1."
pub record RoundingCases : Type 0 where
  pub three_halves : rounded (pos 3) 2 ≡ pos 2
  pub minus_three_halves : rounded (negsuc 2) 2 ≡ negsuc 1
  pub minus_half : rounded (negsuc 0) 2 ≡ negsuc 0
  pub third : rounded (pos 1) 3 ≡ pos 0
  pub minus_two_thirds : rounded (negsuc 1) 3 ≡ negsuc 0

-- "below 2.5·10^18"
abbrev pub most_fraction : ℕ
most_fraction = 2500000000000000000

-- A fraction that a program rounds in 64 bits: both parts are small, and the divisor is positive.
pub record Fraction (num den : ℤ) : Type 0 where
  pub num_small : Abs≤ num most_fraction
  pub den_small : Within (pos 1) (pos most_fraction) den
