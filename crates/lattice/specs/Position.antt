-- Positions, and how a list of coordinates is judged to be one.
use Rattle.std.specs.Prelude.{◌≡◌, ◌↔◌, Bool, List, [], ◌∷◌, ℕ, suc, ◌≤◌, ◌<◌, ℤ, pos, nat_abs, length, leb, eqb}
use Rattle.whole.specs.Size.{Abs≤}
use Rattle.whole.specs.Sum.{sum, all}
use Rattle.whole.specs.Lists.{at}
use Rattle.lattice.specs.Limits.{farthest}
use Rattle.lattice.specs.Refusals.{Tests, first, coordinate_beyond, sum_not_zero}

-- "A position is d+1 signed 32-bit numbers with sum 0, each from -1,000,000 to 1,000,000."
pub record Position (d : ℕ) (x : List ℤ) : Type 0 where
  pub size : length x ≡ suc d
  pub near : (i : ℕ) → i < suc d → Abs≤ (at x i) farthest
  pub zero_sum : sum (suc d) (at x) ≡ pos 0

-- every coordinate is within ±1,000,000
unfoldable pub all_near : List ℤ → Bool
all_near x = all (length x) (λ i. leb (nat_abs (at x i)) farthest)

-- the coordinates sum to 0
unfoldable pub sums_to_zero : List ℤ → Bool
sums_to_zero x = eqb (nat_abs (sum (length x) (at x))) 0

-- what is tested of a position: 4 before 5
abbrev pub position_tests : List ℤ → Tests
position_tests x = (all_near x, coordinate_beyond) ∷ (sums_to_zero x, sum_not_zero) ∷ []

-- the number of a list of coordinates, and 0 for a position
unfoldable pub judged : List ℤ → ℕ
judged x = first (position_tests x)

-- Statement: each number is met exactly when its condition holds and no earlier one does.
pub record Judged (d : ℕ) (x : List ℤ) : Type 0 where
  pub none : judged x ≡ 0 ↔ Position d x
  pub four : judged x ≡ coordinate_beyond ↔ (i : ℕ) × (i < suc d) × (farthest < nat_abs (at x i))
  pub five : judged x ≡ sum_not_zero ↔ ((i : ℕ) → i < suc d → nat_abs (at x i) ≤ farthest) × (sum (suc d) (at x) ≡ pos 0 → ⊥)

abbrev pub JudgedRight : Type 0
JudgedRight = (d : ℕ) (x : List ℤ) → length x ≡ suc d → Judged d x
