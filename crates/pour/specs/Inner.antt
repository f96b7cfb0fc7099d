-- What the functions that add a row ask of one another.
use Rattle.std.specs.Prelude.{◌≡◌, List, ℕ, suc, ◌+◌, ◌*◌, ◌<◌, ◌≤◌, ℤ, length, set}
use Rattle.whole.specs.Size.{Abs≤}
use Rattle.whole.specs.Lists.{at, splice}
use Rattle.lattice.specs.Limits.{most_coords, most_C, most_W, most_readings, most_value}
use Rattle.table.specs.Table.{Row}
use Rattle.table.specs.Pour.{set_pair}

-- what one row of a reading adds to a number of the sums at most
abbrev pub most_share : ℕ
most_share = most_W * most_value

-- as many rows as 4,096 readings have at most: each has one for every remainder
abbrev pub most_rows : ℕ
most_rows = most_coords * most_readings

-- A pair that may be raised: the point has one, and its numbers and those that are added are within what so many rows add, so that the sums are far
-- within 64 bits.
pub record Raisable (sums : List ℤ) (i : ℕ) (mass value : ℤ) : Type 0 where
  pub inside : 2 * i + 1 < length sums
  pub mass_there : Abs≤ (at sums (2 * i)) (most_share * most_rows)
  pub value_there : Abs≤ (at sums (2 * i + 1)) (most_share * most_rows)
  pub mass_more : Abs≤ mass (most_share * most_rows)
  pub value_more : Abs≤ value (most_share * most_rows)

-- A key that may be appended as point m: there is room for its stretch and its pair, and the place is one of the index.
pub record Appendable (m : ℕ) (keys sums : List ℤ) (index : List ℕ) (place : ℕ) (key : List ℤ) : Type 0 where
  pub few : m < most_C
  pub stretch : length key * m + length key ≤ length keys
  pub pair : 2 * m + 1 < length sums
  pub place_in : place < length index

-- What is left then: the key in a stretch of its length, the pair, the place that names the point, and one point more.
pub record Appends (m : ℕ) (keys sums : List ℤ) (index : List ℕ) (place : ℕ) (r : Row) (points : ℕ) (keys' sums' : List ℤ) (index' : List ℕ) : Type 0 where
  pub points_are : points ≡ suc m
  pub keys_are : keys' ≡ splice keys (length r.key * m) r.key
  pub sums_are : sums' ≡ set_pair sums m r.mass r.value
  pub index_are : index' ≡ set index place (suc m)
