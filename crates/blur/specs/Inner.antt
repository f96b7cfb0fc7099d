-- What the functions of the blur ask of one another and leave.
use Rattle.std.specs.Prelude.{◌≡◌, Bool, true, false, cond, Option, Some, None, List, ℕ, ◌+◌, ◌*◌, ◌^◌, ◌<◌, ◌≤◌, ℤ, pos, length}
use Rattle.whole.specs.Size.{Abs≤}
use Rattle.whole.specs.Lists.{at}
use Rattle.lattice.specs.Limits.{most_d, most_coords, most_value, most_readings, most_W, farthest_point}
use Rattle.index.specs.Indexed.{Indexed}
use Rattle.table.specs.Table.{Settings, Table, key, entry}
use Rattle.table.specs.Sound.{Ranged, Shape, Fine}
use Rattle.blur.specs.declared.pair.Pair.{Pair}
use Rattle.blur.specs.Blur.{plus_step, minus_step, pass, is_stored, masses, values}
use Rattle.blur.specs.Sheet.{sheet, blurred_sheet, clear_sheet}

-- the greatest value sum of a table
abbrev pub most_sum : ℕ
most_sum = most_value * (most_W * most_readings)

-- what the passes make of it at most, six of them, one for each coordinate: 4^6·384·4,096·1,000,000
abbrev pub most_blurred : ℕ
most_blurred = 4 ^ most_coords * most_sum

-- a key that can be moved by a step in 32 bits
pub record Movable (y : List ℤ) : Type 0 where
  pub few : length y ≤ most_d
  pub near : (i : ℕ) → i < length y → Abs≤ (at y i) farthest_point

-- the neighbour on one side
abbrev pub neighbour_of : Bool → ℕ → ℕ → List ℤ → List ℤ
neighbour_of plus d k y = cond plus (plus_step d k y) (minus_step d k y)

-- A table whose points are found; its sums are a sheet, and not asked about.
pub record Readable (c : Settings) (t : Table) : Type 0 where
  pub ranged : Ranged c
  pub shape : Shape c t
  pub indexed : Indexed c.C t.m (key c t) (entry t)

-- what the sheet has for a key
pub record PairIs (c : Settings) (t : Table) (y : List ℤ) (stored : Bool) (mass value : ℤ) : Type 0 where
  pub stored_is : stored ≡ is_stored c t y
  pub mass_is : mass ≡ masses c t y
  pub value_is : value ≡ values c t y

-- `PairIs` of the pair that is found for a key; where none is, the two numbers are 0
abbrev pub PairFound : Settings → Table → List ℤ → Option Pair → Type 0
PairFound c t y None = PairIs c t y false (pos 0) (pos 0)
PairFound c t y (Some pair) = PairIs c t y true pair.mass pair.value

-- the two numbers alone, 0 where the point is not stored
pub record NumbersAre (c : Settings) (t : Table) (y : List ℤ) (mass value : ℤ) : Type 0 where
  pub mass_is : mass ≡ masses c t y
  pub value_is : value ≡ values c t y

-- A pass can be made: the neighbours' keys stay in 32 bits, and the new numbers in 64.
pub record Passable (c : Settings) (t : Table) : Type 0 where
  pub readable : Readable c t
  pub movable : (i : ℕ) → i < t.m → Movable (key c t i)
  pub small : (j : ℕ) → Abs≤ (at t.sums j) most_blurred

-- the new pair of a point
pub record NewPair (c : Settings) (t : Table) (k : ℕ) (y : List ℤ) (mass value : ℤ) : Type 0 where
  pub mass_is : mass ≡ pass (is_stored c t) c.d k (masses c t) y
  pub value_is : value ≡ pass (is_stored c t) c.d k (values c t) y

-- A sheet has the new pairs of the first n points.
pub record NewPairs (c : Settings) (t : Table) (k n : ℕ) (to : List ℤ) : Type 0 where
  pub size : length to ≡ 2 * c.C
  pub pairs : (i : ℕ) → i < n → NewPair c t k (key c t i) (at to (2 * i)) (at to (2 * i + 1))

-- A pass there and back can be made: past the pairs the first sheet is 0, and there is a second.
pub record Returning (c : Settings) (t : Table) (second : List ℤ) : Type 0 where
  pub passable : Passable c t
  pub rest : (j : ℕ) → 2 * t.m ≤ j → at t.sums j ≡ pos 0
  pub second_size : length second ≡ 2 * c.C

-- the first sheet after it
abbrev pub passed_sheet : Settings → Table → ℕ → List ℤ
passed_sheet c t k = sheet c t (pass (is_stored c t) c.d k (masses c t)) (pass (is_stored c t) c.d k (values c t))

-- A sound table with its own pairs on the first sheet, and a second sheet.
pub record Blurrable (c : Settings) (t : Table) (second : List ℤ) : Type 0 where
  pub readable : Readable c t
  pub movable : (i : ℕ) → i < t.m → Movable (key c t i)
  pub small : (j : ℕ) → Abs≤ (at t.sums j) most_sum
  pub rest : (j : ℕ) → 2 * t.m ≤ j → at t.sums j ≡ pos 0
  pub second_size : length second ≡ 2 * c.C

-- A sound table and two sheets.
pub record Sheets (c : Settings) (t : Table) (first second : List ℤ) : Type 0 where
  pub fine : Fine c t
  pub first_size : length first ≡ 2 * c.C
  pub second_size : length second ≡ 2 * c.C

-- "Afterwards the first 2·m numbers of the first sheet hold the blurred pairs in stored order; every other number of both sheets is 0."
pub record Blurred (c : Settings) (t : Table) (first second : List ℤ) : Type 0 where
  pub first_is : first ≡ blurred_sheet c t
  pub second_is : second ≡ clear_sheet c
