-- Demand 3: "Order does not matter: any order, any sharing among merged tables, gives the same sorted listing, total and answers, and an answer lies
-- between the least and the greatest value entered." With document 02: "Demand 3 … read over the readings entered and not withdrawn".
use Rattle.std.specs.Prelude.{◌≡◌, ℕ, ◌*◌, ◌-◌, ◌<◌, T, ℤ, pos, ◌*ℤ◌, length, get_or, take, ◌≤ℤ◌}
use mathlib.Core.List.{List, [], map, Perm}
use Rattle.whole.specs.Size.{Within}
use Rattle.whole.specs.Sum.{over}
use Rattle.whole.specs.Lists.{at, All, Each}
use Rattle.lattice.specs.Lattice.{Point}
use Rattle.lattice.specs.Weight.{W, least, greatest}
use Rattle.table.specs.Table.{Settings, Table, Row, whole, mass_of}
use Rattle.table.specs.Reading.{Reading, mass_from, value_from}
use Rattle.table.specs.Sound.{Fine}
use Rattle.book.specs.Book.{readings_of}
use Rattle.book.specs.Theorems.{Holds}
use Rattle.listing.specs.Order.{precedes}
use Rattle.listing.specs.Listing.{listed}
use Rattle.filter.specs.Answer.{code, answer}
use Rattle.filter.specs.Theorems.{SameAnswer}
use Rattle.promises.specs.History.{History, settings_in, run, Begun, taken, NoneRefused, readings}

-- a stored point is a lattice point with what the readings give to it, which is above 0
pub record RowFrom (d S : ℕ) (rs : List Reading) (r : Row) : Type 0 where
  pub point : Point d (whole r.key)
  pub mass_is : r.mass ≡ mass_from d S rs (whole r.key)
  pub value_is : r.value ≡ value_from d S rs (whole r.key)
  pub some : pos 1 ≤ℤ r.mass

-- The sorted listing of readings, which speaks of no table: such rows, ascending, and no lattice point is missing to which a reading gives weight.
pub record ListedFrom (d S : ℕ) (rs : List Reading) (l : List Row) : Type 0 where
  pub each : All (RowFrom d S rs) l
  pub ascending : Each (λ a b. T (precedes a.key b.key)) l
  pub full : (y : List ℤ) → Point d y → pos 1 ≤ℤ mass_from d S rs y → (i : ℕ) × (i < length l) × (get_or (map (λ r. r.key) l) i [] ≡ take d y)

-- the values entered: the least and the greatest of them
abbrev pub value_in : List Reading → ℕ → ℤ
value_in rs i = at (map (λ r. r.value) rs) i

abbrev pub least_in : List Reading → ℤ
least_in rs = least (length rs - 1) (value_in rs)

abbrev pub greatest_in : List Reading → ℤ
greatest_in rs = greatest (length rs - 1) (value_in rs)

-- What a table c, t is held to that was made of the readings rs:
pub record MadeOf (d S : ℕ) (rs : List Reading) (c : Settings) (t : Table) : Type 0 where
  pub fine : Fine c t
  -- it counts them,
  pub counts : t.n ≡ length rs
  -- its points are listed as theirs,
  pub listing : ListedFrom d S rs (listed c t)
  pub points : t.m ≡ length (listed c t)
  -- its total mass is W times their number,
  pub total : over (listed c t) mass_of ≡ pos (W d S * length rs)
  -- its total of value sums is W times the sum of the values entered: no dye is lost,
  pub value_total : over (listed c t) (λ r. r.value) ≡ pos (W d S) *ℤ over rs (λ r. r.value)
  -- and "an answer lies between the least and the greatest value entered".
  pub between : (q : List ℤ) → code c t q ≡ 0 → Within (least_in rs) (greatest_in rs) (answer c t q)

-- Statement: every table that was begun is sound with its book, and the book holds the readings that its calls took and that were not taken back, "in order
-- of entry, merged ones behind".
abbrev pub BookIsTaken : Type 0
BookIsTaken = (d S : ℕ) (h : History) → Begun d S h → Holds (settings_in d S h) (run d S h) (taken d S h)

-- Statement: so it is made of these readings, whatever was refused on the way.
abbrev pub MadeOfThoseTaken : Type 0
MadeOfThoseTaken = (d S : ℕ) (h : History) → Begun d S h → MadeOf d S (readings_of (taken d S h)) (settings_in d S h) (run d S h).table

-- Statement: where no call was refused, these are all of its readings.
abbrev pub AllTaken : Type 0
AllTaken = (d S : ℕ) (h : History) → NoneRefused d S h → Begun d S h × (taken d S h ≡ readings d h)

-- "the same sorted listing, total and answers"
pub record Same (c : Settings) (t : Table) (b : Settings) (s : Table) : Type 0 where
  pub same_listing : listed c t ≡ listed b s
  pub same_readings : t.n ≡ s.n
  pub same_points : t.m ≡ s.m
  pub same_total : over (listed c t) mass_of ≡ over (listed b s) mass_of
  pub same_value_total : over (listed c t) (λ r. r.value) ≡ over (listed b s) (λ r. r.value)
  pub same_answers : (q : List ℤ) → SameAnswer c t b s q

-- Statement: "any order, any sharing among merged tables", of two histories that took the same readings and did not take them back, under whatever numbers.
abbrev pub TakenInAnyOrder : Type 0
TakenInAnyOrder = (d S : ℕ) (h g : History) → Begun d S h → Begun d S g → Perm (readings_of (taken d S h)) (readings_of (taken d S g))
    → Same (settings_in d S h) (run d S h).table (settings_in d S g) (run d S g).table

-- Statement: the same of two histories in which no call was refused, of all their readings.
abbrev pub OrderDoesNotMatter : Type 0
OrderDoesNotMatter = (d S : ℕ) (h g : History) → NoneRefused d S h → NoneRefused d S g → Perm (readings_of (readings d h)) (readings_of (readings d g))
    → Same (settings_in d S h) (run d S h).table (settings_in d S g) (run d S g).table
