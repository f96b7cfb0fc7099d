-- What the functions behind `spread_reading` and `sums_are_theirs` ask of one another. No contract that another crate sees cites this file.
use Rattle.std.specs.Prelude.{◌≡◌, List, ℕ, ◌+◌, ◌*◌, ◌≤◌, ◌<◌, ℤ, nat_abs, length}
use Rattle.whole.specs.Size.{Abs≤}
use Rattle.whole.specs.Lists.{collect}
use Rattle.lattice.specs.Limits.{most_d, most_value, most_readings}
use Rattle.table.specs.Table.{Settings, Row}
use Rattle.table.specs.Reading.{shares, Lawful}
use Rattle.table.specs.Sound.{Ranged}
use Rattle.pour.specs.Inner.{most_share, most_rows}
use Rattle.shares.specs.Slots.{Arrays}
use Rattle.book.specs.Book.{entry_of}
use Rattle.spread.specs.Spreading.{SheetAfter}

-- A row that adds no more than a share of a reading does.
pub record Light (r : Row) : Type 0 where
  pub mass_small : Abs≤ r.mass most_share
  pub value_small : Abs≤ r.value most_share

-- A row, and a sheet that may take it: after so many rows one more is not too many.
pub record RowToLift (d C : ℕ) (keys : List ℤ) (index : List ℕ) (sheet : List ℤ) (r : Row) : Type 0 where
  pub rows : ℕ
  pub few : rows + 1 ≤ most_rows
  pub ready : SheetAfter rows d C keys index sheet
  pub size : length r.key ≡ d
  pub light : Light r

-- The slots of a simplex, and a sheet that may take the rows of so many of them.
pub record SlotsToLift (d C : ℕ) (keys : List ℤ) (index : List ℕ) (sheet : List ℤ) (weights : List ℕ) (coords : List ℤ) (v : ℤ) (slots : ℕ) : Type 0 where
  pub d_most : d ≤ most_d
  pub rows : ℕ
  pub few : rows + slots ≤ most_rows
  pub ready : SheetAfter rows d C keys index sheet
  pub arrays : Arrays weights coords
  pub fair : nat_abs v ≤ most_value

-- the shares of the first n readings of a book, one reading after the other
unfoldable pub shares_to : ℕ → ℕ → List ℤ → ℕ → List Row
shares_to d S book n = collect n (λ j. shares d S (entry_of d book j).reading)

-- The first n readings of a book, within the limits, and a sheet that is 0.
pub record BookToSpread (c : Settings) (n : ℕ) (keys : List ℤ) (index : List ℕ) (sheet book : List ℤ) : Type 0 where
  pub ranged : Ranged c
  pub few : n ≤ most_readings
  pub ready : SheetAfter 0 c.d c.C keys index sheet
  pub fit : (c.d + 3) * n ≤ length book
  pub lawful : (j : ℕ) → j < n → Lawful c.d (entry_of c.d book j).reading
