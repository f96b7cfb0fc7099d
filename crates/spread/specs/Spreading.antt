-- Rows added to the points that are stored, on a sheet: a list of pairs, mass and value sum of each point, that stands in the place of a table's sums.
use Rattle.std.specs.Prelude.{◌≡◌, List, [], ◌∷◌, ℕ, zero, suc, ◌+◌, ◌*◌, ◌≤◌, ◌<◌, ℤ, ◌+ℤ◌, length}
use Rattle.whole.specs.Size.{Abs≤}
use Rattle.whole.specs.Lists.{at}
use Rattle.lattice.specs.Limits.{most_coords}
use Rattle.index.specs.Keys.{key_at}
use Rattle.index.specs.Search.{entry_at, search, Searchable}
use Rattle.table.specs.Table.{Settings, Table, Row, keys_of}
use Rattle.table.specs.Pour.{set_pair, news_in}
use Rattle.table.specs.Reading.{reading_of, Lawful}
use Rattle.table.specs.Sound.{Ranged, Fine}
use Rattle.table.specs.Heads.{Read, Slice}
use Rattle.pour.specs.Inner.{most_share, most_rows}
use Rattle.book.specs.Book.{entry_of}

-- what stands where the search for a key in these lent keys and this lent index ends: 0, or i + 1 where point i is the one sought
abbrev pub found_in : Settings → List ℤ → List ℕ → List ℤ → ℕ
found_in c keys index k = entry_at index (search c.C (key_at c.d keys) (entry_at index) k)

-- a row added, by what the search for its key found: to no pair where that is 0, else to that of the point found
abbrev pub lift_at : List ℤ → Row → ℕ → List ℤ
lift_at sheet r zero = sheet
lift_at sheet r (suc i) = set_pair sheet i (at sheet (2 * i) +ℤ r.mass) (at sheet (2 * i + 1) +ℤ r.value)

-- one after the other
unfoldable pub lift_all : Settings → List ℤ → List ℕ → List ℤ → List Row → List ℤ
lift_all c keys index sheet [] = sheet
lift_all c keys index sheet (r ∷ rs) = lift_all c keys index (lift_at sheet r (found_in c keys index r.key)) rs

-- How many rows have a key that is not stored, and the sheet that is left, with the others added.
pub record Lifts (c : Settings) (keys : List ℤ) (index : List ℕ) (sheet : List ℤ) (rs : List Row) (missing : ℕ) (left : List ℤ) : Type 0 where
  pub missing_are : missing ≡ news_in c keys index (keys_of rs)
  pub left_is : left ≡ lift_all c keys index sheet rs

-- `Lifts` of three slices that are lent, two of them to be read, and of what is left in the third, the sheet
abbrev pub LiftsIn : Settings → Read ℤ → Read ℕ → Slice ℤ → List Row → ℕ → Type 0
LiftsIn c keys index sheet rs missing = Lifts c keys.entry.now index.entry.now sheet.entry.now rs missing sheet.exit.now

-- numbers as small as so many rows make them where they were 0
abbrev pub SmallTo : ℕ → List ℤ → Type 0
SmallTo rows sheet = (p : ℕ) → Abs≤ (at sheet p) (most_share * rows)

-- A sheet beside lent keys and a lent index, after so many rows since it was 0: a search may be made, each point that the index names has a pair, and
-- the numbers are small.
pub record SheetAfter (rows d C : ℕ) (keys : List ℤ) (index : List ℕ) (sheet : List ℤ) : Type 0 where
  pub searchable : Searchable d C keys index
  pub paired : (p : ℕ) → 2 * entry_at index p ≤ length sheet
  pub small : SmallTo rows sheet

-- A reading within the limits, and a sheet that may take its shares: after so many rows these are not too many.
pub record ToSpread (c : Settings) (keys : List ℤ) (index : List ℕ) (sheet reading : List ℤ) : Type 0 where
  pub ranged : Ranged c
  pub rows : ℕ
  pub few : rows + most_coords ≤ most_rows
  pub ready : SheetAfter rows c.d c.C keys index sheet
  pub size : length reading ≡ c.d + 2
  pub lawful : Lawful c.d (reading_of c.d reading)

-- A sound table, and a book whose first n entries are readings within the limits.
pub record Comparable (c : Settings) (t : Table) (book : List ℤ) : Type 0 where
  pub fine : Fine c t
  pub fit : (c.d + 3) * t.n ≤ length book
  pub lawful : (j : ℕ) → j < t.n → Lawful c.d (entry_of c.d book j).reading
