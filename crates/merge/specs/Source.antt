-- The rows of a source in its lent keys and sums, one after the other: what functions inside the crate ask of one another.
use Rattle.std.specs.Prelude.{◌≡◌, true, List, ℕ, ◌+◌, ◌*◌, ◌≤◌, ℤ, length}
use Rattle.whole.specs.Lists.{at, tab}
use Rattle.lattice.specs.Limits.{most_d, most_C, most_readings}
use Rattle.index.specs.Keys.{key_at}
use Rattle.index.specs.Search.{Searchable}
use Rattle.table.specs.declared.Head.{Head}
use Rattle.table.specs.Table.{Settings, Table, Row}
use Rattle.table.specs.Inner.{InTurn}
use Rattle.book.specs.Book.{number_at, numbers_apart}

-- row i of a source
abbrev pub source_row : ℕ → List ℤ → List ℤ → ℕ → Row
source_row d keys sums i = record { key = key_at d keys i; mass = at sums (2 * i); value = at sums (2 * i + 1) }

-- the first i rows of a source
unfoldable pub first_rows : ℕ → List ℤ → List ℤ → ℕ → List Row
first_rows d keys sums i = tab i (source_row d keys sums)

-- Lent keys that have the stretches of m rows.
pub record Stretches (d : ℕ) (keys : List ℤ) (m : ℕ) : Type 0 where
  pub d_least : 1 ≤ d
  pub d_most : d ≤ most_d
  pub few : m ≤ most_C
  pub inside : d * m ≤ length keys

-- Two tables that can be weighed against each other: the target's keys can be searched, the source has its rows, each book has its entries, those of the
-- target with different numbers, and neither table has too many points or readings.
pub record Comparable (h : Head) (keys : List ℤ) (index : List ℕ) (book : List ℤ) (s : Head) (source-keys source-book : List ℤ) : Type 0 where
  pub searchable : Searchable h.d h.capacity keys index
  pub points_few : h.points ≤ most_C
  pub stretches : Stretches s.d source-keys s.points
  pub few : h.readings ≤ most_readings
  pub source_few : s.readings ≤ most_readings
  pub entries_in : (h.d + 3) * h.readings ≤ length book
  pub source_entries_in : (s.d + 3) * s.readings ≤ length source-book
  pub apart : numbers_apart h.readings (number_at h.d book) ≡ true

-- what pouring m rows asks
pub record RowsToPour (c : Settings) (t : Table) (keys sums : List ℤ) (m : ℕ) : Type 0 where
  pub stretches : Stretches c.d keys m
  pub pairs : 2 * m ≤ length sums
  pub in_turn : InTurn c t (first_rows c.d keys sums m)

-- what putting k entries of a source's book behind n of a target's asks
pub record EntriesToPut (d n : ℕ) (book : List ℤ) (k : ℕ) (source : List ℤ) : Type 0 where
  pub d_most : d ≤ most_d
  pub few : n + k ≤ most_readings
  pub inside : (d + 3) * (n + k) ≤ length book
  pub source_inside : (d + 3) * k ≤ length source
