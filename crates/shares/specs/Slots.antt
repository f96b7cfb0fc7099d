-- The rows that a reading adds, slot by slot of its enclosing simplex: what functions inside the crate ask of one another.
use Rattle.std.specs.Prelude.{◌≡◌, List, map, ℕ, ◌≤◌, ℤ, nat_abs, length, get_or, take}
use Rattle.whole.specs.Lists.{collect}
use Rattle.lattice.specs.Limits.{most_d, most_coords, most_value, most_W}
use Rattle.index.specs.Search.{Searchable}
use Rattle.simplex.specs.Slots.{slot_numbers, slot}
use Rattle.table.specs.Table.{Settings, Table, Row}
use Rattle.table.specs.Sound.{Ranged}
use Rattle.table.specs.Inner.{weighed_row, InTurn}

-- the rows of slot k, and of the slots before n
unfoldable pub slot_rows : ℕ → List ℕ → List ℤ → ℤ → ℕ → List Row
slot_rows d weights coords v k = map (weighed_row d v) (slot d weights coords k)

unfoldable pub rows_to : ℕ → List ℕ → List ℤ → ℤ → ℕ → List Row
rows_to d weights coords v n = collect n (slot_rows d weights coords v)

-- the keys of slot k, and of the slots before n: no value is asked for them
unfoldable pub slot_keys : ℕ → List ℕ → List ℤ → ℕ → List (List ℤ)
slot_keys d weights coords k = map (λ (p : List ℤ × ℕ). take d p.0) (slot d weights coords k)

unfoldable pub keys_to : ℕ → List ℕ → List ℤ → ℕ → List (List ℤ)
keys_to d weights coords n = collect n (slot_keys d weights coords)

-- the arrays of a simplex: six weights, each at most W, and their coordinates
pub record Arrays (weights : List ℕ) (coords : List ℤ) : Type 0 where
  pub weights_size : length weights ≡ most_coords
  pub coords_size : length coords ≡ slot_numbers
  pub light : (k : ℕ) → get_or weights k 0 ≤ most_W

-- what pouring asks
pub record SharesToPour (c : Settings) (t : Table) (weights : List ℕ) (coords : List ℤ) (v : ℤ) (rs : List Row) : Type 0 where
  pub ranged : Ranged c
  pub arrays : Arrays weights coords
  pub fair : nat_abs v ≤ most_value
  pub turns : InTurn c t rs

-- what counting the new points asks
pub record Counting (d C : ℕ) (keys : List ℤ) (index : List ℕ) (weights : List ℕ) (coords : List ℤ) : Type 0 where
  pub d_most : d ≤ most_d
  pub searchable : Searchable d C keys index
  pub arrays : Arrays weights coords
