-- What the functions behind `is_sound` compute and ask of one another. No contract that another crate sees cites this file.
use Rattle.std.specs.Prelude.{Bool, ◌&&◌, List, ℕ, suc, ◌+◌, ◌*◌, ◌≤◌, eqb, leb, ℤ, pos, nat_abs, length}
use Rattle.std.specs.Int.Signed.{le_z}
use Rattle.whole.specs.Floor.{remainder}
use Rattle.whole.specs.Sum.{sum, all}
use Rattle.whole.specs.Lists.{at}
use Rattle.lattice.specs.Limits.{farthest_point, most_d, most_C}
use Rattle.index.specs.Keys.{eq_z, key_at}
use Rattle.index.specs.Search.{entry_at, search, Searchable}
use Rattle.table.specs.Table.{Row}
use Rattle.table.specs.Sound.{good, good_key, good_pair}

-- Lent keys of m points, or of more, and an index in which keys can be sought.
pub record Findable (d C m : ℕ) (keys : List ℤ) (index : List ℕ) : Type 0 where
  pub searchable : Searchable d C keys index
  pub few : m ≤ most_C
  pub stretches : d * m ≤ length keys

-- the index place at which the search for the key of point i ends, and whether it names point i
abbrev pub place_of : ℕ → ℕ → List ℤ → List ℕ → ℕ → ℕ
place_of d C keys index i = search C (key_at d keys) (entry_at index) (key_at d keys i)

abbrev pub is_found : ℕ → ℕ → List ℤ → List ℕ → ℕ → Bool
is_found d C keys index i = eqb (entry_at index (place_of d C keys index i)) (suc i)

-- a coordinate within ±1,000,005 that leaves the remainder k on division by n
abbrev pub good_coordinate : ℕ → ℕ → ℤ → Bool
good_coordinate n k c = leb (nat_abs c) farthest_point && eqb (remainder c n) k

-- a good pair, of no more mass than all masses come to
unfoldable pub light_pair : ℕ → ℤ → ℤ → Bool
light_pair total m v = good_pair m v && le_z m (pos total)

-- Lent keys and sums of m points, or of more.
pub record Rows (d m : ℕ) (keys sums : List ℤ) : Type 0 where
  pub d_least : 1 ≤ d
  pub d_most : d ≤ most_d
  pub few : m ≤ most_C
  pub stretches : d * m ≤ length keys
  pub pairs : 2 * m ≤ length sums

-- the point i of lent keys and sums
abbrev pub row_at : ℕ → List ℤ → List ℤ → ℕ → Row
row_at d keys sums i = record { key = key_at d keys i; mass = at sums (2 * i); value = at sums (2 * i + 1) }

-- a good point, of no more mass than all masses come to
unfoldable pub light_row : ℕ → ℕ → List ℤ → List ℤ → ℕ → Bool
light_row total d keys sums i = good_key d (key_at d keys i) && light_pair total (at sums (2 * i)) (at sums (2 * i + 1))

-- m good points, whose masses come to the total
unfoldable pub good_rows : ℕ → ℕ → ℕ → List ℤ → List ℤ → Bool
good_rows total d m keys sums = all m (λ i. good d (row_at d keys sums i)) && eq_z (sum m (λ i. at sums (2 * i))) (pos total)
