-- What the functions behind `withdraw` compute and ask of one another. No contract that another crate sees cites this file.
use Rattle.std.specs.Prelude.{◌≡◌, List, [], ◌∷◌, Option, Some, None, ℕ, suc, ◌+◌, ◌*◌, ◌≤◌, ◌<◌, ℤ, ◌-ℤ◌, length}
use Rattle.whole.specs.Size.{Abs≤}
use Rattle.whole.specs.Lists.{at}
use Rattle.lattice.specs.Limits.{most_d, most_C}
use Rattle.index.specs.Keys.{key_at}
use Rattle.index.specs.Search.{Searchable}
use Rattle.table.specs.Table.{Settings, Table, key, keys_of}
use Rattle.table.specs.Pour.{news}
use Rattle.table.specs.Reading.{reading_of, shares, Lawful}
use Rattle.table.specs.Sound.{Fine}
use Rattle.pour.specs.Inner.{most_share, most_rows}
use Rattle.book.specs.Withdraw.{point_of, leave_at}

-- which one of many, as the specifications count it: from 1, and 0 for none
abbrev pub counted : Option ℕ → ℕ
counted None = 0
counted (Some i) = suc i

-- ---- a reading's weights subtracted
-- the first n numbers are within what all rows of a table's readings add
abbrev pub BoundedTo : ℕ → List ℤ → Type 0
BoundedTo n l = (p : ℕ) → p < n → Abs≤ (at l p) (most_share * most_rows)

-- The first n numbers of a sheet were subtracted, and the others stay.
pub record TakenOff (n : ℕ) (sums sheet left : List ℤ) : Type 0 where
  pub size : length left ≡ length sums
  pub low : (p : ℕ) → p < n → at left p ≡ at sums p -ℤ at sheet p
  pub high : (p : ℕ) → n ≤ p → at left p ≡ at sums p

-- A sound table, and a reading within the limits whose points are all stored.
pub record Lowerable (c : Settings) (t : Table) (reading : List ℤ) : Type 0 where
  pub fine : Fine c t
  pub size : length reading ≡ c.d + 2
  pub lawful : Lawful c.d (reading_of c.d reading)
  pub stored : news c t (keys_of (shares c.d c.S (reading_of c.d reading))) ≡ 0

-- ---- points that leave
-- keys and sums of m points, as a table without an index
abbrev pub unindexed : ℕ → List ℤ → List ℤ → Table
unindexed m keys sums = record { n = 0; m = m; keys = keys; sums = sums; index = [] }

-- Keys and sums of their lengths, with room for the points of t.
pub record PointsIn (c : Settings) (t : Table) : Type 0 where
  pub d_most : c.d ≤ most_d
  pub C_most : c.C ≤ most_C
  pub room : t.m ≤ c.C
  pub keys_size : length t.keys ≡ c.d * c.C
  pub sums_size : length t.sums ≡ 2 * c.C

-- the points of these keys leave, one after the other, where their mass is 0
unfoldable pub leave_keys : Settings → Table → List (List ℤ) → Table
leave_keys c t [] = t
leave_keys c t (k ∷ ks) = leave_keys c (leave_at c t (point_of t.m (key c t) k)) ks

-- ---- the index made afresh
-- Lent keys, and an index in which keys can be sought: point i has its stretch, and the index room for it.
pub record Nameable (d C i : ℕ) (keys : List ℤ) (index : List ℕ) : Type 0 where
  pub searchable : Searchable d C keys index
  pub room : i < C
  pub stretches : length keys ≡ d * C

-- Lent keys of m points, no two of one key, and 2·C places that may hold anything.
pub record Renameable (d C m : ℕ) (keys : List ℤ) (index : List ℕ) : Type 0 where
  pub C_least : 1 ≤ C
  pub C_most : C ≤ most_C
  pub room : m ≤ C
  pub stretches : length keys ≡ d * C
  pub places : length index ≡ 2 * C
  pub apart : (i j : ℕ) → i < m → j < m → key_at d keys i ≡ key_at d keys j → i ≡ j
