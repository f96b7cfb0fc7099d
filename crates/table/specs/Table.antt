-- A table: "a head by value (d, S, C, number of readings n, number of points m) and three lent slices". The settings stand apart from
-- the rest, since no call changes them.
use Rattle.std.specs.Prelude.{List, ◌++◌, [], ◌∷◌, map, ℕ, zero, suc, ◌+◌, ◌*◌, ℤ, pos, neg_ℤ}
use Rattle.whole.specs.Sum.{over}
use Rattle.whole.specs.Lists.{at, tab}
use Rattle.index.specs.Keys.{key_at}
use Rattle.index.specs.Search.{entry_at, search}

-- "Dimension d", "Fineness S", "Capacity C"
pub record Settings : Type 0 where
  pub d : ℕ
  pub S : ℕ
  pub C : ℕ

-- the counts of readings and of points, and what is lent: "keys (d·C signed 32-bit numbers), sums (2·C signed 64-bit numbers: mass,
-- then value sum), index (2·C unsigned 16-bit numbers)"
pub record Table : Type 0 where
  pub n : ℕ
  pub m : ℕ
  pub keys : List ℤ
  pub sums : List ℤ
  pub index : List ℕ

-- a stored point: the kept coordinates, its mass and its value sum
pub record Row : Type 0 where
  pub key : List ℤ
  pub mass : ℤ
  pub value : ℤ

-- "keys": the d kept coordinates of point i
abbrev pub key : Settings → Table → ℕ → List ℤ
key c t i = key_at c.d t.keys i

-- "sums (…: mass, then value sum)": the pair of point i
abbrev pub mass : Table → ℕ → ℤ
mass t i = at t.sums (2 * i)

abbrev pub value : Table → ℕ → ℤ
value t i = at t.sums (2 * i + 1)

-- point i with its pair
abbrev pub row : Settings → Table → ℕ → Row
row c t i = record { key = key c t i; mass = mass t i; value = value t i }

-- the stored points in stored order; "Keys and sums past the m-th point may hold anything."
unfoldable pub rows : Settings → Table → List Row
rows c t = tab t.m (row c t)

-- the mass of a row, to sum over rows
abbrev pub mass_of : Row → ℤ
mass_of r = r.mass

-- the keys of rows
abbrev pub keys_of : List Row → List (List ℤ)
keys_of rs = map (λ (r : Row). r.key) rs

-- "Only the first d coordinates are kept; the last is minus their sum."
unfoldable pub whole : List ℤ → List ℤ
whole k = k ++ (neg_ℤ (over k (λ z. z)) ∷ [])

-- what the index has at a place
abbrev pub entry : Table → ℕ → ℕ
entry t p = entry_at t.index p

-- the index place at which a search for a key ends
abbrev pub seek : Settings → Table → List ℤ → ℕ
seek c t k = search c.C (key c t) (entry t) k

-- what stands where the search for a key ends: 0, or i + 1 where point i is the one sought
abbrev pub found : Settings → Table → List ℤ → ℕ
found c t k = entry t (seek c t k)

-- the pair at an entry
abbrev pub pair_at : List ℤ → ℕ → ℤ × ℤ
pair_at sums zero = (pos 0, pos 0)
pair_at sums (suc i) = (at sums (2 * i), at sums (2 * i + 1))

-- The map of a table: the mass and the value sum stored for a point, told by its key, and 0 where it is not stored.
abbrev pub held : Settings → Table → List ℤ → ℤ × ℤ
held c t k = pair_at t.sums (found c t k)
