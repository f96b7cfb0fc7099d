-- The limits of document 01's "Settings and sizes" and "Finding a point", each once.
use Rattle.std.specs.Prelude.{ℕ}

-- "Dimension d: 1 to 5."
abbrev pub most_d : ℕ
most_d = 5

-- the most coordinates of a position and of a lattice point, which have d+1
abbrev pub most_coords : ℕ
most_coords = 6

-- "Fineness S: 1 to 64."
abbrev pub most_S : ℕ
most_S = 64

-- "W = (d+1)·S is the weight total. At most 6·64 = 384."
abbrev pub most_W : ℕ
most_W = 384

-- a coordinate of a position is "from -1,000,000 to 1,000,000"
abbrev pub farthest : ℕ
farthest = 1000000

-- those of a stored point are "within ±1,000,005"
abbrev pub farthest_point : ℕ
farthest_point = 1000005

-- "Capacity C: 1 to 8,192 points."
abbrev pub most_C : ℕ
most_C = 8192

-- "A value is from -1,000,000 to 1,000,000"
abbrev pub most_value : ℕ
most_value = 1000000

-- "At most 4,096 readings in a table."
abbrev pub most_readings : ℕ
most_readings = 4096
