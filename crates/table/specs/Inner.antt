-- What holds of a table while rows are added to it: what functions inside the library ask of one another.
use Rattle.std.specs.Prelude.{◌≡◌, List, ◌∷◌, ◌++◌, ℕ, ◌*◌, ◌<◌, ℤ, pos, ◌+ℤ◌, ◌*ℤ◌, take, ◌≤ℤ◌}
use Rattle.whole.specs.Sum.{over}
use Rattle.lattice.specs.Limits.{most_W, most_readings}
use Rattle.index.specs.Indexed.{Indexed}
use Rattle.table.specs.Table.{Settings, Table, Row, key, row, rows, mass_of, entry, found}
use Rattle.table.specs.Sound.{Good, Ranged, Shape}
use Rattle.table.specs.Pour.{pour}

-- soundness, but for the number of readings
pub record Kept (c : Settings) (t : Table) : Type 0 where
  pub shape : Shape c t
  pub indexed : Indexed c.C t.m (key c t) (entry t)
  pub good : (i : ℕ) → i < t.m → Good c.d (row c t i)

-- the row of a point with its weight, for the value v
abbrev pub weighed_row : ℕ → ℤ → List ℤ × ℕ → Row
weighed_row d v p = record { key = take d p.0; mass = pos p.1; value = pos p.1 *ℤ v }

-- A row that may be added: there is room where it is new, and all masses together stay within those of 4,096 readings.
pub record Addable (c : Settings) (t : Table) (r : Row) : Type 0 where
  pub ranged : Ranged c
  pub kept : Kept c t
  pub good : Good c.d r
  pub room : found c t r.key ≡ 0 → t.m < c.C
  pub light : (over (rows c t) mass_of +ℤ r.mass) ≤ℤ pos (most_W * most_readings)

-- Rows that may be added one after the other: each after those before it.
pub record InTurn (c : Settings) (t : Table) (rs : List Row) : Type 0 where
  pub each : (a b : List Row) (r : Row) → rs ≡ a ++ (r ∷ b) → Addable c (pour c t a) r
