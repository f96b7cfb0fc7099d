-- The blur, of a number at each lattice point. A point is told by its key, the d kept coordinates. A table has two numbers at a point, its mass
-- and its value sum, and each of the two is blurred for itself.
use Rattle.std.specs.Prelude.{Bool, cond, List, ℕ, zero, suc, eqb, ltb, ℤ, pos, neg_ℤ, ◌+ℤ◌, ◌-ℤ◌, ◌*ℤ◌}
use Rattle.whole.specs.Lists.{at, tab}
use Rattle.table.specs.Table.{Settings, Table, found, held}

-- "The step of pass k has -d at place k and 1 elsewhere"
unfoldable pub step : ℕ → ℕ → ℕ → ℤ
step d k i = cond (eqb i k) (neg_ℤ (pos d)) (pos 1)

-- "point plus step"
unfoldable pub plus_step : ℕ → ℕ → List ℤ → List ℤ
plus_step d k y = tab d (λ i. at y i +ℤ step d k i)

-- "point minus step"
unfoldable pub minus_step : ℕ → ℕ → List ℤ → List ℤ
minus_step d k y = tab d (λ i. at y i -ℤ step d k i)

-- "Each stored point's new pair is its old pair twice, plus the old pairs at point plus step and at point minus step": the new number at y, where
-- f has the old ones and `stored` tells which points are stored. Where it holds of every point, this is the pass over the whole lattice.
unfoldable pub pass : (List ℤ → Bool) → ℕ → ℕ → (List ℤ → ℤ) → List ℤ → ℤ
pass stored d k f y = cond (stored y) (pos 2 *ℤ f y +ℤ f (plus_step d k y) +ℤ f (minus_step d k y)) (pos 0)

-- "Passes k = 0 to d, in that order." "All old pairs of a pass are those before the pass.": the first n of the passes
unfoldable pub passes : (List ℤ → Bool) → ℕ → ℕ → (List ℤ → ℤ) → List ℤ → ℤ
passes stored d zero f = f
passes stored d (suc n) f = pass stored d n (passes stored d n f)

-- a stored point of a table
abbrev pub is_stored : Settings → Table → List ℤ → Bool
is_stored c t y = ltb 0 (found c t y)

-- the numbers that a table has: "a neighbour that is not stored counts as 0"
abbrev pub masses : Settings → Table → List ℤ → ℤ
masses c t y = (held c t y).0

abbrev pub values : Settings → Table → List ℤ → ℤ
values c t y = (held c t y).1

-- the masses and value sums of a table after the first n passes
unfoldable pub mass_after : Settings → Table → ℕ → List ℤ → ℤ
mass_after c t n = passes (is_stored c t) c.d n (masses c t)

unfoldable pub value_after : Settings → Table → ℕ → List ℤ → ℤ
value_after c t n = passes (is_stored c t) c.d n (values c t)

-- the masses and value sums of a table after all passes, "k = 0 to d"
abbrev pub blurred_mass : Settings → Table → List ℤ → ℤ
blurred_mass c t = mass_after c t (suc c.d)

abbrev pub blurred_value : Settings → Table → List ℤ → ℤ
blurred_value c t = value_after c t (suc c.d)
