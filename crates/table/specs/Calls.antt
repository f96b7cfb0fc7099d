-- What the calls do with a table, whatever its book: settings and lengths, a fresh table, and another table merged.
use Rattle.std.specs.Prelude.{Bool, ◌&&◌, List, ℕ, ◌*◌, eqb, leb, ℤ, pos, length, replicate}
use Rattle.lattice.specs.Limits.{most_d, most_S, most_C}
use Rattle.table.specs.Table.{Settings, Table, rows}
use Rattle.table.specs.Pour.{accept}

-- "Dimension d: 1 to 5. Fineness S: 1 to 64. Capacity C: 1 to 8,192 points."
unfoldable pub ranged : Settings → Bool
ranged c = leb 1 c.d && leb c.d most_d && (leb 1 c.S && leb c.S most_S) && (leb 1 c.C && leb c.C most_C)

-- "keys (d·C …), sums (2·C …), index (2·C …)": whether slices of k, s and i numbers have these lengths
abbrev pub fits_by : ℕ → ℕ → ℕ → ℕ → ℕ → Bool
fits_by d C k s i = eqb k (d * C) && eqb s (2 * C) && eqb i (2 * C)

-- whether the slices of a table have the lengths that its settings give
unfoldable pub fits : Settings → Table → Bool
fits c t = fits_by c.d c.C (length t.keys) (length t.sums) (length t.index)

-- what a fresh call is lent, as a table of nothing
abbrev pub lent : List ℤ → List ℤ → List ℕ → Table
lent keys sums index = record { n = 0; m = 0; keys = keys; sums = sums; index = index }

-- "Accepted, it sets n and m to 0 and fills the three slices with 0."
unfoldable pub fresh : Settings → Table
fresh c = record { n = 0; m = 0; keys = replicate (c.d * c.C) (pos 0); sums = replicate (2 * c.C) (pos 0); index = replicate (2 * c.C) 0 }

-- "adds each of its pairs to the target, new points appended in the source's order; readings are added up"
abbrev pub merged : Settings → Table → Settings → Table → Table
merged c t b s = accept c t (rows b s) s.n
