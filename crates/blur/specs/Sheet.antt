-- A work sheet: "the first 2·m numbers … hold the … pairs in stored order; every other number … is 0".
use Rattle.std.specs.Prelude.{List, [], ◌∷◌, ◌++◌, ℕ, suc, ◌*◌, ◌-◌, ℤ, pos, replicate}
use Rattle.whole.specs.Lists.{collect}
use Rattle.table.specs.Table.{Settings, Table, key}
use Rattle.blur.specs.Blur.{mass_after, value_after}

-- the sheet with the pairs (f, g) of the stored points
unfoldable pub sheet : Settings → Table → (List ℤ → ℤ) → (List ℤ → ℤ) → List ℤ
sheet c t f g = collect t.m (λ i. f (key c t i) ∷ g (key c t i) ∷ []) ++ replicate (2 * c.C - 2 * t.m) (pos 0)

-- the pairs after the first n passes
abbrev pub sheet_after : Settings → Table → ℕ → List ℤ
sheet_after c t n = sheet c t (mass_after c t n) (value_after c t n)

-- "the blurred pairs in stored order"
abbrev pub blurred_sheet : Settings → Table → List ℤ
blurred_sheet c t = sheet_after c t (suc c.d)

-- a sheet of 0
abbrev pub clear_sheet : Settings → List ℤ
clear_sheet c = replicate (2 * c.C) (pos 0)

-- the table that has a sheet in place of its sums
abbrev pub with_sums : Table → List ℤ → Table
with_sums t sums = record { n = t.n; m = t.m; keys = t.keys; sums = sums; index = t.index }
