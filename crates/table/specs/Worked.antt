-- The table of document 01's worked log, as the definitions compute it: two readings, d = 1, S = 2, C = 8.
use Rattle.std.specs.Prelude.{◌≡◌, true, false, List, [], ◌∷◌, ℕ, ℤ, pos, negsuc, set}
use Rattle.table.specs.Table.{Settings, Table, rows}
use Rattle.table.specs.Sound.{sound}
use Rattle.table.specs.Reading.{Reading, entered}
use Rattle.table.specs.Calls.{fresh}

abbrev pub of_log : ℕ → Settings
of_log C = record { d = 1; S = 2; C = C }

-- "11 03 00 00 00 FD FF FF FF 0A 00 00 00 · 11 02 00 00 00 FE FF FF FF 04 00 00 00": (3,-3) with 10, (2,-2) with 4
abbrev pub first_reading : Reading
first_reading = record { position = pos 3 ∷ negsuc 2 ∷ []; value = pos 10 }

abbrev pub second_reading : Reading
second_reading = record { position = pos 2 ∷ negsuc 1 ∷ []; value = pos 4 }

-- both in a fresh table
abbrev pub log_table : Table
log_table = entered (of_log 8) (entered (of_log 8) (fresh (of_log 8)) first_reading) second_reading

-- the table of the worked log with other sums
abbrev pub spoilt : List ℤ → Table
spoilt sums = record { n = log_table.n; m = log_table.m; keys = log_table.keys; sums = sums; index = log_table.index }

-- "HEAD 1 2 2 2", "POINT 1 -1 6 36", "POINT 2 -2 2 20", here in stored order; the home places are those of keys 1 and 2 at C = 8.
pub record LogCases : Type 0 where
  pub stored_rows : rows (of_log 8) log_table ≡ record { key = pos 2 ∷ []; mass = pos 2; value = pos 20 } ∷ record { key = pos 1 ∷ []; mass = pos 6; value = pos 36 } ∷ []
  pub at_home : log_table.index ≡ 0 ∷ 0 ∷ 0 ∷ 2 ∷ 0 ∷ 0 ∷ 1 ∷ 0 ∷ 0 ∷ 0 ∷ 0 ∷ 0 ∷ 0 ∷ 0 ∷ 0 ∷ 0 ∷ []
  pub is_sound : sound (of_log 8) log_table ≡ true
  pub mass_missing : sound (of_log 8) (spoilt (set log_table.sums 0 (pos 1))) ≡ false
