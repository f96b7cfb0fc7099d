-- Document 01's worked log, blurred, and a case of two axes, as the definitions compute them.
use Rattle.std.specs.Prelude.{◌≡◌, [], ◌∷◌, pos, negsuc}
use Rattle.table.specs.Table.{Settings, Table}
use Rattle.table.specs.Reading.{Reading, entered}
use Rattle.table.specs.Calls.{fresh}
use Rattle.table.specs.Worked.{of_log, log_table}
use Rattle.blur.specs.Blur.{blurred_mass, blurred_value}
use Rattle.blur.specs.Sheet.{sheet_after, blurred_sheet}

-- "*In the log above, blurred pairs (mass, sum): (38, 260) at (1,-1) and (34, 244) at (2,-2)."
pub record BlurCases : Type 0 where
  pub mass_at_one : blurred_mass (of_log 8) log_table (pos 1 ∷ []) ≡ pos 38
  pub value_at_one : blurred_value (of_log 8) log_table (pos 1 ∷ []) ≡ pos 260
  pub mass_at_two : blurred_mass (of_log 8) log_table (pos 2 ∷ []) ≡ pos 34
  pub value_at_two : blurred_value (of_log 8) log_table (pos 2 ∷ []) ≡ pos 244
  pub in_stored_order : blurred_sheet (of_log 8) log_table ≡ pos 34 ∷ pos 244 ∷ pos 38 ∷ pos 260 ∷ pos 0 ∷ pos 0 ∷ pos 0 ∷ pos 0 ∷ pos 0 ∷ pos 0 ∷ pos 0 ∷ pos 0 ∷ pos 0 ∷ pos 0 ∷ pos 0 ∷ pos 0 ∷ []

-- Two readings at lattice points that are the step of pass 1 apart: (0,0,0) with 10 and (1,-2,1) with 4, where d = 2 and S = 1. Each gives all of
-- W = 3 to its own point. Passes 0 and 2 find no neighbour and double the pairs; pass 1 adds the other's. So (3, 30) and (3, 12) become
-- (6, 60) and (6, 24), then (18, 144) and (18, 108), then (36, 288) and (36, 216).
abbrev pub of_two : Settings
of_two = record { d = 2; S = 1; C = 4 }

abbrev pub at_origin : Reading
at_origin = record { position = pos 0 ∷ pos 0 ∷ pos 0 ∷ []; value = pos 10 }

abbrev pub a_step_apart : Reading
a_step_apart = record { position = pos 1 ∷ negsuc 1 ∷ pos 1 ∷ []; value = pos 4 }

abbrev pub two_points : Table
two_points = entered of_two (entered of_two (fresh of_two) at_origin) a_step_apart

pub record AxisCases : Type 0 where
  pub own_pairs : sheet_after of_two two_points 0 ≡ pos 3 ∷ pos 30 ∷ pos 3 ∷ pos 12 ∷ pos 0 ∷ pos 0 ∷ pos 0 ∷ pos 0 ∷ []
  pub after_pass_0 : sheet_after of_two two_points 1 ≡ pos 6 ∷ pos 60 ∷ pos 6 ∷ pos 24 ∷ pos 0 ∷ pos 0 ∷ pos 0 ∷ pos 0 ∷ []
  pub after_pass_1 : sheet_after of_two two_points 2 ≡ pos 18 ∷ pos 144 ∷ pos 18 ∷ pos 108 ∷ pos 0 ∷ pos 0 ∷ pos 0 ∷ pos 0 ∷ []
  pub after_pass_2 : blurred_sheet of_two two_points ≡ pos 36 ∷ pos 288 ∷ pos 36 ∷ pos 216 ∷ pos 0 ∷ pos 0 ∷ pos 0 ∷ pos 0 ∷ []
