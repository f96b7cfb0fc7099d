-- The queries of document 01's worked log, answered, as the definitions compute them.
use Rattle.std.specs.Prelude.{◌≡◌, List, [], ◌∷◌, ℤ, pos, negsuc}
use Rattle.table.specs.Worked.{of_log, log_table}
use Rattle.blur.specs.Blur.{blurred_mass, blurred_value}
use Rattle.filter.specs.Answer.{weighted, code, answer}

-- "At (3,-3) the fraction is 1008/144 = 7."
abbrev pub between : List ℤ
between = pos 3 ∷ negsuc 2 ∷ []

-- "21 04 00 00 00 FC FF FF FF · 21 64 00 00 00 9C FF FF FF": the log's queries, (4,-4) and (100,-100)
abbrev pub near : List ℤ
near = pos 4 ∷ negsuc 3 ∷ []

abbrev pub far : List ℤ
far = pos 100 ∷ negsuc 99 ∷ []

-- "ANSWER 7 0", "ANSWER 0 10"
pub record AnswerCases : Type 0 where
  pub value_sum : weighted (of_log 8) log_table (blurred_value (of_log 8) log_table) between ≡ pos 1008
  pub mass_sum : weighted (of_log 8) log_table (blurred_mass (of_log 8) log_table) between ≡ pos 144
  pub answer_between : answer (of_log 8) log_table between ≡ pos 7
  pub answer_near : answer (of_log 8) log_table near ≡ pos 7
  pub code_near : code (of_log 8) log_table near ≡ 0
  pub answer_far : answer (of_log 8) log_table far ≡ pos 0
  pub code_far : code (of_log 8) log_table far ≡ 10
