-- "Output, the whole of it": what the worked log of document 01 prints, byte by byte, and the line of a log that is refused.
use Rattle.std.specs.Prelude.{◌≡◌, List, [], ◌∷◌, ◌++◌, ℕ, take, set}
use Rattle.reader.specs.Worked.{settings_item, reading_items, query_items, worked_log}
use Rattle.report.specs.Report.{report}

-- HEAD 1 2 2 2
abbrev pub first_line : List ℕ
first_line = 72 ∷ 69 ∷ 65 ∷ 68 ∷ 32 ∷ 49 ∷ 32 ∷ 50 ∷ 32 ∷ 50 ∷ 32 ∷ 50 ∷ 10 ∷ []

-- POINT 1 -1 6 36
abbrev pub second_line : List ℕ
second_line = 80 ∷ 79 ∷ 73 ∷ 78 ∷ 84 ∷ 32 ∷ 49 ∷ 32 ∷ 45 ∷ 49 ∷ 32 ∷ 54 ∷ 32 ∷ 51 ∷ 54 ∷ 10 ∷ []

-- POINT 2 -2 2 20
abbrev pub third_line : List ℕ
third_line = 80 ∷ 79 ∷ 73 ∷ 78 ∷ 84 ∷ 32 ∷ 50 ∷ 32 ∷ 45 ∷ 50 ∷ 32 ∷ 50 ∷ 32 ∷ 50 ∷ 48 ∷ 10 ∷ []

-- ANSWER 7 0
abbrev pub fourth_line : List ℕ
fourth_line = 65 ∷ 78 ∷ 83 ∷ 87 ∷ 69 ∷ 82 ∷ 32 ∷ 55 ∷ 32 ∷ 48 ∷ 10 ∷ []

-- ANSWER 0 10
abbrev pub fifth_line : List ℕ
fifth_line = 65 ∷ 78 ∷ 83 ∷ 87 ∷ 69 ∷ 82 ∷ 32 ∷ 48 ∷ 32 ∷ 49 ∷ 48 ∷ 10 ∷ []

-- the readings of the worked log as kind 71, numbered 7 and -3: "the 32-bit number before the old body"
abbrev pub numbered_items : List ℕ
numbered_items = 113 ∷ 7 ∷ 0 ∷ 0 ∷ 0 ∷ 3 ∷ 0 ∷ 0 ∷ 0 ∷ 253 ∷ 255 ∷ 255 ∷ 255 ∷ 10 ∷ 0 ∷ 0 ∷ 0 ∷ 113 ∷ 253 ∷ 255 ∷ 255 ∷ 255 ∷ 2 ∷ 0 ∷ 0 ∷ 0 ∷ 254 ∷ 255 ∷ 255 ∷ 255 ∷ 4 ∷ 0 ∷ 0 ∷ 0 ∷ []

-- a third reading that is numbered 0
abbrev pub numbered_zero : List ℕ
numbered_zero = 113 ∷ 0 ∷ 0 ∷ 0 ∷ 0 ∷ 2 ∷ 0 ∷ 0 ∷ 0 ∷ 254 ∷ 255 ∷ 255 ∷ 255 ∷ 4 ∷ 0 ∷ 0 ∷ 0 ∷ []

-- REFUSED 20 31
abbrev pub held_line : List ℕ
held_line = 82 ∷ 69 ∷ 70 ∷ 85 ∷ 83 ∷ 69 ∷ 68 ∷ 32 ∷ 50 ∷ 48 ∷ 32 ∷ 51 ∷ 49 ∷ 10 ∷ []

-- REFUSED 15 18, and REFUSED 16 0
abbrev pub cut_line : List ℕ
cut_line = 82 ∷ 69 ∷ 70 ∷ 85 ∷ 83 ∷ 69 ∷ 68 ∷ 32 ∷ 49 ∷ 53 ∷ 32 ∷ 49 ∷ 56 ∷ 10 ∷ []

abbrev pub wide_line : List ℕ
wide_line = 82 ∷ 69 ∷ 70 ∷ 85 ∷ 83 ∷ 69 ∷ 68 ∷ 32 ∷ 49 ∷ 54 ∷ 32 ∷ 48 ∷ 10 ∷ []

-- "the whole of it"
abbrev pub five_lines : List ℕ
five_lines = first_line ++ (second_line ++ (third_line ++ (fourth_line ++ fifth_line)))

-- Statement: the five lines, also where the queries stand before the readings, and where the readings have numbers, of which nothing is printed; the one line of the log cut inside its second reading; that of
-- the log with a third reading whose number the first got; and that of the log with C = 513 and its second item unlisted.
pub record ReportCases : Type 0 where
  pub five_lines_are : report worked_log ≡ five_lines
  pub queries_first : report (settings_item ++ (query_items ++ reading_items)) ≡ five_lines
  pub numbered_too : report (settings_item ++ (numbered_items ++ query_items)) ≡ five_lines
  pub cut_short : report (take 30 worked_log) ≡ cut_line
  pub held_already : report (settings_item ++ (reading_items ++ numbered_zero)) ≡ held_line
  pub too_wide : report (set (set (set worked_log 3 1) 4 2) 5 255) ≡ wide_line
