-- Document 01's worked log in eight ways, as the definitions compute it: loaded, its two readings entered in one list, each reading in a table of its
-- own, the log cut in its second reading, which is entered again, a table of another fineness offered on the way, a table from elsewhere offered that has one of them, and a third reading entered
-- and taken back, and one to be taken back that the table does not hold. So the theorems on histories speak of something.
use Rattle.std.specs.Prelude.{◌≡◌, List, [], ◌∷◌, ℕ, ◌*◌, ℤ, pos, negsuc, take, replicate}
use Rattle.table.specs.Table.{Row}
use Rattle.table.specs.Calls.{lent}
use Rattle.table.specs.Worked.{of_log}
use Rattle.book.specs.Book.{Booked}
use Rattle.book.specs.Calls.{fresh_booked, parsed, withdraw_refusal}
use Rattle.book.specs.Worked.{after_list, both_readings}
use Rattle.listing.specs.Listing.{listed}
use Rattle.filter.specs.Answer.{answer}
use Rattle.filter.specs.Worked.{near}
use Rattle.reader.specs.Worked.{worked_log}
use Rattle.load.specs.Loading.{load}
use Rattle.promises.specs.History.{History, starting, entering, merging, offering, withdrawing, loading, settings_in, run, Begun, NoneRefused}
use Rattle.promises.specs.Acceptance.{FitBook}

-- slices for C points and B readings at d = 1, which hold other numbers
abbrev pub slices : ℕ → ℕ → Booked
slices C B = record { table = lent (replicate C (pos 9)) (replicate (2 * C) (pos 9)) (replicate (2 * C) 9); room = B; book = replicate (4 * B) (pos 9) }

-- each reading as a list of its own, numbered 7 and -3: the first,
abbrev pub first_reading : List ℤ
first_reading = pos 7 ∷ pos 3 ∷ negsuc 2 ∷ pos 10 ∷ []

-- and the second
abbrev pub second_reading : List ℤ
second_reading = negsuc 2 ∷ pos 2 ∷ negsuc 1 ∷ pos 4 ∷ []

-- the log loaded
abbrev pub as_a_log : History
as_a_log = loading worked_log (slices 8 2)

-- both readings in one list
abbrev pub as_a_list : History
as_a_list = entering (starting 8 (slices 8 3)) both_readings

-- the second reading in a table of three points, the first in one of five, which is merged into it
abbrev pub as_tables : History
as_tables = merging (entering (starting 3 (slices 3 2)) second_reading) (entering (starting 5 (slices 5 1)) first_reading)

-- a file that was cut in its second reading, and that reading entered again
abbrev pub as_half_a_log : History
as_half_a_log = entering (loading (take 30 worked_log) (slices 8 2)) second_reading

-- a table of another fineness was offered, and refused
abbrev pub with_an_offer : History
with_an_offer = offering as_a_list (record { d = 1; S = 3; C = 8 }) (fresh_booked (record { d = 1; S = 3; C = 8 }) 2)

-- a table from elsewhere was offered, and merged in
abbrev pub as_an_offer : History
as_an_offer = offering (entering (starting 3 (slices 3 2)) second_reading) (of_log 5) (after_list 5 1 first_reading).booked

-- a third reading, (100,-100) with 5, was entered under the number 0 and taken back
abbrev pub with_a_reading_back : History
with_a_reading_back = withdrawing (entering as_a_list (pos 0 ∷ pos 100 ∷ negsuc 99 ∷ pos 5 ∷ [])) (pos 0)

-- a reading of the number 0 was to be taken back, and none has it
abbrev pub with_none_back : History
with_none_back = withdrawing as_a_list (pos 0)

-- "POINT 1 -1 6 36", "POINT 2 -2 2 20", "ANSWER 7 0"
abbrev pub both_points : List Row
both_points = record { key = pos 1 ∷ []; mass = pos 6; value = pos 36 } ∷ record { key = pos 2 ∷ []; mass = pos 2; value = pos 20 } ∷ []

-- a history that makes these points and gives this answer
pub record Way (h : History) : Type 0 where
  pub begun : Begun 1 2 h
  pub points : listed (settings_in 1 2 h) (run 1 2 h).table ≡ both_points
  pub answered : answer (settings_in 1 2 h) (run 1 2 h).table near ≡ pos 7

-- Statement: all eight do.
pub record WorkedWays : Type 0 where
  pub log_way : Way as_a_log
  pub list_way : Way as_a_list
  pub tables_way : Way as_tables
  pub half_way : Way as_half_a_log
  pub refused_offer_way : Way with_an_offer
  pub taken_offer_way : Way as_an_offer
  pub back_way : Way with_a_reading_back
  pub none_back_way : Way with_none_back
  pub none_refused : NoneRefused 1 2 as_a_log × NoneRefused 1 2 as_a_list × NoneRefused 1 2 as_tables × NoneRefused 1 2 as_an_offer × NoneRefused 1 2 with_a_reading_back
  pub not_held : withdraw_refusal (of_log 8) (run 1 2 as_a_list) (pos 0) ≡ 19
  -- the two readings fit where two points and two readings have room, and not where one has
  pub two_fit : FitBook 1 2 2 2 (parsed 1 both_readings)
  pub one_point_does_not : FitBook 1 2 1 2 (parsed 1 both_readings) → ⊥
  pub one_reading_does_not : FitBook 1 2 2 1 (parsed 1 both_readings) → ⊥
  pub half_refused : (load (take 30 worked_log) (slices 8 2)).number ≡ 15
