-- The second reading of the worked log, (2,-2) with 4, taken back, and the first, (3,-3) with 10: as the definitions compute it, d = 1, S = 2, C = 8.
use Rattle.std.specs.Prelude.{◌≡◌, true, List, [], ◌∷◌, ℕ, ℤ, pos, negsuc}
use Rattle.table.specs.Table.{Settings, rows}
use Rattle.table.specs.Worked.{of_log, log_table}
use Rattle.book.specs.Book.{Numbered, Booked, sound_with_book}
use Rattle.book.specs.Numbers.{lowest}
use Rattle.book.specs.Withdraw.{without}
use Rattle.book.specs.Calls.{Outcome, fresh_booked, refusal, enter, merge_refusal, withdraw_refusal, after_withdraw}

-- the readings are numbered 7 and -3
abbrev pub worked_book : List ℤ
worked_book = pos 7 ∷ pos 3 ∷ negsuc 2 ∷ pos 10 ∷ negsuc 2 ∷ pos 2 ∷ negsuc 1 ∷ pos 4 ∷ pos 9 ∷ pos 9 ∷ pos 9 ∷ pos 9 ∷ []

-- their table with this book, of room 3, in which something else stands past the second entry
abbrev pub worked_table : Booked
worked_table = record { table = log_table; room = 3; book = worked_book }

-- each of the two taken back, and both
pub record WithdrawCases : Type 0 where
  pub is_sound : sound_with_book (of_log 8) worked_table ≡ true
  pub first_back : rows (of_log 8) (without (of_log 8) worked_table 0).table ≡ record { key = pos 1 ∷ []; mass = pos 4; value = pos 16 } ∷ []
  pub first_index : (without (of_log 8) worked_table 0).table.index ≡ 0 ∷ 0 ∷ 0 ∷ 1 ∷ 0 ∷ 0 ∷ 0 ∷ 0 ∷ 0 ∷ 0 ∷ 0 ∷ 0 ∷ 0 ∷ 0 ∷ 0 ∷ 0 ∷ []
  pub first_book : (without (of_log 8) worked_table 0).book ≡ negsuc 2 ∷ pos 2 ∷ negsuc 1 ∷ pos 4 ∷ pos 0 ∷ pos 0 ∷ pos 0 ∷ pos 0 ∷ pos 9 ∷ pos 9 ∷ pos 9 ∷ pos 9 ∷ []
  pub first_sound : sound_with_book (of_log 8) (without (of_log 8) worked_table 0) ≡ true
  pub second_back : rows (of_log 8) (without (of_log 8) worked_table 1).table ≡ record { key = pos 2 ∷ []; mass = pos 2; value = pos 20 } ∷ record { key = pos 1 ∷ []; mass = pos 2; value = pos 20 } ∷ []
  pub both_back : rows (of_log 8) (without (of_log 8) (without (of_log 8) worked_table 0) 0).table ≡ []

-- three readings at d = 2, S = 2, C = 8, B = 4, numbered 7, -3 and 0
abbrev pub three : Settings
three = record { d = 2; S = 2; C = 8 }

-- the list of them, in the book's form
abbrev pub three_list : List ℤ
three_list = pos 7 ∷ pos 3 ∷ negsuc 0 ∷ negsuc 1 ∷ pos 5 ∷ negsuc 2 ∷ pos 30 ∷ negsuc 9 ∷ negsuc 19 ∷ pos 7 ∷ pos 0 ∷ pos 2 ∷ pos 2 ∷ negsuc 3 ∷ negsuc 2 ∷ []

-- entered into a fresh table
abbrev pub three_table : Booked
three_table = (enter three (fresh_booked three 4) three_list).booked

-- the first taken back: (0,0,0) and (2,-1,-1) leave, (1,1,-2) stays; the last point takes the number 0, and the one before it the number 2
abbrev pub three_after : Booked
three_after = record {
  table = record {
    n = 2;
    m = 4;
    keys = pos 14 ∷ negsuc 3 ∷ pos 1 ∷ pos 1 ∷ pos 16 ∷ negsuc 4 ∷ pos 15 ∷ negsuc 5 ∷ pos 0 ∷ pos 0 ∷ pos 0 ∷ pos 0 ∷ pos 0 ∷ pos 0 ∷ pos 0 ∷ pos 0 ∷ [];
    sums = pos 2 ∷ pos 14 ∷ pos 6 ∷ negsuc 17 ∷ pos 2 ∷ pos 14 ∷ pos 2 ∷ pos 14 ∷ pos 0 ∷ pos 0 ∷ pos 0 ∷ pos 0 ∷ pos 0 ∷ pos 0 ∷ pos 0 ∷ pos 0 ∷ [];
    index = 0 ∷ 3 ∷ 1 ∷ 0 ∷ 0 ∷ 4 ∷ 0 ∷ 0 ∷ 0 ∷ 0 ∷ 0 ∷ 0 ∷ 2 ∷ 0 ∷ 0 ∷ 0 ∷ [];
  };
  room = 4;
  book = negsuc 2 ∷ pos 30 ∷ negsuc 9 ∷ negsuc 19 ∷ pos 7 ∷ pos 0 ∷ pos 2 ∷ pos 2 ∷ negsuc 3 ∷ negsuc 2 ∷ pos 0 ∷ pos 0 ∷ pos 0 ∷ pos 0 ∷ pos 0 ∷ pos 0 ∷ pos 0 ∷ pos 0 ∷ pos 0 ∷ pos 0 ∷ [];
}

-- withdrawing to the byte, and 19, 20 and 7 in their order
pub record CallCases : Type 0 where
  -- to the byte
  pub taken_back : after_withdraw three three_table (pos 7) ≡ three_after
  pub not_held : withdraw_refusal three three_table (pos 8) ≡ 19
  pub held_again : (enter three three_table three_list).number ≡ 20
  -- a number held, in a book that is full: 20 before 7
  pub twenty_first : refusal three (record { table = three_table.table; room = 3; book = three_table.book }) (record { number = pos 7; reading = record { position = pos 0 ∷ pos 0 ∷ pos 0 ∷ []; value = pos 0 } }) ≡ 20
  pub seven_next : refusal three (record { table = three_table.table; room = 3; book = three_table.book }) (record { number = pos 8; reading = record { position = pos 0 ∷ pos 0 ∷ pos 0 ∷ []; value = pos 0 } }) ≡ 7
  -- 0 is held, so 1 is the lowest
  pub lowest_one : lowest three three_table ≡ 1
  pub met : merge_refusal three three_table three three_table ≡ 20

-- a list of readings in the book's form, entered into a fresh table of the worked log's settings with room for C points and B readings
abbrev pub after_list : ℕ → ℕ → List ℤ → Outcome
after_list C B l = enter (of_log C) (fresh_booked (of_log C) B) l

-- the two readings of the worked log, numbered 7 and -3
abbrev pub both_readings : List ℤ
both_readings = pos 7 ∷ pos 3 ∷ negsuc 2 ∷ pos 10 ∷ negsuc 2 ∷ pos 2 ∷ negsuc 1 ∷ pos 4 ∷ []

-- "Only the points that are new count.": the second reading has one point, which is stored already, so room for two points is enough, and for one is not. "7 now comes above B".
pub record RoomCases : Type 0 where
  pub both_taken : (after_list 8 2 both_readings).taken ≡ 2
  pub room_for_two : (after_list 2 2 both_readings).number ≡ 0
  pub room_for_one : (after_list 1 2 both_readings).number ≡ 8
  pub book_for_one : (after_list 2 1 both_readings).number ≡ 7

-- a reading far from the others
abbrev pub far_off : ℤ → ℤ → Numbered
far_off number value = record { number = number; reading = record { position = pos 100 ∷ negsuc 99 ∷ []; value = value } }

-- for each reading 4, 5, 6, 20, 7, 8: the number of the first, in a table that is full of readings and of points
pub record OrderCases : Type 0 where
  pub seven_before_eight : refusal (of_log 2) (after_list 2 2 both_readings).booked (far_off (pos 8) (pos 0)) ≡ 7
  pub twenty_before_seven : refusal (of_log 2) (after_list 2 2 both_readings).booked (far_off (pos 7) (pos 0)) ≡ 20
  pub six_before_twenty : refusal (of_log 2) (after_list 2 2 both_readings).booked (far_off (pos 7) (pos 1000001)) ≡ 6

-- "(1000000,-1000000) is taken; (1000001,0) is 4, not 5; (5,-4) is 5."
pub record ReadingCases : Type 0 where
  pub farthest_taken : (after_list 8 1 (pos 0 ∷ pos 1000000 ∷ negsuc 999999 ∷ pos 0 ∷ [])).number ≡ 0
  pub beyond : (after_list 8 1 (pos 0 ∷ pos 1000001 ∷ pos 0 ∷ pos 0 ∷ [])).number ≡ 4
  pub sum_other : (after_list 8 1 (pos 0 ∷ pos 5 ∷ negsuc 3 ∷ pos 0 ∷ [])).number ≡ 5
