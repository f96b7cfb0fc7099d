-- What the definitions compute.
use mathlib.Core.Path.{refl}
use Rattle.whole.specs.Floor.{floor, remainder}
use Rattle.whole.specs.Sum.{sum, over, all}
use Rattle.whole.specs.Lists.{tab, collect}
use Rattle.whole.specs.Word.{word}
use Rattle.lattice.specs.Refusals.{first}
use Rattle.lattice.specs.Position.{all_near, sums_to_zero}
use Rattle.lattice.specs.Weight.{best, spread, weight}
use Rattle.lattice.specs.Points.{corner, last_of, points}
use Rattle.index.specs.Keys.{same, key_at, hash, home}
use Rattle.index.specs.Search.{walk, search as sought}
use Rattle.index.specs.Indexed.{count, sparse, finding}
use Rattle.table.specs.Table.{rows, whole}
use Rattle.table.specs.Sound.{good_key, good_pair, indexed, sound}
use Rattle.table.specs.Pour.{set_pair, append, raise, pour, news_in}
use Rattle.table.specs.Reading.{shares, own_refusal}
use Rattle.table.specs.Calls.{ranged, fits, fresh}
use Rattle.book.specs.Book.{entries, among, sums_theirs, book_sound}
use Rattle.book.specs.Numbers.{lowest_from}
use Rattle.book.specs.Withdraw.{point_of, vacated, leave, afresh, withdrawn, closed, entry_with}
use Rattle.book.specs.Calls.{fresh_booked, call_refusal, refusal, enter_all, parsed, enter, merge_refusal, withdraw_refusal, after_withdraw}
use Rattle.book.specs.Worked.{WithdrawCases, CallCases, RoomCases, OrderCases, ReadingCases}

pub worked : WithdrawCases
unfolding floor remainder sum over all tab collect word first all_near sums_to_zero best spread weight corner last_of points same key_at hash home walk sought count sparse finding rows whole good_key good_pair indexed sound set_pair append raise pour news_in shares own_refusal ranged fits fresh among sums_theirs book_sound point_of vacated leave afresh withdrawn closed
worked = record { is_sound = refl; first_back = refl; first_index = refl; first_book = refl; first_sound = refl; second_back = refl; both_back = refl }

pub calls : CallCases
unfolding floor remainder sum over all tab collect word first all_near sums_to_zero best spread weight corner last_of points same key_at hash home walk sought count sparse finding rows whole good_key good_pair indexed sound set_pair append raise pour news_in shares own_refusal ranged fits fresh among sums_theirs book_sound point_of vacated leave afresh withdrawn closed entries lowest_from entry_with fresh_booked call_refusal refusal enter_all parsed enter merge_refusal withdraw_refusal after_withdraw
calls = record { taken_back = refl; not_held = refl; held_again = refl; twenty_first = refl; seven_next = refl; lowest_one = refl; met = refl }

pub room_cases : RoomCases
unfolding floor remainder sum over all tab collect word first all_near sums_to_zero best spread weight corner last_of points same key_at hash home walk sought count sparse finding rows whole good_key good_pair indexed sound set_pair append raise pour news_in shares own_refusal ranged fits fresh among sums_theirs book_sound entries fresh_booked call_refusal refusal enter_all parsed enter
room_cases = record { both_taken = refl; room_for_two = refl; room_for_one = refl; book_for_one = refl }

pub order_cases : OrderCases
unfolding floor remainder sum over all tab collect word first all_near sums_to_zero best spread weight corner last_of points same key_at hash home walk sought count sparse finding rows whole good_key good_pair indexed sound set_pair append raise pour news_in shares own_refusal ranged fits fresh among sums_theirs book_sound entries fresh_booked call_refusal refusal enter_all parsed enter
order_cases = record { seven_before_eight = refl; twenty_before_seven = refl; six_before_twenty = refl }

pub reading_cases : ReadingCases
unfolding floor remainder sum over all tab collect word first all_near sums_to_zero best spread weight corner last_of points same key_at hash home walk sought count sparse finding rows whole good_key good_pair indexed sound set_pair append raise pour news_in shares own_refusal ranged fits fresh among sums_theirs book_sound entries fresh_booked call_refusal refusal enter_all parsed enter
reading_cases = record { farthest_taken = refl; beyond = refl; sum_other = refl }
