-- The worked log in eight ways, and whether its readings fit: computed.
use mathlib.Core.Path.{◌≡◌, refl}
use native.Mathlib.Omega.{arith}
use Rattle.whole.specs.Floor.{floor, remainder}
use Rattle.whole.specs.Rounding.{rounded}
use Rattle.whole.specs.Sum.{sum, over, all}
use Rattle.whole.specs.Lists.{tab, collect}
use Rattle.whole.specs.Word.{word}
use Rattle.lattice.specs.Refusals.{first, too_many_readings, too_many_points}
use Rattle.lattice.specs.Position.{all_near, sums_to_zero}
use Rattle.lattice.specs.Weight.{best, spread, weight}
use Rattle.lattice.specs.Points.{corner, last_of, points}
use Rattle.index.specs.Keys.{same, key_at, hash, home}
use Rattle.index.specs.Search.{walk as sequence, search as sought}
use Rattle.index.specs.Indexed.{count, sparse, finding}
use Rattle.table.specs.Table.{rows, whole}
use Rattle.table.specs.Sound.{good_key, good_pair, indexed, sound}
use Rattle.table.specs.Pour.{set_pair, append, raise, pour, news_in}
use Rattle.table.specs.Reading.{shares, own_refusal}
use Rattle.table.specs.Calls.{ranged, fits, fresh}
use Rattle.book.specs.Book.{entries, among, sums_theirs, book_sound}
use Rattle.book.specs.Numbers.{lowest_from}
use Rattle.book.specs.Withdraw.{point_of, vacated, leave, afresh, withdrawn, closed, entry_with}
use Rattle.book.specs.Calls.{fresh_refusal, fresh_booked, after_fresh, call_refusal, refusal, enter_all, parsed, enter, merge_refusal, after_merge, withdraw_refusal, after_withdraw}
use Rattle.book.specs.Worked.{both_readings}
use Rattle.listing.specs.Order.{precedes, insert, ordered}
use Rattle.listing.specs.Listing.{order, listed}
use Rattle.blur.specs.Blur.{step, plus_step, minus_step, pass, passes, mass_after, value_after}
use Rattle.filter.specs.Answer.{weighted, meets, code_by, value_by}
use Rattle.reader.specs.Bytes.{little, signed, numbers_in}
use Rattle.reader.specs.Kinds.{kind_in, total}
use Rattle.reader.specs.Items.{form_refusal, item_at}
use Rattle.reader.specs.Content.{said_at}
use Rattle.reader.specs.Walk.{walk, walk_from}
use Rattle.load.specs.Loading.{load_walk, load}
use Rattle.promises.specs.History.{starting, capacity, room, run, taken}
use Rattle.promises.specs.Worked.{slices, WorkedWays}
use Rattle.promises.proofs.Taking.{taken_exactly}

eight_not_zero : too_many_points ≡ 0 → ⊥
eight_not_zero e = omega (arith, e)

seven_not_zero : too_many_readings ≡ 0 → ⊥
seven_not_zero e = omega (arith, e)

pub worked_ways : WorkedWays
unfolding floor remainder rounded sum over all tab collect word first all_near sums_to_zero best spread weight corner last_of points same key_at hash home sequence sought count sparse finding rows whole good_key good_pair indexed sound set_pair append raise pour news_in shares own_refusal ranged fits fresh entries among sums_theirs book_sound lowest_from point_of vacated leave afresh withdrawn closed entry_with fresh_refusal fresh_booked after_fresh call_refusal refusal enter_all parsed enter merge_refusal after_merge withdraw_refusal after_withdraw precedes insert ordered order listed step plus_step minus_step pass passes mass_after value_after weighted meets code_by value_by little signed numbers_in kind_in total form_refusal item_at said_at walk walk_from load_walk load capacity room run taken
worked_ways = record {
  log_way = record { begun = (refl, refl, refl); points = refl; answered = refl };
  list_way = record { begun = refl; points = refl; answered = refl };
  tables_way = record { begun = (refl, refl); points = refl; answered = refl };
  half_way = record { begun = (refl, refl, refl); points = refl; answered = refl };
  refused_offer_way = record { begun = refl; points = refl; answered = refl };
  taken_offer_way = record { begun = refl; points = refl; answered = refl };
  back_way = record { begun = refl; points = refl; answered = refl };
  none_back_way = record { begun = refl; points = refl; answered = refl };
  none_refused = ((refl, refl, refl), (refl, refl), ((refl, refl), (refl, refl), refl), ((refl, refl), refl), (((refl, refl), refl), refl));
  not_held = refl;
  two_fit = (taken_exactly.list_taken 1 2 (starting 2 (slices 2 2)) both_readings refl (2, refl)).0 refl;
  one_point_does_not = λ F. eight_not_zero ((taken_exactly.list_taken 1 2 (starting 1 (slices 1 2)) both_readings refl (2, refl)).1 F);
  one_reading_does_not = λ F. seven_not_zero ((taken_exactly.list_taken 1 2 (starting 2 (slices 2 1)) both_readings refl (2, refl)).1 F);
  half_refused = refl;
}
