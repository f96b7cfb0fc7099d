-- Functions that are `pub` only because another crate of the library calls them; docs/INNER.md lists them with what they ask.
use denote.RattleType.{RattleType}
use denote.Param.Laws.{Laws}
use Rattle.promises.specs.Allowed.{OnlyOutcome, OnlyRead, behind}
use Rattle.whole.specs.contracts as whole_says
use Rattle.whole.proofs as whole_proofs
use Rattle.lattice.specs.contracts as lattice_says
use Rattle.lattice.proofs as lattice_proofs
use Rattle.simplex.specs.contracts as simplex_says
use Rattle.simplex.proofs as simplex_proofs
use Rattle.index.specs.contracts as index_says
use Rattle.index.proofs as index_proofs
use Rattle.table.specs.contracts as table_says
use Rattle.table.proofs as table_proofs
use Rattle.book.specs.contracts as book_says
use Rattle.book.proofs as book_proofs
use Rattle.soundness.specs.contracts as soundness_says
use Rattle.soundness.proofs as soundness_proofs
use Rattle.numbers.specs.contracts as numbers_says
use Rattle.numbers.proofs as numbers_proofs
use Rattle.pour.specs.contracts as pour_says
use Rattle.pour.proofs as pour_proofs
use Rattle.shares.specs.contracts as shares_says
use Rattle.shares.proofs as shares_proofs
use Rattle.spread.specs.contracts as spread_says
use Rattle.spread.proofs as spread_proofs
use Rattle.carried.specs.contracts as carried_says
use Rattle.carried.proofs as carried_proofs
use Rattle.enter.specs.contracts as enter_says
use Rattle.enter.proofs as enter_proofs
use Rattle.listing.specs.contracts as listing_says
use Rattle.listing.proofs as listing_proofs
use Rattle.blur.specs.contracts as blur_says
use Rattle.blur.proofs as blur_proofs
use Rattle.filter.specs.contracts as filter_says
use Rattle.filter.proofs as filter_proofs
use Rattle.reader.specs.contracts as reader_says
use Rattle.reader.proofs as reader_proofs
use Rattle.text.specs.contracts as text_says
use Rattle.text.proofs as text_proofs

-- Statement: the contract of each of them allows no second outcome; that of `number_told` for each type, and that of `key`, which hands back a reference, as it is read.
pub record InnerOnly : Type 2 where
  pub remainder_of : OnlyOutcome whole_says.division.remainder_of.ended whole_proofs.division.remainder_of.Reads.Learnt
  pub floor_of : OnlyOutcome whole_says.division.floor_of.ended whole_proofs.division.floor_of.Reads.Learnt
  pub round_fraction : OnlyOutcome whole_says.round.round_fraction.ended whole_proofs.round.round_fraction.Reads.Learnt
  pub multiply : OnlyOutcome whole_says.words.multiply.ended whole_proofs.words.multiply.Reads.Learnt
  pub number : OnlyOutcome lattice_says.refusals.Refusal.number.ended lattice_proofs.refusals.Refusal.number.Reads.Learnt
  pub number_told : (T : RattleType) (laws : Laws T) → OnlyOutcome (lattice_says.refusals.number_told.ended T) (lattice_proofs.refusals.number_told.Reads.Learnt T laws)
  pub judge : OnlyOutcome lattice_says.position.judge.ended lattice_proofs.position.judge.Reads.Learnt
  pub key : OnlyRead simplex_says.Simplex.key.ended (λ κs r. behind r) simplex_proofs.Simplex.key.Reads.Learnt
  pub enclose : OnlyOutcome simplex_says.enclose.ended simplex_proofs.enclose.Reads.Learnt
  pub home_of : OnlyOutcome index_says.home.home_of.ended index_proofs.home.home_of.Reads.Learnt
  pub same_key : OnlyOutcome index_says.keys.same_key.ended index_proofs.keys.same_key.Reads.Learnt
  pub search : OnlyOutcome index_says.search.search.ended index_proofs.search.search.Reads.Learnt
  pub in_range : OnlyOutcome table_says.settings.in_range.ended table_proofs.settings.in_range.Reads.Learnt
  pub lengths_fit : OnlyOutcome table_says.settings.lengths_fit.ended table_proofs.settings.lengths_fit.Reads.Learnt
  pub with_counts : OnlyOutcome table_says.with_counts.ended table_proofs.with_counts.Reads.Learnt
  pub own_refusal : OnlyOutcome table_says.reading.own_refusal.ended table_proofs.reading.own_refusal.Reads.Learnt
  pub book_range : OnlyOutcome book_says.settings.in_range.ended book_proofs.settings.in_range.Reads.Learnt
  pub book_lengths : OnlyOutcome book_says.settings.lengths_fit.ended book_proofs.settings.lengths_fit.Reads.Learnt
  pub write_at : OnlyOutcome book_says.writing.write_at.ended book_proofs.writing.write_at.Reads.Learnt
  pub put_entry : OnlyOutcome book_says.writing.put_entry.ended book_proofs.writing.put_entry.Reads.Learnt
  pub is_sound : OnlyOutcome soundness_says.is_sound.ended soundness_proofs.is_sound.Reads.Learnt
  pub place_of : OnlyOutcome numbers_says.place_of.ended numbers_proofs.place_of.Reads.Learnt
  pub is_held : OnlyOutcome numbers_says.is_held.ended numbers_proofs.is_held.Reads.Learnt
  pub add_number : OnlyOutcome numbers_says.add_number.ended numbers_proofs.add_number.Reads.Learnt
  pub index_book : OnlyOutcome numbers_says.index_book.ended numbers_proofs.index_book.Reads.Learnt
  pub numbers_apart : OnlyOutcome numbers_says.numbers_apart.ended numbers_proofs.numbers_apart.Reads.Learnt
  pub none_met : OnlyOutcome numbers_says.none_met.ended numbers_proofs.none_met.Reads.Learnt
  pub lowest_from : OnlyOutcome numbers_says.lowest_from.ended numbers_proofs.lowest_from.Reads.Learnt
  pub add_row : OnlyOutcome pour_says.add_row.ended pour_proofs.add_row.Reads.Learnt
  pub is_new : OnlyOutcome pour_says.is_new.ended pour_proofs.is_new.Reads.Learnt
  pub set_pair : OnlyOutcome pour_says.pair.set_pair.ended pour_proofs.pair.set_pair.Reads.Learnt
  pub raise_pair : OnlyOutcome pour_says.pair.raise_pair.ended pour_proofs.pair.raise_pair.Reads.Learnt
  pub put_key : OnlyOutcome pour_says.stretch.put_key.ended pour_proofs.stretch.put_key.Reads.Learnt
  pub store_key : OnlyOutcome pour_says.stretch.store_key.ended pour_proofs.stretch.store_key.Reads.Learnt
  pub new_in_slots : OnlyOutcome shares_says.new_in_slots.ended shares_proofs.new_in_slots.Reads.Learnt
  pub times : OnlyOutcome shares_says.times.ended shares_proofs.times.Reads.Learnt
  pub pour_shares : OnlyOutcome shares_says.pour_shares.ended shares_proofs.pour_shares.Reads.Learnt
  pub spread_reading : OnlyOutcome spread_says.spread_reading.ended spread_proofs.spread_reading.Reads.Learnt
  pub sums_are_theirs : OnlyOutcome spread_says.sums_are_theirs.ended spread_proofs.sums_are_theirs.Reads.Learnt
  pub is_carried : OnlyOutcome carried_says.is_carried.ended carried_proofs.is_carried.Reads.Learnt
  pub refusal_of : OnlyOutcome carried_says.refusal_of.ended carried_proofs.refusal_of.Reads.Learnt
  pub take : OnlyOutcome enter_says.reading.take.ended enter_proofs.reading.take.Reads.Learnt
  pub enter_one : OnlyOutcome enter_says.reading.enter_one.ended enter_proofs.reading.enter_one.Reads.Learnt
  pub fill : OnlyOutcome listing_says.fill.fill.ended listing_proofs.fill.fill.Reads.Learnt
  pub pair_of : OnlyOutcome blur_says.pair.pair_of.ended blur_proofs.pair.pair_of.Reads.Learnt
  pub blur : OnlyOutcome blur_says.blur.ended blur_proofs.blur.Reads.Learnt
  pub reply_at : OnlyOutcome filter_says.reply.reply_at.ended filter_proofs.reply.reply_at.Reads.Learnt
  pub reply_all : OnlyOutcome filter_says.reply.reply_all.ended filter_proofs.reply.reply_all.Reads.Learnt
  pub row_of : OnlyOutcome reader_says.kinds.row_of.ended reader_proofs.kinds.row_of.Reads.Learnt
  pub kind_of : OnlyOutcome reader_says.kinds.kind_of.ended reader_proofs.kinds.kind_of.Reads.Learnt
  pub fours_of : OnlyOutcome reader_says.kinds.fours_of.ended reader_proofs.kinds.fours_of.Reads.Learnt
  pub body_length : OnlyOutcome reader_says.kinds.body_length.ended reader_proofs.kinds.body_length.Reads.Learnt
  pub is_listed : OnlyOutcome reader_says.kinds.is_listed.ended reader_proofs.kinds.is_listed.Reads.Learnt
  pub is_placed : OnlyOutcome reader_says.kinds.is_placed.ended reader_proofs.kinds.is_placed.Reads.Learnt
  pub of_dimension : OnlyOutcome reader_says.kinds.of_dimension.ended reader_proofs.kinds.of_dimension.Reads.Learnt
  pub settings_of : OnlyOutcome reader_says.settings.settings_of.ended reader_proofs.settings.settings_of.Reads.Learnt
  pub dimension_of : OnlyOutcome reader_says.settings.dimension_of.ended reader_proofs.settings.dimension_of.Reads.Learnt
  pub found_at : OnlyOutcome reader_says.items.found_at.ended reader_proofs.items.found_at.Reads.Learnt
  pub content_at : OnlyOutcome reader_says.content.content_at.ended reader_proofs.content.content_at.Reads.Learnt
  pub put_line : OnlyOutcome text_says.put_line.ended text_proofs.put_line.Reads.Learnt
