-- The target's numbers are indexed in arrays of the function's own, and those of the source are looked for.
use Rattle.book.specs.Book.{number_at}
use Rattle.numbers.proofs.Numbering.{can_search}
use Rattle.numbers.proofs.Apart.{no_number}
use Rattle.numbers.proofs.Held.{book_index, none_named}
use Rattle.numbers.proofs.none_met.Goals as goal

pub index_book-requires : goal.index_book-requires
index_book-requires c = record { number_index = no_number; d_le_most_d = c.requires.d_le_most_d }

pub none_held-requires : goal.none_held-requires
none_held-requires c =
    record { searchable = can_search _ _ _ (book_index _ _ _ _ c.index_book.ensures c.requires.book_value); d_le_most_d = (c.requires.d_le_most_d.0, c.requires.count_le_most_readings.0, c.requires.count_le_most_readings.1) }

pub returns : goal.returns
returns c =
    none_named _ _ _ _ c.index_book.ensures c.requires.book_value c.args.count (number_at c.args.d c.args.source.now) c.none_held.ensures
