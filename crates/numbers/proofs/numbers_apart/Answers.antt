-- The numbers are indexed in arrays of the function's own.
use Rattle.numbers.proofs.Apart.{no_number}
use Rattle.numbers.proofs.numbers_apart.Goals as goal

pub index_book-requires : goal.index_book-requires
index_book-requires c = record { number_index = no_number; d_le_most_d = c.requires }
