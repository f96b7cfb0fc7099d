-- The numbers of so many entries are in.
use mathlib.Core.Path.{◌≡◌}
use lib.ListN.{length}
use Rattle.whole.proofs.Pieces.{Pieces}
use Rattle.book.specs.Book.{number_at}
use Rattle.numbers.proofs.Apart.{Copied}
use Rattle.numbers.proofs.index_book.Given as goal

abbrev pub invariant-loop-j : goal.invariant-loop-j
invariant-loop-j l =
    (goal.iterator-loop-j).can_next l.j-iterator × (goal.iterator-loop-j).is_finite l.j-iterator
    × (l.j-iterator.count ≡ length l.yielded) × Pieces l.width l.n l.book (length l.yielded) l.j-iterator.iter
    × (length l.numbers ≡ length l.initial.numbers) × (length l.places ≡ length l.initial.places) × Copied (length l.yielded) (number_at l.d l.book) l.initial.numbers l.numbers l.places
