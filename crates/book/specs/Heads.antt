-- A head with its four lent slices as a table with its book, and what a call on it hands back and leaves.
use Rattle.std.specs.Prelude.{◌≡◌, List, ℕ, ℤ}
use Rattle.table.specs.declared.Head.{Head}
use Rattle.table.specs.Calls.{lent}
use Rattle.table.specs.Heads.{table, table_in, Slice, Holds, Answers}
use Rattle.book.specs.Book.{Booked}
use Rattle.book.specs.Calls.{Outcome}

-- the table of a head with its book: "a fourth lent slice of room B"
abbrev pub booked : Head → List ℤ → List ℤ → List ℕ → List ℤ → Booked
booked h keys sums index book = record { table = table h keys sums index; room = h.room; book = book }

-- what a call finds in four slices
abbrev pub booked_in : Head → Slice ℤ → Slice ℤ → Slice ℕ → Slice ℤ → Booked
booked_in h keys sums index book = record { table = table_in h keys sums index; room = h.room; book = book.entry.now }

-- what a call that makes a table is lent, with a book of this room
abbrev pub lent_in : ℕ → Slice ℤ → Slice ℤ → Slice ℕ → Slice ℤ → Booked
lent_in room keys sums index book = record { table = lent keys.entry.now sums.entry.now index.entry.now; room = room; book = book.entry.now }

-- Points counted and memory left are those of a table with its book.
pub record HoldsBook (b : Booked) (points : ℕ) (keys sums : List ℤ) (index : List ℕ) (book : List ℤ) : Type 0 where
  pub holds : Holds b.table points keys sums index
  pub book_is : book ≡ b.book

-- A call's number is x, the head it hands back is the one that it was given with the counts of the table, and it leaves the memory of table and book.
pub record AnswersBook (given : Head) (x : ℕ) (b : Booked) (number : ℕ) (head : Head) (keys sums : List ℤ) (index : List ℕ) (book : List ℤ) : Type 0 where
  pub answers : Answers given x b.table number head keys sums index
  pub book_is : book ≡ b.book

-- What enter hands back and leaves: "answers how many it took, the number (0 if all), and the new head"
pub record EntersBook (given : Head) (o : Outcome) (taken number : ℕ) (head : Head) (keys sums : List ℤ) (index : List ℕ) (book : List ℤ) : Type 0 where
  pub taken_is : taken ≡ o.taken
  pub answers : AnswersBook given o.number o.booked number head keys sums index book

-- `AnswersBook` of what is left in four slices
abbrev pub AnswersBookIn : Head → ℕ → Booked → ℕ → Head → Slice ℤ → Slice ℤ → Slice ℕ → Slice ℤ → Type 0
AnswersBookIn given x b number head keys sums index book = AnswersBook given x b number head keys.exit.now sums.exit.now index.exit.now book.exit.now

-- `EntersBook` of what is left in four slices
abbrev pub EntersBookIn : Head → Outcome → ℕ → ℕ → Head → Slice ℤ → Slice ℤ → Slice ℕ → Slice ℤ → Type 0
EntersBookIn given o taken number head keys sums index book = EntersBook given o taken number head keys.exit.now sums.exit.now index.exit.now book.exit.now
