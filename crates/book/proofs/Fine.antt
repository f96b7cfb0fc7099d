-- What a table that is sound with its book has, for the code that goes through the book.
use mathlib.Core.Path.{◌≡◌}
use mathlib.Core.Bool.{true, ◌&&◌}
use Prim.Native.Nat.{◌+◌, ◌*◌, ◌≤◌}
use native.Mathlib.Nat.{mul-le-mul_left}
use native.Mathlib.Omega.{arith}
use lib.Dec.{leb, leb→le}
use lib.ListN.{length}
use Rattle.whole.specs.Sum.{all}
use Rattle.whole.proofs.Tests.{and_l, and_r, T_true}
use Rattle.table.specs.Table.{Settings}
use Rattle.book.specs.Book.{Booked, number_at, entry_of, keeps_limits, numbers_apart, sums_theirs, book_sound}
use Rattle.book.specs.Theorems.{FineBook}

module _ (c : Settings) (b : Booked) (F : FineBook c b) where
  pub readings_few : b.table.n ≤ b.room
  unfolding book_sound
  readings_few = leb→le b.table.n b.room (and_l (leb b.table.n b.room) _ F.sound)

  -- the book is long enough for its entries,
  pub book_long : (c.d + 3) * b.table.n ≤ length b.book
  book_long = omega (arith, F.lengths, mul-le-mul_left (c.d + 3) readings_few)

  -- and no two of them have one number
  pub numbers_apart_lem : numbers_apart b.table.n (number_at c.d b.book) ≡ true
  unfolding book_sound
  numbers_apart_lem =
      let n = b.table.n in
      let limits = all n (λ j. keeps_limits (entry_of c.d b.book j).reading) in
      let apart = numbers_apart n (number_at c.d b.book) in
      let theirs = sums_theirs c b.table (λ j. (entry_of c.d b.book j).reading) in
      T_true apart (and_r limits apart (and_l (limits && apart) theirs (and_r (leb n b.room) (limits && apart && theirs) F.sound)))
