-- A sound table is made of the readings of its book, and two tables of the same readings are alike. So "Afterwards the sorted listing is the one of a table
-- never given that reading."
use Rattle.std.specs.Prelude.{◌≡◌, ℕ, ◌<◌, ℤ}
use mathlib.Core.List.{List, ◌∷◌, Perm}
use Rattle.table.specs.Table.{Settings}
use Rattle.table.specs.Reading.{Reading}
use Rattle.book.specs.Book.{Booked, number_at, entry_of, entries, readings_of}
use Rattle.book.specs.Calls.{withdraw_refusal, after_withdraw}
use Rattle.book.specs.Theorems.{FineBook}
use Rattle.promises.specs.Order.{MadeOf, Same}

-- the readings that a table holds, by its book
abbrev pub held_readings : Settings → Booked → List Reading
held_readings c b = readings_of (entries c.d b.table.n b.book)

-- Statement: every sound table is made of the readings of its book, also one that no call of the library made.
abbrev pub SoundIsMade : Type 0
SoundIsMade = (c : Settings) (b : Booked) → FineBook c b → MadeOf c.d c.S (held_readings c b) c b.table

-- Statement: two sound tables of one d and S whose books hold the same readings, in any order and with any numbers, are alike.
abbrev pub SameBooks : Type 0
SameBooks = (c : Settings) (b : Booked) (e : Settings) (s : Booked) → FineBook c b → FineBook e s → c.d ≡ e.d → c.S ≡ e.S
    → Perm (held_readings c b) (held_readings e s) → Same c b.table e s.table

-- Statement: "Afterwards the sorted listing is the one of a table never given that reading.": after a withdrawal that is done, where entry j has the number,
-- the table is alike to any sound table s, of one d and S, that has the other readings in any order. So are the totals and every answer.
abbrev pub WithdrawForgets : Type 0
WithdrawForgets = (c : Settings) (b : Booked) (k : ℤ) → withdraw_refusal c b k ≡ 0 → (j : ℕ) → j < b.table.n → number_at c.d b.book j ≡ k
    → (e : Settings) (s : Booked) → FineBook e s → c.d ≡ e.d → c.S ≡ e.S
    → Perm (held_readings c b) ((entry_of c.d b.book j).reading ∷ held_readings e s) → Same c (after_withdraw c b k).table e s.table
