-- What is true of tables with a book. Statements: the proofs stand in proofs/.
use Rattle.std.specs.Prelude.{◌≡◌, ◌↔◌, ◌≢◌, false, List, [], ◌∷◌, ◌++◌, ℕ, suc, ◌+◌, ◌*◌, ◌≤◌, ◌<◌, T, ℤ, pos, ◌*ℤ◌, length, take}
use Rattle.whole.specs.Lists.{at, tab}
use Rattle.lattice.specs.Limits.{most_readings}
use Rattle.lattice.specs.Refusals.{number_held}
use Rattle.lattice.specs.Lattice.{Point}
use Rattle.lattice.specs.Weight.{weight}
use Rattle.table.specs.Table.{Settings, Table, held}
use Rattle.table.specs.Reading.{Reading}
use Rattle.table.specs.Sound.{Fine}
use Rattle.table.specs.Theorems.{plus}
use Rattle.book.specs.Book.{Numbered, Booked, number_at, entry_of, entries, sums_theirs, book_sound, Theirs, Carries}
use Rattle.book.specs.Numbers.{holds_number, lowest}
use Rattle.book.specs.Withdraw.{without}
use Rattle.book.specs.Calls.{fresh_refusal, after_fresh, refusal, entered, parsed, enter_refusal, enter, merge_refusal, merged, withdraw_refusal, after_withdraw}

-- the test "the sums are theirs" passes exactly where at every lattice point the table holds what the book's readings give
abbrev pub SumsAreTheFact : Type 0
SumsAreTheFact = (c : Settings) (t : Table) → Fine c t → (r : ℕ → Reading) → T (sums_theirs c t r) ↔ Theirs c t (tab t.n r)

-- and all tests of the book together exactly where n is at most B and the table carries its entries
abbrev pub BookSoundIsTheFact : Type 0
BookSoundIsTheFact = (c : Settings) (b : Booked) → Fine c b.table → T (book_sound c b) ↔ ((b.table.n ≤ b.room) × Carries c b.table (entries c.d b.table.n b.book))

-- settings, lengths and soundness of a table with its book
pub record FineBook (c : Settings) (b : Booked) : Type 0 where
  pub fine : Fine c b.table
  pub room_least : 1 ≤ b.room
  pub room_most : b.room ≤ most_readings
  pub lengths : length b.book ≡ (c.d + 3) * b.room
  pub sound : T (book_sound c b)

-- withdrawing keeps it, and the entries are the others in their order
pub record Withdrawn (c : Settings) (b : Booked) (j : ℕ) : Type 0 where
  pub fine_book : FineBook c (without c b j)
  pub before : List Numbered
  pub behind : List Numbered
  pub held : entries c.d b.table.n b.book ≡ before ++ (entry_of c.d b.book j ∷ behind)
  pub holds : entries c.d (without c b j).table.n (without c b j).book ≡ before ++ behind
  pub carries : Carries c (without c b j).table (before ++ behind)

abbrev pub WithdrawKeeps : Type 0
WithdrawKeeps = (c : Settings) (b : Booked) (j : ℕ) → FineBook c b → j < b.table.n → Withdrawn c b j

-- and a withdrawal that is done takes back the one entry that has the number, of a table that is sound with its book
pub record TakesBack (c : Settings) (b : Booked) (k : ℤ) : Type 0 where
  pub fine_book : FineBook c b
  pub place : ℕ
  pub inside : place < b.table.n
  pub numbered : number_at c.d b.book place ≡ k
  pub after_is : after_withdraw c b k ≡ without c b place

abbrev pub WithdrawTakesBack : Type 0
WithdrawTakesBack = (c : Settings) (b : Booked) (k : ℤ) → withdraw_refusal c b k ≡ 0 → TakesBack c b k

-- the other calls keep it too, and the book has their readings "in order of entry, merged ones behind"
pub record Holds (c : Settings) (b : Booked) (es : List Numbered) : Type 0 where
  pub fine_book : FineBook c b
  pub holds : entries c.d b.table.n b.book ≡ es

abbrev pub FreshKeeps : Type 0
FreshKeeps = (c : Settings) (b : Booked) → fresh_refusal c b ≡ 0 → Holds c (after_fresh c b) []

abbrev pub EnterKeeps : Type 0
EnterKeeps = (c : Settings) (b : Booked) (e : Numbered) → length e.reading.position ≡ suc c.d → FineBook c b → refusal c b e ≡ 0
    → Holds c (entered c b e) (entries c.d b.table.n b.book ++ (e ∷ []))

-- a whole call of enter keeps it too, and the book has those taken behind the others: "The table holds those taken and nothing of the refused one."
abbrev pub EnterLeaves : Type 0
EnterLeaves = (c : Settings) (b : Booked) (l : List ℤ) → enter_refusal c b l ≡ 0
    → Holds c (enter c b l).booked (entries c.d b.table.n b.book ++ take (enter c b l).taken (parsed c.d l))

abbrev pub MergeKeeps : Type 0
MergeKeeps = (c : Settings) (b : Booked) (e : Settings) (s : Booked) → merge_refusal c b e s ≡ 0
    → Holds c (merged c b e s) (entries c.d b.table.n b.book ++ entries e.d s.table.n s.book)

-- "To enter a reading (x, v)": at every lattice point the map after is the map before plus (weight, weight·v)
abbrev pub EnterAdds : Type 0
EnterAdds = (c : Settings) (b : Booked) (e : Numbered) → length e.reading.position ≡ suc c.d → FineBook c b → refusal c b e ≡ 0 → (y : List ℤ) → Point c.d y
    → held c (entered c b e).table (take c.d y)
    ≡ plus (held c b.table (take c.d y)) (let w = pos (weight c.d c.S (at e.reading.position) (at y)) in (w, w *ℤ e.reading.value))

-- after a merge it is the sum of the two
abbrev pub MergeAdds : Type 0
MergeAdds = (c : Settings) (b : Booked) (e : Settings) (s : Booked) → merge_refusal c b e s ≡ 0 → (k : List ℤ)
    → held c (merged c b e s).table k ≡ plus (held c b.table k) (held e s.table k)

-- "the lowest number from 0 up not held in that table": it is not held, all below it are, and it is at most the number of readings
pub record Lowest (c : Settings) (b : Booked) : Type 0 where
  pub new : holds_number c b (pos (lowest c b)) ≡ false
  pub least : (k : ℕ) → k < lowest c b → T (holds_number c b (pos k))
  pub small : lowest c b ≤ b.table.n

abbrev pub LowestIsNew : Type 0
LowestIsNew = (c : Settings) (b : Booked) → Lowest c b

-- so a reading that gets it never meets 20
abbrev pub LowestNeverHeld : Type 0
LowestNeverHeld = (c : Settings) (b : Booked) (r : Reading) → refusal c b (record { number = pos (lowest c b); reading = r }) ≢ number_held
