-- Demand 3, of what is taken: "Order does not matter". Whether all readings of a table are taken is told by the readings, the capacity and the room of the book: by the limits of each, by their
-- number, by the number of different points of weight above 0, and by their numbers, which tell readings apart. It is not told by the order in which they come, nor by how they are shared among tables,
-- if none of these is smaller.
use Rattle.std.specs.Prelude.{◌≡◌, ◌↔◌, ℕ, ◌+◌, ◌≤◌, ◌<◌, ℤ, pos, length, get_or}
use mathlib.Core.List.{List, [], ◌++◌, map, Perm}
use Rattle.whole.specs.Lists.{at, All, Each}
use Rattle.lattice.specs.Limits.{most_readings}
use Rattle.table.specs.Table.{Row}
use Rattle.table.specs.Reading.{Reading, Lawful}
use Rattle.book.specs.Book.{Numbered, Booked, readings_of, OtherNumber}
use Rattle.book.specs.Calls.{fresh_refusal, parsed, enter, merge_refusal, withdraw_refusal}
use Rattle.reader.specs.Items.{settings_of}
use Rattle.reader.specs.Content.{Brought, unnumbered, Said, reads, asks, refuses}
use Rattle.reader.specs.Walk as log
use Rattle.reader.specs.Walk.{Walk, then, ends, items}
use Rattle.load.specs.Loading.{start_refusal, load}
use Rattle.load.specs.Numbering.{numbers_of, numbering}
use Rattle.promises.specs.History.{History, starting, entering, merging, offering, withdrawing, loading, capacity, room, settings_in, run, Begun, taken, NoneRefused, readings}
use Rattle.promises.specs.Refusals.{WholeItems}
use Rattle.promises.specs.Order.{ListedFrom}

-- Readings that fit into a table of capacity C, which speaks of no table's memory: each is within its own limits, "At most 4,096 readings in a table.", and the sorted listing of them has at
-- most C points.
pub record FitInto (d S C : ℕ) (rs : List Reading) : Type 0 where
  pub each : All (Lawful d) rs
  pub few : length rs ≤ most_readings
  pub listing : List Row
  pub theirs : ListedFrom d S rs listing
  pub room : length listing ≤ C

-- and with their numbers into a table with a book of room B: "7 now comes above B", and "none has another's number"
pub record FitBook (d S C B : ℕ) (es : List Numbered) : Type 0 where
  pub fit : FitInto d S C (readings_of es)
  pub few : length es ≤ B
  pub apart : Each OtherNumber es

-- one of these readings has the number k
abbrev pub HasNumber : ℤ → List Numbered → Type 0
HasNumber k es = (i : ℕ) × (i < length es) × (get_or (map (λ e. e.number) es) i k ≡ k)

-- the items of a log are in form: none of 12, 13, 14 and 15 is met
abbrev pub SaidInForm : Said → Type 0
SaidInForm (reads r) = Unit
SaidInForm (asks q) = Unit
SaidInForm (refuses x) = x ≡ 0

abbrev pub ItemsInForm : Walk → Type 0
ItemsInForm (then a s w) = SaidInForm s × ItemsInForm w
ItemsInForm (ends x a) = x ≡ 0

-- Statement: a list of readings is taken whole, a table is merged in, and a log is taken whole, exactly where these readings fit together with those that the table holds; and a reading is taken back
-- exactly where one of those has its number.
pub record TakenExactly : Type 0 where
  pub list_taken : (d S : ℕ) (h : History) (l : List ℤ) → Begun d S h → WholeItems (d + 3) l
      → (enter (settings_in d S h) (run d S h) l).number ≡ 0 ↔ FitBook d S (capacity h) (room h) (taken d S h ++ parsed d l)
  pub table_taken : (d S : ℕ) (h g : History) → Begun d S h → Begun d S g
      → merge_refusal (settings_in d S h) (run d S h) (settings_in d S g) (run d S g) ≡ 0 ↔ FitBook d S (capacity h) (room h) (taken d S h ++ taken d S g)
  pub log_taken : (l : List ℕ) (b : Booked) → start_refusal l b ≡ 0
      → (load l b).number ≡ 0 ↔ ItemsInForm (items l) × FitBook (settings_of l).d (settings_of l).S (settings_of l).C b.room (numbering [] (log.readings (items l)))
  pub reading_taken_back : (d S : ℕ) (h : History) (k : ℤ) → Begun d S h → withdraw_refusal (settings_in d S h) (run d S h) k ≡ 0 ↔ HasNumber k (taken d S h)

-- Statement: readings of a log without numbers get 0, 1, 2 and so on, so a log that has no others is never refused for a number.
pub record Unnumbered (rs : List Brought) : Type 0 where
  pub counted : (i : ℕ) → i < length (numbering [] rs) → at (numbers_of (numbering [] rs)) i ≡ pos i
  pub apart : Each OtherNumber (numbering [] rs)

abbrev pub UnnumberedApart : Type 0
UnnumberedApart = (rs : List Brought) → All (λ r. r.given ≡ unnumbered) rs → Unnumbered rs

-- a history in which nothing is out of form: settings and slices are accepted, lists are whole readings, logs have items in form, and where a reading is taken back one has the number, and all before fit
abbrev pub InForm : ℕ → ℕ → ℕ → ℕ → History → Type 0
InForm d S C B (starting K b) = fresh_refusal (record { d = d; S = S; C = K }) b ≡ 0
InForm d S C B (entering h l) = InForm d S C B h × WholeItems (d + 3) l
InForm d S C B (merging h g) = InForm d S C B h × InForm d S C B g
InForm d S C B (offering h e s) = ⊥
InForm d S C B (withdrawing h k) = InForm d S C B h × FitBook d S C B (readings d h) × HasNumber k (readings d h)
InForm d S C B (loading l b) = ((settings_of l).d ≡ d) × ((settings_of l).S ≡ S) × (start_refusal l b ≡ 0) × ItemsInForm (items l)

-- each of its tables has a capacity of C or more, and a book of room B or more
abbrev pub Roomy : ℕ → ℕ → History → Type 0
Roomy C B (starting K b) = (C ≤ K) × (B ≤ b.room)
Roomy C B (entering h l) = Roomy C B h
Roomy C B (merging h g) = Roomy C B h × Roomy C B g
Roomy C B (offering h e s) = Roomy C B h
Roomy C B (withdrawing h k) = Roomy C B h
Roomy C B (loading l b) = (C ≤ (settings_of l).C) × (B ≤ b.room)

-- Statement: where no call of one history is refused, none is refused of another one of the same readings, with their numbers, in any order, shared among tables in any way, if none of its tables has a
-- smaller capacity or a smaller room than the table that the first one ends in.
abbrev pub AcceptedInAnyOrder : Type 0
AcceptedInAnyOrder = (d S : ℕ) (h g : History) → NoneRefused d S h → InForm d S (capacity h) (room h) g → Roomy (capacity h) (room h) g → Perm (readings d h) (readings d g) → NoneRefused d S g
