-- Demand 2: "each refusal comes when its condition holds, in the stated order, and at no other time." For each call on tables and each of its
-- numbers: the answer is that number if and only if its condition holds and no earlier one does.
use Rattle.std.specs.Prelude.{◌≡◌, ◌↔◌, List, ℕ, suc, ◌+◌, ◌*◌, ◌≤◌, ◌<◌, ℤ, pos, nat_abs, length, get_or, take}
use Rattle.whole.specs.Sum.{sum}
use Rattle.whole.specs.Lists.{at}
use Rattle.lattice.specs.Limits.{farthest, most_value, most_readings}
use Rattle.lattice.specs.Refusals.{settings_out_of_range, other_length, not_sound, coordinate_beyond, sum_not_zero, value_beyond, too_many_readings, too_many_points, settings_differ, no_mass_met, number_not_held, number_held}
use Rattle.lattice.specs.Position.{Position}
use Rattle.table.specs.Table.{Settings, Table, rows, keys_of}
use Rattle.table.specs.Sound.{Sound, Ranged, Shape, Fine}
use Rattle.table.specs.Pour.{news}
use Rattle.table.specs.Reading.{Reading, shares}
use Rattle.book.specs.Book.{Numbered, Booked, number_at, entries, Carries}
use Rattle.book.specs.Calls.{Outcome, fresh_refusal, refusal, enter_refusal, parsed, enter_all, enter, merge_refusal, withdraw_refusal}
use Rattle.book.specs.Theorems.{FineBook}
use Rattle.listing.specs.Listing.{list_refusal}
use Rattle.filter.specs.Answer.{code}
use Rattle.filter.specs.Filter.{Lent, filter_refusal}
use Rattle.filter.specs.Theorems.{Coded}

abbrev pub Not : Type 0 → Type 0
Not A = A → ⊥

-- "whole items", of so many numbers each
abbrev pub WholeItems : ℕ → List ℤ → Type 0
WholeItems width l = (k : ℕ) × (length l ≡ width * k)

-- "Dimension d: 1 to 5. Fineness S: 1 to 64. Capacity C: 1 to 8,192 points.", and "room B, 1 to 4,096"
pub record InRange (c : Settings) (b : Booked) : Type 0 where
  pub ranged : Ranged c
  pub least : 1 ≤ b.room
  pub most : b.room ≤ most_readings

-- four slices of their lengths
pub record Lengths (c : Settings) (b : Booked) : Type 0 where
  pub shape : Shape c b.table
  pub book : length b.book ≡ (c.d + 3) * b.room

-- a sound table: document 01's soundness, and "Soundness now adds that the book's readings keep the limits, none has another's number, and the sums are theirs."
pub record SoundBook (c : Settings) (b : Booked) : Type 0 where
  pub sound : Sound c b.table
  pub few : b.table.n ≤ b.room
  pub carries : Carries c b.table (entries c.d b.table.n b.book)

-- "Fresh: 1, 2."
pub record FreshRefuses (c : Settings) (b : Booked) : Type 0 where
  pub one : fresh_refusal c b ≡ settings_out_of_range ↔ Not (InRange c b)
  pub two : fresh_refusal c b ≡ other_length ↔ InRange c b × Not (Lengths c b)
  pub none : fresh_refusal c b ≡ 0 ↔ InRange c b × Lengths c b

-- "1, 2, 3 for the whole call": its number, where these lengths are asked for
pub record CallRefuses (c : Settings) (b : Booked) (All-lengths : Type 0) (number : ℕ) : Type 0 where
  pub one : number ≡ settings_out_of_range ↔ Not (InRange c b)
  pub two : number ≡ other_length ↔ InRange c b × Not All-lengths
  pub three : number ≡ not_sound ↔ InRange c b × All-lengths × Not (SoundBook c b)
  pub none : number ≡ 0 ↔ InRange c b × All-lengths × SoundBook c b

-- the lengths that enter, list and filter ask for: "Enter takes its list in the book's form"
abbrev pub EnterLengths : Settings → Booked → List ℤ → Type 0
EnterLengths c b l = Lengths c b × WholeItems (c.d + 3) l

abbrev pub ListLengths : Settings → Booked → List ℕ → Type 0
ListLengths c b l = Lengths c b × (length l ≡ c.C)

pub record FilterLengths (c : Settings) (b : Booked) (queries : List ℤ) (l : Lent) : Type 0 where
  pub lengths : Lengths c b
  pub first : length l.first ≡ 2 * c.C
  pub second : length l.second ≡ 2 * c.C
  -- queries that are whole items, with one value and one code each
  pub values : length queries ≡ suc c.d * length l.values
  pub codes : length queries ≡ suc c.d * length l.codes

-- one of the readings of the book has the number k
abbrev pub Held : Settings → Booked → ℤ → Type 0
Held c b k = (j : ℕ) × (j < b.table.n) × (number_at c.d b.book j ≡ k)

-- a number of the source's book is one of the target's
abbrev pub Met : Settings → Booked → Booked → Type 0
Met c b s = (j : ℕ) × (j < s.table.n) × Held c b (number_at c.d s.book j)

-- withdraw: 1, 2, 3, 19; "19 number not held (withdraw, after 3)"
pub record WithdrawRefuses (c : Settings) (b : Booked) (k : ℤ) : Type 0 where
  pub one : withdraw_refusal c b k ≡ settings_out_of_range ↔ Not (InRange c b)
  pub two : withdraw_refusal c b k ≡ other_length ↔ InRange c b × Not (Lengths c b)
  pub three : withdraw_refusal c b k ≡ not_sound ↔ InRange c b × Lengths c b × Not (SoundBook c b)
  pub nineteen : withdraw_refusal c b k ≡ number_not_held ↔ FineBook c b × Not (Held c b k)
  pub none : withdraw_refusal c b k ≡ 0 ↔ FineBook c b × Held c b k

-- "Order: 1, 2, 3, for each the target before the source; 9, 7, 8.", with 20 "after 9" and 7 above the target's B
pub record MergeRefuses (c : Settings) (b : Booked) (e : Settings) (s : Booked) : Type 0 where
  pub one : merge_refusal c b e s ≡ settings_out_of_range ↔ Not (InRange c b × InRange e s)
  pub two : merge_refusal c b e s ≡ other_length ↔ (InRange c b × InRange e s) × Not (Lengths c b × Lengths e s)
  pub three : merge_refusal c b e s ≡ not_sound ↔ (InRange c b × InRange e s) × (Lengths c b × Lengths e s) × Not (SoundBook c b × SoundBook e s)
  pub nine : merge_refusal c b e s ≡ settings_differ ↔ (FineBook c b × FineBook e s) × Not ((c.d ≡ e.d) × (c.S ≡ e.S))
  pub twenty : merge_refusal c b e s ≡ number_held ↔ (FineBook c b × FineBook e s) × ((c.d ≡ e.d) × (c.S ≡ e.S)) × Met c b s
  pub seven : merge_refusal c b e s ≡ too_many_readings ↔ (FineBook c b × FineBook e s) × ((c.d ≡ e.d) × (c.S ≡ e.S)) × Not (Met c b s) × (b.room < b.table.n + s.table.n)
  pub eight : merge_refusal c b e s ≡ too_many_points
      ↔ (FineBook c b × FineBook e s) × ((c.d ≡ e.d) × (c.S ≡ e.S)) × Not (Met c b s) × (b.table.n + s.table.n ≤ b.room)
      × (c.C < b.table.m + news c b.table (keys_of (rows e s.table)))
  pub none : merge_refusal c b e s ≡ 0
      ↔ (FineBook c b × FineBook e s) × ((c.d ≡ e.d) × (c.S ≡ e.S)) × Not (Met c b s) × (b.table.n + s.table.n ≤ b.room)
      × (b.table.m + news c b.table (keys_of (rows e s.table)) ≤ c.C)

-- "A value is from -1,000,000 to 1,000,000": so is that of a reading
abbrev pub Fair : Reading → Type 0
Fair r = nat_abs r.value ≤ most_value

-- then for each reading 4, 5, 6, 20, 7, 8: of a reading of d+1 coordinates with its number, entered into the table; "20 number held already (enter and loading, after 6 …"
pub record ReadingRefused (c : Settings) (b : Booked) (e : Numbered) : Type 0 where
  pub four : refusal c b e ≡ coordinate_beyond ↔ (i : ℕ) × (i < suc c.d) × (farthest < nat_abs (at e.reading.position i))
  pub five : refusal c b e ≡ sum_not_zero
      ↔ ((i : ℕ) → i < suc c.d → nat_abs (at e.reading.position i) ≤ farthest) × Not (sum (suc c.d) (at e.reading.position) ≡ pos 0)
  pub six : refusal c b e ≡ value_beyond ↔ Position c.d e.reading.position × Not (Fair e.reading)
  pub twenty : refusal c b e ≡ number_held ↔ Position c.d e.reading.position × Fair e.reading × Held c b e.number
  pub seven : refusal c b e ≡ too_many_readings ↔ Position c.d e.reading.position × Fair e.reading × Not (Held c b e.number) × (b.room < b.table.n + 1)
  pub eight : refusal c b e ≡ too_many_points
      ↔ Position c.d e.reading.position × Fair e.reading × Not (Held c b e.number) × (b.table.n + 1 ≤ b.room)
      × (c.C < b.table.m + news c b.table (keys_of (shares c.d c.S e.reading)))
  pub none : refusal c b e ≡ 0
      ↔ Position c.d e.reading.position × Fair e.reading × Not (Held c b e.number) × (b.table.n + 1 ≤ b.room)
      × (b.table.m + news c b.table (keys_of (shares c.d c.S e.reading)) ≤ c.C)

-- "It stops at the first refused reading and answers how many it took, the number (0 if all), and the new head. The table holds those taken and
-- nothing of the refused one.": the readings taken, entered alone, are all taken and leave that table; the next is refused with the number
pub record EnterStops (c : Settings) (b : Booked) (es : List Numbered) (o : Outcome) : Type 0 where
  pub few : o.taken ≤ length es
  pub those_taken : enter_all c b (take o.taken es) ≡ record { taken = o.taken; number = 0; booked = o.booked }
  pub all_taken : o.number ≡ 0 ↔ o.taken ≡ length es
  pub stopped : (e : Numbered) → o.taken < length es → o.number ≡ refusal c o.booked (get_or es o.taken e)

-- "each query 4, 5, 10, 11"; on a sound table 11 is never met
pub record QueryRefused (c : Settings) (t : Table) (q : List ℤ) : Type 0 where
  pub coded : Coded c t q
  pub never_eleven : Not (code c t q ≡ no_mass_met)

-- Statement: all of these, for every input.
pub record RefusalsExact : Type 0 where
  pub fresh_call : (c : Settings) (b : Booked) → FreshRefuses c b
  pub enter_call : (c : Settings) (b : Booked) (l : List ℤ) → CallRefuses c b (EnterLengths c b l) (enter_refusal c b l)
  pub enter_stops : (c : Settings) (b : Booked) (l : List ℤ) → enter_refusal c b l ≡ 0 → EnterStops c b (parsed c.d l) (enter c b l)
  pub reading : (c : Settings) (b : Booked) (e : Numbered) → length e.reading.position ≡ suc c.d → ReadingRefused c b e
  pub merge_call : (c : Settings) (b : Booked) (e : Settings) (s : Booked) → MergeRefuses c b e s
  pub withdraw_call : (c : Settings) (b : Booked) (k : ℤ) → WithdrawRefuses c b k
  pub list_call : (c : Settings) (b : Booked) (l : List ℕ) → CallRefuses c b (ListLengths c b l) (list_refusal c b l)
  pub filter_call : (c : Settings) (b : Booked) (queries : List ℤ) (l : Lent) → CallRefuses c b (FilterLengths c b queries l) (filter_refusal c b queries l)
  pub query : (c : Settings) (t : Table) → Fine c t → (q : List ℤ) → length q ≡ suc c.d → QueryRefused c t q
