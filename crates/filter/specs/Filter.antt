-- The call: "Filter takes a table, two work sheets of 2·C signed 64-bit numbers, queries, and two lists of one value (signed 32-bit) and one code
-- (a byte) per query."
use Rattle.std.specs.Prelude.{◌≡◌, Bool, ◌&&◌, List, ℕ, zero, suc, ◌+◌, ◌*◌, ◌/◌, ◌%◌, eqb, ℤ, length}
use Rattle.whole.specs.Lists.{at, tab}
use Rattle.table.specs.Table.{Settings, Table}
use Rattle.table.specs.Heads.{Slice}
use Rattle.book.specs.Book.{Booked}
use Rattle.book.specs.Calls.{call_refusal}
use Rattle.blur.specs.Sheet.{blurred_sheet, clear_sheet}
use Rattle.filter.specs.Answer.{code, answer}

-- what is lent to be written
pub record Lent : Type 0 where
  pub first : List ℤ
  pub second : List ℤ
  pub values : List ℤ
  pub codes : List ℕ

-- query j of a list of d+1 coordinates each
abbrev pub query_at : ℕ → List ℤ → ℕ → List ℤ
query_at d l j = tab (suc d) (λ i. at l (suc d * j + i))

-- how many there are
abbrev pub query_count : ℕ → ℕ → ℕ
query_count d numbers = numbers / suc d

-- what number 2 asks of the rest that is lent, in slices of so many numbers: "two work sheets of 2·C", queries that are "whole items", and "one value …
-- and one code … per query"
unfoldable pub lent_fits : ℕ → ℕ → ℕ → ℕ → ℕ → ℕ → ℕ → Bool
lent_fits d C first second queries values codes =
    eqb first (2 * C) && eqb second (2 * C) && eqb (queries % suc d) 0 && (eqb values (query_count d queries) && eqb codes (query_count d queries))

-- "1, 2, 3 for the call", of a table with its book
abbrev pub filter_refusal : Settings → Booked → List ℤ → Lent → ℕ
filter_refusal c b queries l = call_refusal c b (lent_fits c.d c.C (length l.first) (length l.second) (length queries) (length l.values) (length l.codes))

-- what is left where the call is done: each query's value and code, and "Afterwards the first 2·m numbers of the first sheet hold the blurred pairs
-- in stored order; every other number of both sheets is 0."
unfoldable pub filtered : Settings → Table → List ℤ → Lent
filtered c t queries = record {
  first = blurred_sheet c t;
  second = clear_sheet c;
  values = tab (query_count c.d (length queries)) (λ j. answer c t (query_at c.d queries j));
  codes = tab (query_count c.d (length queries)) (λ j. code c t (query_at c.d queries j));
}

-- "A call refused as a whole … changes no lent memory."
unfoldable pub after_filter : Settings → Booked → List ℤ → Lent → Lent
after_filter c b queries l = elim (filter_refusal c b queries l) [ zero ↦ filtered c b.table queries | suc x ↦ l ]

-- The call's number, and the memory that it leaves.
pub record Filters (c : Settings) (b : Booked) (queries : List ℤ) (l : Lent) (number : ℕ) (first second values : List ℤ) (codes : List ℕ) : Type 0 where
  pub number_is : number ≡ filter_refusal c b queries l
  pub first_is : first ≡ (after_filter c b queries l).first
  pub second_is : second ≡ (after_filter c b queries l).second
  pub values_are : values ≡ (after_filter c b queries l).values
  pub codes_are : codes ≡ (after_filter c b queries l).codes

-- `Filters` of the sheets and lists that are lent, before and after the call
abbrev pub FiltersIn : Settings → Booked → List ℤ → ℕ → Slice ℤ → Slice ℤ → Slice ℤ → Slice ℕ → Type 0
FiltersIn c b queries number first second values codes =
    let l : Lent = record { first = first.entry.now; second = second.entry.now; values = values.entry.now; codes = codes.entry.now } in
    Filters c b queries l number first.exit.now second.exit.now values.exit.now codes.exit.now
