-- The head and the lent slices as the definitions have them, and what a call hands back and leaves.
use Rattle.std.specs.Prelude.{◌≡◌, List, ℕ, ℤ, Result, Ok, Err}
use Rattle.std.specs.Borrow.{Bor, MutBor}
use denote.Triple.Both.{Both}
use Rattle.lattice.specs.Refusals.{number}
use Rattle.table.specs.declared.Head.{Head}
use Rattle.table.specs.declared.Refused.{Refused}
use Rattle.table.specs.Table.{Settings, Table}

-- "(d, S, C, number of readings n, number of points m)": the first three. The room of the book stands behind them.
abbrev pub settings : Head → Settings
settings h = record { d = h.d; S = h.fineness; C = h.capacity }

-- the table of a head where so many points are stored
abbrev pub table_with : Head → ℕ → List ℤ → List ℤ → List ℕ → Table
table_with h m keys sums index = record { n = h.readings; m = m; keys = keys; sums = sums; index = index }

-- the table of a head, with as many points as it says
abbrev pub table : Head → List ℤ → List ℤ → List ℕ → Table
table h keys sums index = table_with h h.points keys sums index

-- the head of these settings and this room of the book, with no reading and no point
abbrev pub head_of : Settings → ℕ → Head
head_of c B = record { d = c.d; fineness = c.S; capacity = c.C; room = B; readings = 0; points = 0 }

-- a head with other counts
abbrev pub with_counts : Head → ℕ → ℕ → Head
with_counts h n m = record { d = h.d; fineness = h.fineness; capacity = h.capacity; room = h.room; readings = n; points = m }

-- the head that a call hands back, done or refused
abbrev pub head_told : Result Head Refused → Head
head_told (Ok head) = head
head_told (Err refused) = refused.head

-- the number that is told beside it, and 0 where nothing is refused
abbrev pub told_beside : Result Head Refused → ℕ
told_beside (Ok _) = 0
told_beside (Err refused) = number refused.refusal

-- Points counted and memory left are those of the table t.
pub record Holds (t : Table) (points : ℕ) (keys sums : List ℤ) (index : List ℕ) : Type 0 where
  pub points_are : points ≡ t.m
  pub keys_are : keys ≡ t.keys
  pub sums_are : sums ≡ t.sums
  pub index_are : index ≡ t.index

-- A call's number is x, the head it hands back is the one that it was given with the counts of the table t, and it leaves the memory of t.
pub record Answers (given : Head) (x : ℕ) (t : Table) (number : ℕ) (head : Head) (keys sums : List ℤ) (index : List ℕ) : Type 0 where
  pub number_is : number ≡ x
  pub head_is : head ≡ with_counts given t.n t.m
  pub keys_are : keys ≡ t.keys
  pub sums_are : sums ≡ t.sums
  pub index_are : index ≡ t.index

-- a slice that is lent to a call to be read
abbrev pub Read : Type 0 → Type 0
Read A = Both (Bor (List A)) (Bor (List A))

-- a slice that is lent to a call to be changed, as it is before the call and after it
abbrev pub Slice : Type 0 → Type 0
Slice A = Both (MutBor (List A)) (MutBor (List A))

-- the table that a call finds in three slices, of a head where so many points are stored
abbrev pub table_with_in : Head → ℕ → Slice ℤ → Slice ℤ → Slice ℕ → Table
table_with_in h m keys sums index = table_with h m keys.entry.now sums.entry.now index.entry.now

-- the table that a call finds in three slices, with as many points as its head says
abbrev pub table_in : Head → Slice ℤ → Slice ℤ → Slice ℕ → Table
table_in h keys sums index = table_with_in h h.points keys sums index

-- `Holds` of what is left in three slices
abbrev pub HoldsIn : Table → ℕ → Slice ℤ → Slice ℤ → Slice ℕ → Type 0
HoldsIn t points keys sums index = Holds t points keys.exit.now sums.exit.now index.exit.now

-- `Answers` of what is left in three slices
abbrev pub AnswersIn : Head → ℕ → Table → ℕ → Head → Slice ℤ → Slice ℤ → Slice ℕ → Type 0
AnswersIn given x t number head keys sums index = Answers given x t number head keys.exit.now sums.exit.now index.exit.now
