-- The head and the table of what a call answers.
use mathlib.Core.Path.{◌≡◌, sym, ap, ◌∙◌}
use mathlib.Core.List.{List}
use Prim.Native.Nat.{ℕ}
use lib.IntN.{ℤ}
use Rattle.table.specs.declared.Head.{Head}
use Rattle.table.specs.Table.{Table}
use Rattle.table.specs.Heads.{table, with_counts, Answers}

-- a head that differs from a given one in its counts alone, as heads do from call to call
abbrev pub Counted : Head → Head → Type 0
Counted given h = h ≡ with_counts given h.readings h.points

pub counted_again : (given h : Head) {head : Head} {n m : ℕ} → Counted given h → head ≡ with_counts h n m → Counted given head
counted_again given h {n = n} {m = m} s e = e ∙ ap (λ (h : Head). with_counts h n m) s ∙ (λ i. with_counts given (sym e i).readings (sym e i).points)

-- so what is answered by such a head is answered by the given one
pub by_given : (given h : Head) {n m x : ℕ} {t : Table} {number : ℕ} {head : Head} {keys sums : List ℤ} {index : List ℕ} → h ≡ with_counts given n m
    → Answers h x t number head keys sums index → Answers given x t number head keys sums index
by_given given h {t = t} s A = record {
  number_is = A.number_is;
  head_is = A.head_is ∙ ap (λ (h : Head). with_counts h t.n t.m) s;
  keys_are = A.keys_are;
  sums_are = A.sums_are;
  index_are = A.index_are;
}

-- the table of what is answered
pub answered : {given : Head} {x : ℕ} {t : Table} {number : ℕ} {head : Head} {keys sums : List ℤ} {index : List ℕ}
    → Answers given x t number head keys sums index → table head keys sums index ≡ t
answered A = λ j. record { n = (A.head_is j).readings; m = (A.head_is j).points; keys = A.keys_are j; sums = A.sums_are j; index = A.index_are j }
