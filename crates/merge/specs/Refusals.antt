-- The refusals of a merge in two parts: those of each table, and those of the two together.
use Rattle.std.specs.Prelude.{Bool, not, List, ℕ, ℤ}
use Rattle.whole.specs.Sum.{all}
use Rattle.lattice.specs.Refusals.{first}
use Rattle.table.specs.Table.{Settings}
use Rattle.book.specs.Book.{Booked, number_at, among}
use Rattle.book.specs.Calls.{each_tests, both_tests}

-- "1, 2, 3, for each the target before the source"
unfoldable pub each_refusal : Settings → Booked → Settings → Booked → ℕ
each_refusal c b e s = first (each_tests c b e s)

-- none of the numbers of k entries of a source's book is one of those of n entries of a target's
abbrev pub numbers_new : ℕ → ℕ → List ℤ → ℕ → List ℤ → Bool
numbers_new d n book k source = all k (λ j. not (among n (number_at d book) (number_at d source j)))

-- 9, 20, 7, 8: of two tables that would have n readings and m points together, where `new` says whether the target holds none of the source's numbers
unfoldable pub both_refusal : Settings → ℕ → Settings → Bool → ℕ → ℕ → ℕ
both_refusal c B e new n m = first (both_tests c B e new n m)
