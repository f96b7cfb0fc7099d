-- An index that finds each of its points.
use Rattle.std.specs.Prelude.{◌≡◌, ℕ, zero, suc, ◌+◌, ◌*◌, ◌<◌, ◌≤◌, Bool, cond, not, ◌&&◌, List, ℤ, ◌==◌, nat_eq, nat_le}
use Rattle.whole.specs.Sum.{all}
use Rattle.index.specs.Search.{search}

-- how many of 0, …, n - 1 pass the test
unfoldable pub count : ℕ → (ℕ → Bool) → ℕ
count zero f = 0
count (suc n) f = count n f + cond (f n) 1 0

-- whether an index place names a point
abbrev pub used : (ℕ → ℕ) → ℕ → Bool
used entry p = not (entry p == 0)

-- "every index entry is 0 to m and exactly m are not 0", of so many places
unfoldable pub sparse : ℕ → ℕ → (ℕ → ℕ) → Bool
sparse places m entry = all places (λ p. nat_le (entry p) m) && count places (used entry) == m

-- "searching for each of the m keys finds that same point"
unfoldable pub finding : ℕ → ℕ → (ℕ → List ℤ) → (ℕ → ℕ) → Bool
finding C m key entry = all m (λ i. nat_eq (entry (search C key entry (key i))) (suc i))

-- The same as facts: of m points, at most C,
pub record Sparse (C m : ℕ) (entry : ℕ → ℕ) : Type 0 where
  pub room : m ≤ C
  pub low : (p : ℕ) → p < 2 * C → entry p ≤ m
  pub full : count (2 * C) (used entry) ≡ m

-- each is found.
pub record Indexed (C m : ℕ) (key : ℕ → List ℤ) (entry : ℕ → ℕ) : Type 0 where
  pub sparse : Sparse C m entry
  pub finds : (i : ℕ) → i < m → entry (search C key entry (key i)) ≡ suc i
