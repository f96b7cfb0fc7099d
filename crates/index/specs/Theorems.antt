-- What is true of an index that finds each of its points. Statements: the proofs stand in proofs/.
use Rattle.std.specs.Prelude.{◌≡◌, ℕ, suc, ◌*◌, ◌<◌, ◌≢◌, ◌↔◌, List, ℤ}
use Rattle.index.specs.Search.{search, Ends, FirstEnd}
use Rattle.index.specs.Indexed.{Indexed}

-- "stops at the first index place that is empty or names the point", where there is one among the 2·C
abbrev pub StopsAtFirst : Type 0
StopsAtFirst = (C : ℕ) (key : ℕ → List ℤ) (entry : ℕ → ℕ) (k : List ℤ) (p : ℕ) → p < 2 * C → Ends key entry k p → FirstEnd C key entry k (search C key entry k)

-- searching for a key finds exactly the point that has it
abbrev pub FindsExactly : Type 0
FindsExactly = (C m : ℕ) (key : ℕ → List ℤ) (entry : ℕ → ℕ) → 0 < C → Indexed C m key entry → (k : List ℤ) (i : ℕ)
    → (entry (search C key entry k) ≡ suc i) ↔ ((i < m) × (key i ≡ k))

-- an empty place exists
abbrev pub EmptyPlace : Type 0
EmptyPlace = (C m : ℕ) (key : ℕ → List ℤ) (entry : ℕ → ℕ) → 0 < C → Indexed C m key entry → (p : ℕ) × (p < 2 * C) × (entry p ≡ 0)

-- no two points have one key
abbrev pub KeysApart : Type 0
KeysApart = (C m : ℕ) (key : ℕ → List ℤ) (entry : ℕ → ℕ) → 0 < C → Indexed C m key entry → (i j : ℕ) → i < m → j < m → key i ≡ key j → i ≡ j

-- "A new point takes the empty place found": the index then finds each of the points before, and the new one
abbrev pub NewPointFound : Type 0
NewPointFound = (C m : ℕ) (key : ℕ → List ℤ) (entry : ℕ → ℕ) → 0 < C → Indexed C m key entry
    → (k : List ℤ) (key' : ℕ → List ℤ) (entry' : ℕ → ℕ) → entry (search C key entry k) ≡ 0 → m < C
    → ((i : ℕ) → i < m → key' i ≡ key i) → key' m ≡ k
    → entry' (search C key entry k) ≡ suc m → ((p : ℕ) → p ≢ search C key entry k → entry' p ≡ entry p)
    → Indexed C (suc m) key' entry'
