-- Finding a point: the walk from the home place to the first place that is empty or names it.
use Rattle.std.specs.Prelude.{◌≡◌, ℕ, zero, suc, ◌+◌, ◌*◌, ◌%◌, ◌<◌, ◌≤◌, Bool, true, cond, ◌⊎◌, List, length, ℤ, ◌==◌, slice_index}
use Rattle.lattice.specs.Limits.{most_C}
use Rattle.index.specs.Keys.{same, home}

-- the place after p, "round the end to 0"
abbrev pub next : ℕ → ℕ → ℕ
next places p = cond (suc p == places) 0 (suc p)

-- up from p to the first place that passes the test; at most `steps` further, which in an index with an empty place is never met
unfoldable pub walk : ℕ → (ℕ → Bool) → ℕ → ℕ → ℕ
walk places stop zero p = p
walk places stop (suc steps) p = cond (stop p) p (walk places stop steps (next places p))

-- what the index has at place p
abbrev pub entry_at : List ℕ → ℕ → ℕ
entry_at index p = slice_index index p

-- "Index 0 is empty; i+1 names point i": whether an entry is empty or names the point of key k
abbrev pub stops : (ℕ → List ℤ) → List ℤ → ℕ → Bool
stops key k zero = true
stops key k (suc i) = same (key i) k

-- "The search goes up from the home place, round the end to 0, and stops at the first index place that is empty or names the point."
unfoldable pub search : ℕ → (ℕ → List ℤ) → (ℕ → ℕ) → List ℤ → ℕ
search C key entry k = walk (2 * C) (λ p. stops key k (entry p)) (2 * C) (home C k)

-- "empty or names the point": so is place p, for the point of key k
abbrev pub Ends : (ℕ → List ℤ) → (ℕ → ℕ) → List ℤ → ℕ → Type 0
Ends key entry k p = (entry p ≡ 0) ⊎ ((i : ℕ) × (entry p ≡ suc i) × (key i ≡ k))

-- "up from the home place, round the end to 0": the place so many steps further
abbrev pub up_from : ℕ → List ℤ → ℕ → ℕ
up_from C k steps = (home C k + steps) % (2 * C)

-- q is "the first index place that is empty or names the point": no place before it is
pub record FirstEnd (C : ℕ) (key : ℕ → List ℤ) (entry : ℕ → ℕ) (k : List ℤ) (q : ℕ) : Type 0 where
  pub steps : ℕ
  pub once_round : steps < 2 * C
  pub here : q ≡ up_from C k steps
  pub ends : Ends key entry k q
  pub passed : (j : ℕ) → j < steps → Ends key entry k (up_from C k j) → ⊥

-- What a search for a key of d numbers asks of lent memory: 2·C places, one of them empty, and each of them 0 or the name of a stretch of the keys.
pub record Searchable (d C : ℕ) (keys : List ℤ) (index : List ℕ) : Type 0 where
  pub small : C ≤ most_C
  pub places : length index ≡ 2 * C
  pub hole : ℕ
  pub hole_inside : hole < 2 * C
  pub hole_empty : entry_at index hole ≡ 0
  pub named : (p : ℕ) → d * entry_at index p ≤ length keys
