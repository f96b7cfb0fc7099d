-- Lists of whole numbers by place, and lists made place by place.
use Rattle.std.specs.Prelude.{List, [], ◌∷◌, ◌++◌, ℕ, zero, suc, ◌+◌, ℤ, pos, length, get_or, take, drop}

-- the number at place i, and 0 past the end
abbrev pub at : List ℤ → ℕ → ℤ
at l i = get_or l i (pos 0)

-- f 0, …, f (n - 1)
unfoldable pub tab : {A : Type 0} → ℕ → (ℕ → A) → List A
tab zero f = []
tab (suc n) f = f 0 ∷ tab n (λ i. f (suc i))

-- g 0, …, g (n - 1), one after the other
unfoldable pub collect : {A : Type 0} → ℕ → (ℕ → List A) → List A
collect zero g = []
collect (suc n) g = collect n g ++ g n

-- l with v in the place of its elements from a on
abbrev pub splice : {A : Type 0} → List A → ℕ → List A → List A
splice l a v = take a l ++ (v ++ drop (a + length v) l)

-- Q holds of every element
abbrev pub All : {A : Type 0} → (A → Type 0) → List A → Type 0
All Q [] = Unit {0}
All Q (a ∷ l) = Q a × All Q l

-- R holds of every two, the earlier first
abbrev pub Each : {A : Type 0} → (A → A → Type 0) → List A → Type 0
Each R [] = Unit {0}
Each R (a ∷ l) = All (R a) l × Each R l
