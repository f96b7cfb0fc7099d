-- Finite sums of whole numbers, and tests that hold at every place.
use Rattle.std.specs.Prelude.{Bool, true, ◌&&◌, List, [], ◌∷◌, ℕ, zero, suc, ℤ, pos, ◌+ℤ◌}

-- f 0 + … + f (n - 1)
unfoldable pub sum : ℕ → (ℕ → ℤ) → ℤ
sum zero f = pos 0
sum (suc n) f = sum n f +ℤ f n

-- the sum of f over a list
unfoldable pub over : {A : Type 0} → List A → (A → ℤ) → ℤ
over [] f = pos 0
over (a ∷ l) f = f a +ℤ over l f

-- the test holds at 0, …, n - 1
unfoldable pub all : ℕ → (ℕ → Bool) → Bool
all zero f = true
all (suc n) f = all n f && f n
