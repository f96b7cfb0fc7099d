-- Lattice points. Coordinates are a function of the place, of which the places 0 to d count, or a list of d + 1 numbers.
use Rattle.std.specs.Prelude.{◌≡◌, List, ℕ, suc, ◌<◌, ℤ, pos, length}
use Rattle.whole.specs.Floor.{remainder}
use Rattle.whole.specs.Sum.{sum}
use Rattle.whole.specs.Lists.{at}

-- "A lattice point is d+1 whole numbers with sum 0 that all leave the same remainder k (0 to d) on division by d+1": n numbers, on division by n.
pub record Lattice (n : ℕ) (y : ℕ → ℤ) : Type 0 where
  pub total : sum n y ≡ pos 0
  pub same : (i : ℕ) → i < n → remainder (y i) n ≡ remainder (y 0) n

-- the remainder that all of them leave
abbrev pub remainder_of : ℕ → (ℕ → ℤ) → ℕ
remainder_of d y = remainder (y 0) (suc d)

-- a lattice point as a list
pub record Point (d : ℕ) (y : List ℤ) : Type 0 where
  pub size : length y ≡ suc d
  pub lattice : Lattice (suc d) (at y)
