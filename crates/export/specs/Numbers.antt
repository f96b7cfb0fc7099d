-- The head that passes as its six numbers.
use Rattle.std.specs.Prelude.{ℕ}
use Rattle.table.specs.declared.Head.{Head}

-- "a head by value (d, S, C, number of readings n, number of points m)", with the room B of the book behind C
abbrev pub head_from : ℕ → ℕ → ℕ → ℕ → ℕ → ℕ → Head
head_from d S C B n m = record { d = d; fineness = S; capacity = C; room = B; readings = n; points = m }
