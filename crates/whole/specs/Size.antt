-- The size of a whole number, and bounds on one. A whole number z is P z - N z, and one of the two is 0.
use Rattle.std.specs.Prelude.{ℕ, suc, ◌+◌, ◌≤◌, ℤ, pos, negsuc, ◌≤ℤ◌}

-- the part of z above 0
abbrev pub P : ℤ → ℕ
P (pos n) = n
P (negsuc n) = 0

-- the part of z below 0
abbrev pub N : ℤ → ℕ
N (pos n) = 0
N (negsuc n) = suc n

-- |z| is at most B
pub record Abs≤ (z : ℤ) (B : ℕ) : Type 0 where
  pub abs : P z + N z ≤ B

-- z is from lo to hi
pub record Within (lo hi z : ℤ) : Type 0 where
  pub low : lo ≤ℤ z
  pub high : z ≤ℤ hi
