-- Division that rounds down, and the remainder that is never negative.
use Rattle.std.specs.Prelude.{◌≡◌, ℕ, suc, ◌-◌, ◌/◌, ◌%◌, ◌<◌, ◌≤◌, ℤ, pos, negsuc, ◌+ℤ◌, ◌*ℤ◌}

-- ⌊z / m⌋
unfoldable pub floor : ℤ → ℕ → ℤ
floor (pos a) m = pos (a / m)
floor (negsuc a) m = negsuc (a / m)

-- "The remainder is never negative: -4 leaves 2 on division by 3."
unfoldable pub remainder : ℤ → ℕ → ℕ
remainder (pos a) m = a % m
remainder (negsuc a) m = m - suc (a % m)

-- What both are held to: z = m·q + r with 0 ≤ r < m.
pub record Divided (z : ℤ) (m : ℕ) (q : ℤ) (r : ℕ) : Type 0 where
  pub is : z ≡ pos m *ℤ q +ℤ pos r
  pub less : r < m

-- Statement: floor and remainder are such a pair.
abbrev pub DividedBy : Type 0
DividedBy = (z : ℤ) (m : ℕ) → 0 < m → Divided z m (floor z m) (remainder z m)

-- Statement: and there is no other.
abbrev pub DividedOnce : Type 0
DividedOnce = (z q : ℤ) (m r : ℕ) → Divided z m q r → (q ≡ floor z m) × (r ≡ remainder z m)

-- "-4 leaves 2 on division by 3"; "(-1,-1,2) is remainder 2, not mixed."
pub record RemainderCases : Type 0 where
  pub minus_four : remainder (negsuc 3) 3 ≡ 2
  pub minus_one : remainder (negsuc 0) 3 ≡ 2
  pub two : remainder (pos 2) 3 ≡ 2

-- A divisor that a program takes: not 0, and an i32 holds it.
pub record Divisor (m : ℕ) : Type 0 where
  pub positive : 0 < m
  pub held : m ≤ 2147483647
