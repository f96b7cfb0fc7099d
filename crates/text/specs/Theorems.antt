-- What is true of decimal numbers: they are read back, and their length has a bound.
use Rattle.std.specs.Prelude.{◌≡◌, List, [], ◌∷◌, ℕ, ◌+◌, ◌*◌, ◌-◌, ◌≤◌, ◌<◌, ℤ, length}
use Rattle.text.specs.Text.{zero_digit, digits, line}

-- the number that digits stand for, the first of them after the number n
unfoldable pub read_from : ℕ → List ℕ → ℕ
read_from n [] = n
read_from n (b ∷ l) = read_from (10 * n + (b - zero_digit)) l

-- Statement: digits read back are the number, for every number of 64 bits.
abbrev pub ReadBack : Type 0
ReadBack = (n : ℕ) → n < 100000000000000000000 → read_from 0 (digits n) ≡ n

-- a number with its space and its sign takes 22 bytes at most
abbrev pub most_number : ℕ
most_number = 22

-- Statement: the longest that a line can be.
abbrev pub LineFits : Type 0
LineFits = (word : List ℕ) (numbers : List ℤ) → length (line word numbers) ≤ length word + most_number * length numbers + 1
