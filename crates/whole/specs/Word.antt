-- A signed 32-bit number as an unsigned word.
use Rattle.std.specs.Prelude.{◌≡◌, ℕ, suc, ◌-◌, ◌<◌, ℤ, pos, negsuc, ◌+ℤ◌}

-- 2^32
abbrev pub modulus : ℕ
modulus = 4294967296

-- "a negative one counts as itself plus 2^32"
unfoldable pub word : ℤ → ℕ
word (pos n) = n
word (negsuc n) = modulus - suc n

-- Statement: a negative number, down to -2^32, counts as itself plus 2^32.
abbrev pub WordOfNegative : Type 0
WordOfNegative = (n : ℕ) → n < modulus → pos (word (negsuc n)) ≡ negsuc n +ℤ pos modulus
