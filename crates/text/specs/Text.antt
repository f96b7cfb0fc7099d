-- Lines of text: a fixed word, and whole numbers in decimal.
use Rattle.std.specs.Prelude.{◌≡◌, cond, List, [], ◌∷◌, ◌++◌, ℕ, zero, suc, ◌+◌, ◌/◌, ◌%◌, ltb, ℤ, pos, negsuc, length}
use Rattle.whole.specs.Lists.{splice}

-- the bytes of 0, of the minus sign, of the space and of the line feed
abbrev pub zero_digit : ℕ
zero_digit = 48

abbrev pub minus_sign : ℕ
minus_sign = 45

abbrev pub space : ℕ
space = 32

abbrev pub line_feed : ℕ
line_feed = 10

-- the decimal digits of n, so many at most
unfoldable pub digits_in : ℕ → ℕ → List ℕ
digits_in zero n = []
digits_in (suc most) n = cond (ltb n 10) ((zero_digit + n) ∷ []) (digits_in most (n / 10) ++ ((zero_digit + n % 10) ∷ []))

-- a number of 64 bits has 20 at most
abbrev pub most_digits : ℕ
most_digits = 20

abbrev pub digits : ℕ → List ℕ
digits n = digits_in most_digits n

-- a whole number in decimal, with a minus sign where it is below 0
unfoldable pub decimal : ℤ → List ℕ
decimal (pos n) = digits n
decimal (negsuc n) = minus_sign ∷ digits (suc n)

-- numbers, each after a space
unfoldable pub spaced : List ℤ → List ℕ
spaced [] = []
spaced (z ∷ zs) = (space ∷ decimal z) ++ spaced zs

-- "Each line starts with its fixed word in capital bytes and ends with one line feed."
unfoldable pub line : List ℕ → List ℤ → List ℕ
line word numbers = word ++ (spaced numbers ++ (line_feed ∷ []))

-- Text written into a buffer from a place on, and the place after it.
pub record Written (buffer : List ℕ) (a : ℕ) (text : List ℕ) (next : ℕ) (after : List ℕ) : Type 0 where
  pub next_is : next ≡ a + length text
  pub after_is : after ≡ splice buffer a text
