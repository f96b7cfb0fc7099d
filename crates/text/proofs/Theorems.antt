-- Decimal numbers are read back, and a line has a bound. Assumes nothing.
use mathlib.Core.Path.{◌≡◌, refl}
use mathlib.Core.List.{List, [], ◌∷◌, ◌++◌}
use Prim.Native.Nat.{ℕ, zero, suc, ◌+◌, ◌*◌, ◌-◌, ◌/◌, ◌%◌, ◌^◌, ◌<◌, ◌≤◌}
use native.Mathlib.Nat.{pow-suc}
use native.Mathlib.Decide.{dec_lt}
use native.Mathlib.Omega.{arith}
use lib.IntN.{ℤ, pos, negsuc}
use lib.ListN.{length, length-append}
use Rattle.text.specs.Text.{zero_digit, space, line_feed, digits_in, decimal, spaced, line}
use Rattle.text.specs.Theorems.{read_from, ReadBack, LineFits}
use Rattle.text.proofs.Decimal.{digits_last, digits_more, digits_few}

-- ---- digits read back
read_more : (n : ℕ) (l : List ℕ) (b : ℕ) → read_from n (l ++ (b ∷ [])) ≡ 10 * read_from n l + (b - zero_digit)
unfolding read_from
read_more n [] b = refl
read_more n (a ∷ l) b = read_more (10 * n + (a - zero_digit)) l b

read_one : (n : ℕ) → read_from 0 ((zero_digit + n) ∷ []) ≡ n
unfolding read_from
read_one n = omega arith

read_digits : (most n : ℕ) → n < 10 ^ most → read_from 0 (digits_in most n) ≡ n
unfolding read_from digits_in
read_digits zero n h = omega arith
read_digits (suc most) n h = go (dec_lt n 10) (read_digits most (n / 10) (omega (arith, pow-suc 10 most)))
  where
    go : Dec (n < 10) → read_from 0 (digits_in most (n / 10)) ≡ n / 10 → read_from 0 (digits_in (suc most) n) ≡ n
    go (yes k) e = rw (digits_last most n k) (read_one n)
    go (no k) e = rw (digits_more most n (omega arith), read_more 0 (digits_in most (n / 10)) (zero_digit + n % 10), e) (omega arith)

pub read_back : ReadBack
read_back n h = read_digits 20 n h

-- ---- the length of a line
decimal_few : (z : ℤ) → length (decimal z) ≤ 21
unfolding decimal
decimal_few (pos n) = omega (arith, digits_few 20 n)
decimal_few (negsuc n) = omega (arith, digits_few 20 (suc n))

spaced_few : (l : List ℤ) → length (spaced l) ≤ 22 * length l
unfolding spaced
spaced_few [] = omega arith
spaced_few (z ∷ l) = omega (arith, length-append (space ∷ decimal z) (spaced l), decimal_few z, spaced_few l)

pub line_fits : LineFits
unfolding line
line_fits word numbers =
    omega (arith, length-append word (spaced numbers ++ (line_feed ∷ [])), length-append (spaced numbers) (line_feed ∷ []), spaced_few numbers)
