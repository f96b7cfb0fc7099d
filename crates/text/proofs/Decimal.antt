-- Decimal digits as the code makes them, counted and then written from the last one back, and a whole number by its sign and its size. Assumes nothing.
use mathlib.Core.Path.{◌≡◌, refl, ap, sym, ◌∙◌, subst}
use mathlib.Core.Bool.{Bool, true, false, not}
use mathlib.Core.List.{List, [], ◌∷◌, ◌++◌, append_assoc}
use Prim.Native.Nat.{ℕ, zero, suc, ◌+◌, ◌-◌, ◌/◌, ◌%◌, ◌^◌, ◌<◌, ◌≤◌}
use native.Mathlib.Nat.{mod-eq_of_lt, pow-suc}
use native.Mathlib.Numerals.{add-one}
use native.Mathlib.Decide.{dec_lt}
use native.Mathlib.Omega.{arith}
use lib.IntN.{ℤ, pos, negsuc, nat_abs}
use lib.Signed.{◌≤ℤ◌, ◌<ℤ◌, lt_z, lt_z_yes, lt_z_no}
use lib.Dec.{T}
use lib.ListN.{length, set, drop, length-set, length-append}
use lib.Seq.{drop-cons, drop-set-lt, take-set-le, get_or-set_same}
use mir.Facts.{to_z-of_z}
use mir.Syntax.{w64}
use mir.Val.{SFits}
use borrow.Author.Tests.{lt-ltb, le-ltb}
use Rattle.whole.specs.Lists.{splice}
use Rattle.whole.proofs.Lists.{splice_none}
use Rattle.whole.proofs.Parts.{zin}
use Rattle.whole.proofs.Signed.{W64}
use Rattle.text.specs.Text.{zero_digit, minus_sign, digits_in, digits, decimal}

-- ---- a digit or more
pub digits_last : (most n : ℕ) → n < 10 → digits_in (suc most) n ≡ (zero_digit + n) ∷ []
unfolding digits_in
digits_last most n h = rw (lt-ltb n 10 h)

pub digits_more : (most n : ℕ) → 10 ≤ n → digits_in (suc most) n ≡ digits_in most (n / 10) ++ ((zero_digit + n % 10) ∷ [])
unfolding digits_in
digits_more most n h = rw (le-ltb n 10 h)

-- ---- digits counted
pub digits_few : (most n : ℕ) → length (digits_in most n) ≤ most
unfolding digits_in
digits_few zero n = omega arith
digits_few (suc most) n = go (dec_lt n 10) (digits_few most (n / 10))
  where
    go : Dec (n < 10) → length (digits_in most (n / 10)) ≤ most → length (digits_in (suc most) n) ≤ suc most
    go (yes k) h = rw (digits_last most n k) (omega arith)
    go (no k) h = rw (digits_more most n (omega arith), length-append) (omega arith)

-- as many digits as are needed, and no more, where there is room for one more
enough : (most n : ℕ) → n < 10 ^ suc most → digits_in (suc (suc most)) n ≡ digits_in (suc most) n
enough zero n h = let k : n < 10 = omega (arith, pow-suc 10 0) in digits_last 1 n k ∙ sym (digits_last 0 n k)
enough (suc most) n h = go (dec_lt n 10) (enough most (n / 10) (omega (arith, pow-suc 10 (suc most))))
  where
    go : Dec (n < 10) → digits_in (suc (suc most)) (n / 10) ≡ digits_in (suc most) (n / 10) → digits_in (suc (suc (suc most))) n ≡ digits_in (suc (suc most)) n
    go (yes k) e = digits_last (suc (suc most)) n k ∙ sym (digits_last (suc most) n k)
    go (no k) e = let l : 10 ≤ n = omega arith in rw (digits_more (suc (suc most)) n l, digits_more (suc most) n l, e) refl

pub one_digit : (n : ℕ) → n < 10 → length (digits n) ≡ 1
one_digit n h = rw (digits_last 19 n h) refl

pub one_more : (n : ℕ) → 10 ≤ n → n < 2 ^ 64 → length (digits n) ≡ length (digits (n / 10)) + 1
one_more n l h = rw (digits_more 19 n l, length-append, enough 18 (n / 10) (omega arith)) refl

pub two_digits : (n : ℕ) → 10 ≤ n → n < 100 → length (digits n) ≡ 2
two_digits n l h = omega (arith, one_more n l (omega arith), one_digit (n / 10) (omega arith))

pub two_more : (n : ℕ) → 100 ≤ n → n < 2 ^ 64 → length (digits n) ≡ length (digits (n / 100)) + 2
two_more n l h =
    let hundredth : n / 10 / 10 ≡ n / 100 = omega arith in
    omega (arith, one_more n (omega arith) h, one_more (n / 10) (omega arith) (omega arith), ap (λ (m : ℕ). length (digits m)) hundredth)

-- ---- so many digits, and the last of them after the others
exact : (most n : ℕ) → digits_in (length (digits_in most n)) n ≡ digits_in most n
unfolding digits_in
exact zero n = refl
exact (suc most) n = go (dec_lt n 10) (exact most (n / 10))
  where
    go : Dec (n < 10) → digits_in (length (digits_in most (n / 10))) (n / 10) ≡ digits_in most (n / 10) → digits_in (length (digits_in (suc most) n)) n ≡ digits_in (suc most) n
    go (yes k) e = rw (digits_last most n k) (digits_last 0 n k)
    go (no k) e = let l : 10 ≤ n = omega arith in rw (digits_more most n l, length-append, add-one, digits_more (length (digits_in most (n / 10))) n l, e) refl

alone : (k n : ℕ) → n < 10 → suc k ≡ 1 → (zero_digit + n) ∷ [] ≡ digits_in k (n / 10) ++ ((zero_digit + n % 10) ∷ [])
unfolding digits_in
alone zero n h e = rw (mod-eq_of_lt h) refl
alone (suc k) n h e = let z : ⊥ = omega arith in absurd z

by_last : (k n : ℕ) → length (digits_in (suc k) n) ≡ suc k → digits_in (suc k) n ≡ digits_in k (n / 10) ++ ((zero_digit + n % 10) ∷ [])
by_last k n e = go (dec_lt n 10)
  where
    go : Dec (n < 10) → digits_in (suc k) n ≡ digits_in k (n / 10) ++ ((zero_digit + n % 10) ∷ [])
    go (yes h) = digits_last k n h ∙ alone k n h (sym e ∙ ap length (digits_last k n h))
    go (no h) = digits_more k n (omega arith)

-- ---- what is left to write stands before what is written
splice_last : (l : List ℕ) (a : ℕ) (v : List ℕ) (b : ℕ) → a + length v < length l → splice (set l (a + length v) b) a v ≡ splice l a (v ++ (b ∷ []))
splice_last l a v b h =
    let i : ℕ = a + length v in
    let k : i < length (set l i b) = simp length-set (omega arith) in
    let back : drop i (set l i b) ≡ b ∷ drop (i + 1) l = drop-cons (set l i b) i 0 k ∙ rw (get_or-set_same l i b 0 h, drop-set-lt (suc i) l i b (omega arith), add-one) refl in
    let same : i + 1 ≡ a + length (v ++ (b ∷ [])) = omega (arith, length-append v (b ∷ [])) in
    rw (take-set-le a l i b (omega arith), back, same, append_assoc) refl

-- k digits of n are left, and with them from place a on the buffer is what it is to be
abbrev pub Left : List ℕ → ℕ → ℕ → ℕ → List ℕ → Type 0
Left whole a k n l = (length (digits_in k n) ≡ k) × (whole ≡ splice l a (digits_in k n))

module _ (whole : List ℕ) (a n : ℕ) (l : List ℕ) where
  left_more : (k : ℕ) → a + k < length l → Left whole a (suc k) n l → Left whole a k (n / 10) (set l (a + k) (zero_digit + n % 10))
  left_more k h p =
      let e = by_last k n p.0 in
      let many : length (digits_in k (n / 10)) ≡ k = omega (arith, p.0, ap length e, length-append (digits_in k (n / 10)) ((zero_digit + n % 10) ∷ [])) in
      let written = splice_last l a (digits_in k (n / 10)) (zero_digit + n % 10) (rw many h) in
      (many, p.1 ∙ ap (splice l a) e ∙ sym (subst (λ (i : ℕ). splice (set l (a + i) (zero_digit + n % 10)) a (digits_in k (n / 10)) ≡ splice l a (digits_in k (n / 10) ++ ((zero_digit + n % 10) ∷ []))) many written))

  pub left_before : {next : ℕ} → a < next → next ≤ length l → Left whole a (next - a) n l → Left whole a (next - 1 - a) (n / 10) (set l (next - 1) (zero_digit + n % 10))
  left_before {next} h r p =
      let more : next - a ≡ suc (next - 1 - a) = omega arith in
      let there : a + (next - 1 - a) ≡ next - 1 = omega arith in
      subst (λ (i : ℕ). Left whole a (next - 1 - a) (n / 10) (set l i (zero_digit + n % 10))) there
      (left_more (next - 1 - a) (omega arith) (subst (λ (k : ℕ). Left whole a k n l) more p))

  nothing : Left whole a 0 n l → whole ≡ l
  unfolding digits_in
  nothing p = p.1 ∙ sym (splice_none l a)

  pub left_none : {next : ℕ} → next ≤ a → Left whole a (next - a) n l → whole ≡ l
  left_none {next} h p = let none : next - a ≡ 0 = omega arith in nothing (subst (λ (k : ℕ). Left whole a k n l) none p)

pub left_all : (l : List ℕ) (a n : ℕ) {end : ℕ} → end ≡ a + length (digits n) → Left (splice l a (digits n)) a (end - a) n l
left_all l a n {end} e =
    let many : end - a ≡ length (digits n) = omega arith in
    subst (λ (k : ℕ). Left (splice l a (digits n)) a k n l) (sym many) (ap length (exact 20 n), ap (splice l a) (sym (exact 20 n)))

-- ---- a whole number by its sign and its size
pub decimal_above : (z : ℤ) → pos 0 ≤ℤ z → decimal z ≡ digits (nat_abs z)
unfolding decimal
decimal_above (pos n) h = refl
decimal_above (negsuc n) h = absurd h.le

pub decimal_below : (z : ℤ) → z <ℤ pos 0 → decimal z ≡ minus_sign ∷ digits (nat_abs z)
unfolding decimal
decimal_below (pos n) h = let z : ⊥ = omega (arith, zin) in absurd z
decimal_below (negsuc n) h = refl

-- the same of a number of 64 bits, its sign as the code tests it
pub tested_above : (z : ℤ) {size : ℕ} → SFits w64 z → size ≡ nat_abs (W64 z) → lt_z (W64 z) (pos 0) ≡ false → decimal z ≡ digits size
tested_above z f s t =
    let h : pos 0 ≤ℤ z = lt_z_no (subst (λ (b : Bool). T (not b)) (sym (rw (to_z-of_z f) at t)) tt) in
    decimal_above z h ∙ ap digits (sym (s ∙ ap nat_abs (to_z-of_z f)))

pub tested_below : (z : ℤ) {size : ℕ} → SFits w64 z → size ≡ nat_abs (W64 z) → lt_z (W64 z) (pos 0) ≡ true → decimal z ≡ minus_sign ∷ digits size
tested_below z f s t =
    let h : z <ℤ pos 0 = lt_z_yes (subst T (sym (rw (to_z-of_z f) at t)) tt) in
    decimal_below z h ∙ ap (λ (n : ℕ). minus_sign ∷ digits n) (sym (s ∙ ap nat_abs (to_z-of_z f)))
