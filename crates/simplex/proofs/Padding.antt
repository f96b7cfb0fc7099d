-- Lists of six places, of which the first n have numbers and the rest 0.
use mathlib.Core.Path.{◌≡◌, refl, sym, ◌∙◌}
use mathlib.Core.Bool.{cond}
use Prim.Native.Nat.{ℕ, ◌<◌}
use native.Mathlib.Decide.{dec_lt}
use native.Mathlib.Omega.{arith}
use lib.IntN.{ℤ, pos}
use lib.ListN.{length, get_or-eq_default}
use lib.Dec.{ltb}
use borrow.Author.Tests.{lt-ltb, le-ltb}
use Rattle.whole.specs.Lists.{at, tab}
use Rattle.whole.proofs.Lists.{tab_cong, get_or_tab, length_tab}
use Rattle.simplex.specs.Inner.{padded}

pub padded_at : (n : ℕ) (f : ℕ → ℤ) (i : ℕ) → i < 6 → at (padded n f) i ≡ cond (ltb i n) (f i) (pos 0)
unfolding padded
padded_at n f i l = get_or_tab 6 (λ t. cond (ltb t n) (f t) (pos 0)) i (pos 0) l

pub padded_cong : (n : ℕ) (f g : ℕ → ℤ) → ((i : ℕ) → i < n → f i ≡ g i) → padded n f ≡ padded n g
unfolding padded
padded_cong n f g h = tab_cong 6 (λ t. cond (ltb t n) (f t) (pos 0)) (λ t. cond (ltb t n) (g t) (pos 0)) (λ t l. go t (dec_lt t n))
  where
    go : (t : ℕ) → Dec (t < n) → cond (ltb t n) (f t) (pos 0) ≡ cond (ltb t n) (g t) (pos 0)
    go t (yes k) = rw (lt-ltb t n k) (h t k)
    go t (no k) = rw (le-ltb t n (omega arith)) refl

pub length_padded : (n : ℕ) (f : ℕ → ℤ) → length (padded n f) ≡ 6
unfolding padded
length_padded n f = length_tab 6 (λ t. cond (ltb t n) (f t) (pos 0))

-- a list of n numbers reads as six places
pub padded_tab : (n : ℕ) (f : ℕ → ℤ) (i : ℕ) → i < 6 → at (padded n f) i ≡ at (tab n f) i
unfolding padded
padded_tab n f i l = get_or_tab 6 (λ t. cond (ltb t n) (f t) (pos 0)) i (pos 0) l ∙ go (dec_lt i n)
  where
    go : Dec (i < n) → cond (ltb i n) (f i) (pos 0) ≡ at (tab n f) i
    go (yes k) = rw (lt-ltb i n k) (sym (get_or_tab n f i (pos 0) k))
    go (no k) = rw (le-ltb i n (omega arith)) (sym (get_or-eq_default (tab n f) (pos 0) (omega (arith, length_tab n f))))
