-- Tests: what `T`, `&&` and a test at every place say, and a test of each element of a list, told by places. Assumes nothing.
use mathlib.Core.Path.{◌≡◌, refl, ap, sym, subst, ◌∙◌}
use mathlib.Core.Logic.{◌⊎◌, inl, inr}
use mathlib.Core.Bool.{Bool, true, false, ◌&&◌}
use mathlib.Core.List.{List, [], ◌∷◌}
use Prim.Native.Nat.{ℕ, zero, suc, ◌+◌, ◌<◌}
use native.Mathlib.Numerals.{add-one}
use native.Mathlib.Nat.{not-suc-le-zero, le_refl, eq-or-lt_of_le, le_of_suc-le-suc}
use native.Mathlib.Omega.{arith}
use lib.Dec.{T}
use lib.ListN.{length, get_or}
use Rattle.std.specs.List.{list_all, range_with_len}
use Rattle.std.proofs.lemmas.List.FromFn.{length-range_with_len, get_or-range_with_len}
use Rattle.whole.specs.Sum.{all}

-- ---- all i < n
pub and_l : (a b : Bool) → T (a && b) → T a
and_l true b t = tt
and_l false b t = t

pub and_r : (a b : Bool) → T (a && b) → T b
and_r true b t = t
and_r false b t = absurd t

pub and_i : (a b : Bool) → T a → T b → T (a && b)
and_i true b s t = t
and_i false b s t = s

pub all_at : (n : ℕ) (f : ℕ → Bool) → T (all n f) → (i : ℕ) → i < n → T (f i)
unfolding all
all_at zero f t i l = absurd (not-suc-le-zero l)
all_at (suc n) f t i l = go (all_at n f (and_l (all n f) (f n) t) i) (eq-or-lt_of_le (le_of_suc-le-suc l))
  where
    go : (i < n → T (f i)) → (i ≡ n) ⊎ (i < n) → T (f i)
    go ih (inl e) = rw e (and_r (all n f) (f n) t)
    go ih (inr k) = ih k

pub all_of : (n : ℕ) (f : ℕ → Bool) → ((i : ℕ) → i < n → T (f i)) → T (all n f)
unfolding all
all_of zero f h = tt
all_of (suc n) f h = and_i (all n f) (f n) (all_of n f (λ i l. h i (omega arith))) (h n (le_refl (suc n)))

pub T_ext : (a b : Bool) → (T a → T b) → (T b → T a) → a ≡ b
T_ext true true f g = refl
T_ext true false f g = absurd (f tt)
T_ext false true f g = absurd (g tt)
T_ext false false f g = refl

pub T_true : (b : Bool) → T b → b ≡ true
T_true true t = refl
T_true false t = absurd t

pub T_false : (b : Bool) → (T b → ⊥) → b ≡ false
T_false true f = absurd (f tt)
T_false false f = refl

-- a test at every place, one place at a time
pub all_more : (n : ℕ) (f : ℕ → Bool) → all n f ≡ true → f n ≡ true → all (n + 1) f ≡ true
unfolding all
all_more n f a b = rw (add-one, a, b) refl

pub all_stop : (n : ℕ) (f : ℕ → Bool) (i : ℕ) → i < n → f i ≡ false → all n f ≡ false
all_stop n f i l e = T_false (all n f) (λ t. subst T e (all_at n f t i l))

pub some_false : (n : ℕ) (f : ℕ → Bool) → all n f ≡ false → (i : ℕ) × (i < n) × (f i ≡ false)
unfolding all
some_false zero f e = absurd (subst T e tt)
some_false (suc n) f e = go (all n f) (f n) refl refl (some_false n f)
  where
    go : (a b : Bool) → all n f ≡ a → f n ≡ b → (all n f ≡ false → (i : ℕ) × (i < n) × (f i ≡ false)) → (i : ℕ) × (i < suc n) × (f i ≡ false)
    go a false p q ih = (n, le_refl (suc n), q)
    go false true p q ih = let t = ih p in (t.0, omega (arith, t.1), t.2)
    go true true p q ih = let b : (all n f && f n) ≡ true = rw (p, q) refl in absurd (subst T (sym b ∙ e) tt)

pub all_cong : (n : ℕ) (f g : ℕ → Bool) → ((i : ℕ) → i < n → f i ≡ g i) → all n f ≡ all n g
all_cong n f g h = T_ext (all n f) (all n g)
    (λ t. all_of n g (λ i l. subst T (h i l) (all_at n f t i l)))
    (λ t. all_of n f (λ i l. subst T (sym (h i l)) (all_at n g t i l)))

-- ---- a test of each element of a list
pub and_true : (a : Bool) → a ≡ (a && true)
and_true true = refl
and_true false = refl

and_and : (a b c : Bool) → ((a && b) && c) ≡ (a && (b && c))
and_and true b c = refl
and_and false b c = refl

-- the first place apart
all_first : (n : ℕ) (f : ℕ → Bool) → all (suc n) f ≡ (f 0 && all n (λ i. f (suc i)))
unfolding all
all_first zero f = and_true (f 0)
all_first (suc n) f = ap (λ (b : Bool). b && f (suc n)) (all_first n f) ∙ and_and (f 0) (all n (λ i. f (suc i))) (f (suc n))

all_list : {A : Type 0} (test : A → Bool) (l : List A) (a : A) → list_all test l ≡ all (length l) (λ i. test (get_or l i a))
unfolding all
all_list test [] a = refl
all_list test (x ∷ l) a = ap (λ (b : Bool). test x && b) (all_list test l a) ∙ sym (all_first (length l) (λ i. test (get_or (x ∷ l) i a)))

-- the numbers below n, each its own place
pub all_range : (test : ℕ → Bool) (n : ℕ) → list_all test (range_with_len 0 n) ≡ all n test
all_range test n = all_list test (range_with_len 0 n) 0 ∙ ap (λ (k : ℕ). all k (λ i. test (get_or (range_with_len 0 n) i 0))) (length-range_with_len 0 n)
    ∙ all_cong n (λ i. test (get_or (range_with_len 0 n) i 0)) test (λ i l. let e : get_or (range_with_len 0 n) i 0 ≡ i = omega (arith, get_or-range_with_len 0 n i 0 l) in ap test e)
