-- What a loop seeks from the last down, counted from 1: the entry that has a number, and the point that has a key.
use mathlib.Core.Path.{◌≡◌, refl, sym, ap, ◌∙◌}
use mathlib.Core.Bool.{Bool, true, false, cond}
use mathlib.Core.List.{List}
use Prim.Native.Nat.{ℕ, zero, suc, ◌-◌, ◌≤◌, ◌<◌}
use native.Mathlib.Omega.{arith}
use lib.IntN.{ℤ}
use Rattle.index.specs.Keys.{eq_z, same}
use Rattle.book.specs.Withdraw.{point_of, entry_with}

-- f n is the last of 0, …, n - 1 that passes the test, counted from 1; 0 where none does
pub record Downward (f : ℕ → ℕ) (test : ℕ → Bool) : Type 0 where
  pub none : f 0 ≡ 0
  pub step : (n : ℕ) → f (suc n) ≡ cond (test n) (suc n) (f n)

pub place_down : (number : ℕ → ℤ) (k : ℤ) → Downward (λ n. entry_with n number k) (λ i. eq_z (number i) k)
unfolding entry_with
place_down number k = record { none = refl; step = λ n. refl }

pub point_down : (key : ℕ → List ℤ) (k : List ℤ) → Downward (λ m. point_of m key k) (λ i. same (key i) k)
unfolding point_of
point_down key k = record { none = refl; step = λ m. refl }

-- it is one of them
pub sought_low : {f : ℕ → ℕ} {test : ℕ → Bool} → Downward f test → (n j : ℕ) → f n ≡ suc j → j < n
sought_low D zero j e = absurd (omega (arith, e, D.none))
sought_low {f} {test} D (suc n) j e = go (test n) (sym (D.step n) ∙ e) (sought_low D n j)
  where
    go : (b : Bool) → cond b (suc n) (f n) ≡ suc j → (f n ≡ suc j → j < n) → j < suc n
    go true q ih = omega (arith, q)
    go false q ih = omega (arith, ih q)

-- ---- none of those from `left` on passes the test
module _ {f : ℕ → ℕ} {test : ℕ → Bool} (D : Downward f test) (n left : ℕ) (inv : f n ≡ f left) where
  pub sought_none : left ≤ 0 → 0 ≡ f n
  sought_none e = let z : left ≡ 0 = omega arith in sym (inv ∙ ap f z ∙ D.none)

  module _ (some : 0 < left) where
    step : f n ≡ cond (test (left - 1)) (suc (left - 1)) (f (left - 1))
    step = let up : left ≡ suc (left - 1) = omega arith in inv ∙ ap f up ∙ D.step (left - 1)

    pub sought_here : test (left - 1) ≡ true → suc (left - 1) ≡ f n
    sought_here e = sym (step ∙ ap (λ (b : Bool). cond b (suc (left - 1)) (f (left - 1))) e)

    pub sought_below : test (left - 1) ≡ false → f n ≡ f (left - 1)
    sought_below e = step ∙ ap (λ (b : Bool). cond b (suc (left - 1)) (f (left - 1))) e
