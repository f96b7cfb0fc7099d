-- Judging a position: each number is met exactly when its condition holds and no earlier one does.
use mathlib.Core.Path.{◌≡◌, refl, sym, ap, subst, ◌∙◌}
use mathlib.Core.Bool.{Bool, true, false}
use mathlib.Core.List.{List}
use Prim.Native.Nat.{ℕ, suc, ◌≤◌, ◌<◌}
use native.Mathlib.Omega.{arith}
use lib.IntN.{ℤ, pos, nat_abs}
use lib.ListN.{length}
use lib.Dec.{T, leb, leb→le, le→leb}
use borrow.Author.Tests.{leb-false, lt-leb, eqb-true, eqb-false, eq-eqb, ne_eqb}
use Rattle.whole.specs.Sum.{sum}
use Rattle.whole.specs.Lists.{at}
use Rattle.whole.proofs.Size.{abs_of, of_abs, size_zero}
use Rattle.whole.proofs.Tests.{all_at, all_of, all_stop, some_false, T_true}
use Rattle.lattice.specs.Refusals.{first, coordinate_beyond, sum_not_zero}
use Rattle.lattice.specs.Limits.{farthest}
use Rattle.lattice.specs.Position.{Position, all_near, sums_to_zero, judged, Judged, JudgedRight}

-- the first test that fails
pub judged_four : (x : List ℤ) → all_near x ≡ false → judged x ≡ coordinate_beyond
unfolding judged first
judged_four x e = rw e refl

pub judged_five : (x : List ℤ) → all_near x ≡ true → sums_to_zero x ≡ false → judged x ≡ sum_not_zero
unfolding judged first
judged_five x e k = rw (e, k) refl

pub judged_none : (x : List ℤ) → all_near x ≡ true → sums_to_zero x ≡ true → judged x ≡ 0
unfolding judged first
judged_none x e k = rw (e, k) refl

pub sum_zero : (x : List ℤ) → sum (length x) (at x) ≡ pos 0 → sums_to_zero x ≡ true
unfolding sums_to_zero
sum_zero x e = eq-eqb (nat_abs (sum (length x) (at x))) 0 (ap nat_abs e)

pub sum_other : (x : List ℤ) → (sum (length x) (at x) ≡ pos 0 → ⊥) → sums_to_zero x ≡ false
unfolding sums_to_zero
sum_other x f = ne_eqb (nat_abs (sum (length x) (at x))) 0 (λ e. f (size_zero (sum (length x) (at x)) e))

module _ (d : ℕ) (x : List ℤ) (size : length x ≡ suc d) where
  sum_same : sum (suc d) (at x) ≡ sum (length x) (at x)
  sum_same = ap (λ (n : ℕ). sum n (at x)) (sym size)

  near_at : all_near x ≡ true → (i : ℕ) → i < suc d → nat_abs (at x i) ≤ farthest
  unfolding all_near
  near_at e i l = leb→le (nat_abs (at x i)) farthest (all_at (length x) (λ i. leb (nat_abs (at x i)) farthest) (subst T (sym e) tt) i (omega arith))

  near_all : ((i : ℕ) → i < suc d → nat_abs (at x i) ≤ farthest) → all_near x ≡ true
  unfolding all_near
  near_all h = T_true (all_near x) (all_of (length x) (λ i. leb (nat_abs (at x i)) farthest) (λ i l. le→leb (nat_abs (at x i)) farthest (h i (omega arith))))

  far_at : all_near x ≡ false → (i : ℕ) × (i < suc d) × (farthest < nat_abs (at x i))
  unfolding all_near
  far_at e = let t = some_false (length x) (λ i. leb (nat_abs (at x i)) farthest) e in (t.0, omega (arith, t.1), leb-false (nat_abs (at x t.0)) farthest t.2)

  far_all : (i : ℕ) → i < suc d → farthest < nat_abs (at x i) → all_near x ≡ false
  unfolding all_near
  far_all i l h = all_stop (length x) (λ i. leb (nat_abs (at x i)) farthest) i (omega arith) (lt-leb (nat_abs (at x i)) farthest h)

  zero_is : sums_to_zero x ≡ true → sum (suc d) (at x) ≡ pos 0
  unfolding sums_to_zero
  zero_is e = sum_same ∙ size_zero (sum (length x) (at x)) (eqb-true (nat_abs (sum (length x) (at x))) 0 e)

  other_is : sums_to_zero x ≡ false → sum (suc d) (at x) ≡ pos 0 → ⊥
  unfolding sums_to_zero
  other_is e k = eqb-false (nat_abs (sum (length x) (at x))) 0 e (ap nat_abs (sym sum_same ∙ k))

  -- the two tests decide
  data Case : Type 0 where
    far : all_near x ≡ false → judged x ≡ coordinate_beyond → Case
    off : all_near x ≡ true → sums_to_zero x ≡ false → judged x ≡ sum_not_zero → Case
    good : all_near x ≡ true → sums_to_zero x ≡ true → judged x ≡ 0 → Case

  cases : Case
  cases = go (all_near x) (sums_to_zero x) refl refl
    where
      go : (a b : Bool) → all_near x ≡ a → sums_to_zero x ≡ b → Case
      go false b e k = far e (judged_four x e)
      go true false e k = off e k (judged_five x e k)
      go true true e k = good e k (judged_none x e k)

  position : all_near x ≡ true → sums_to_zero x ≡ true → Position d x
  position e k = record { size = size; near = λ i l. abs_of (at x i) farthest (near_at e i l); zero_sum = zero_is k }

  pub right : Judged d x
  right = go cases
    where
      clash : {A : Type 0} {m n : ℕ} (k : ℕ) → k ≡ m → k ≡ n → (m ≡ n → ⊥) → A
      clash k e f n = absurd (n (sym e ∙ f))

      go : Case → Judged d x
      go (far e j) = record {
        none = (λ k. clash (judged x) j k (λ h. omega arith), λ p. clash (judged x) j (judged_none x (near_all (λ i l. of_abs (at x i) farthest (p.near i l))) (sum_zero x (sym sum_same ∙ p.zero_sum))) (λ h. omega arith));
        four = (λ k. far_at e, λ k. j);
        five = (λ k. clash (judged x) j k (λ h. omega arith), λ k. judged_five x (near_all k.0) (sum_other x (λ h. k.1 (sum_same ∙ h))));
      }
      go (off e f j) = record {
        none = (λ k. clash (judged x) j k (λ h. omega arith), λ p. absurd (other_is f p.zero_sum));
        four = (λ k. clash (judged x) j k (λ h. omega arith), λ k. judged_four x (far_all k.0 k.1 k.2));
        five = (λ k. (near_at e, other_is f), λ k. j);
      }
      go (good e f j) = record {
        none = (λ k. position e f, λ p. j);
        four = (λ k. clash (judged x) j k (λ h. omega arith), λ k. judged_four x (far_all k.0 k.1 k.2));
        five = (λ k. clash (judged x) j k (λ h. omega arith), λ k. absurd (k.1 (zero_is f)));
      }

pub judged_right : JudgedRight
judged_right d x size = right d x size
