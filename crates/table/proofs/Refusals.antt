-- Refusals in their order: no number is met exactly when every test passes. And what the code knows where it has made a test.
use mathlib.Core.Path.{◌≡◌, refl, sym, subst, ◌∙◌}
use mathlib.Core.Bool.{Bool, true, false, not}
use mathlib.Core.List.{List, ◌∷◌}
use Prim.Native.Nat.{ℕ, suc}
use native.Mathlib.Omega.{arith}
use lib.Dec.{T}
use borrow.Author.Tests.{not-true, not-false}
use Rattle.lattice.specs.Refusals.{first}

pub first_zero : (b : Bool) (k : ℕ) (l : List (Bool × ℕ)) → first ((b, suc k) ∷ l) ≡ 0 → T b × (first l ≡ 0)
unfolding first
first_zero true k l e = (tt, e)
first_zero false k l e = absurd (omega arith)

-- the test fails
pub first_at : (b : Bool) (k : ℕ) (l : List (Bool × ℕ)) → b ≡ false → first ((b, k) ∷ l) ≡ k
unfolding first
first_at b k l e = rw e refl

-- a test that the code has made of b, passed or failed
pub passed : {t : Bool} (b : Bool) → t ≡ b → not t ≡ false → b ≡ true
passed {t} b e n = sym e ∙ not-false t n

pub failed : {t : Bool} (b : Bool) → t ≡ b → not t ≡ true → b ≡ false
failed {t} b e n = sym e ∙ not-true t n

pub T_of : {b : Bool} → b ≡ true → T b
T_of e = subst T (sym e) tt
