-- Tests in their order: what follows where none fails, and of some tests and then others, which fails first.
use mathlib.Core.Path.{◌≡◌, refl}
use mathlib.Core.Bool.{Bool, true, false}
use mathlib.Core.List.{[], ◌∷◌, ◌++◌}
use Prim.Native.Nat.{ℕ, zero, suc}
use native.Mathlib.Omega.{arith}
use lib.Dec.{T}
use Rattle.whole.specs.Lists.{All}
use Rattle.lattice.specs.Refusals.{Tests, first}

-- no test has the number 0, which says that none fails
abbrev pub numbered : Tests → Bool
numbered [] = true
numbered ((b, zero) ∷ l) = false
numbered ((b, suc k) ∷ l) = numbered l

-- where none fails, each has passed
pub all_pass : (l : Tests) → T (numbered l) → first l ≡ 0 → All (λ (p : Bool × ℕ). T p.0) l
unfolding first
all_pass [] n e = tt
all_pass ((b, zero) ∷ l) n e = absurd n
all_pass ((true, suc k) ∷ l) n e = (tt, all_pass l n e)
all_pass ((false, suc k) ∷ l) n e = absurd (omega (arith, e))

-- some, then others: one of the first fails,
pub first_stops : (l m : Tests) → (first l ≡ 0 → ⊥) → first (l ++ m) ≡ first l
unfolding first
first_stops [] m h = absurd (h refl)
first_stops ((true, k) ∷ l) m h = first_stops l m h
first_stops ((false, k) ∷ l) m h = refl

-- or they pass, and the others decide
pub first_passes : (l m : Tests) → T (numbered l) → first l ≡ 0 → first (l ++ m) ≡ first m
unfolding first
first_passes [] m n e = refl
first_passes ((b, zero) ∷ l) m n e = absurd n
first_passes ((true, suc k) ∷ l) m n e = first_passes l m n e
first_passes ((false, suc k) ∷ l) m n e = absurd (omega (arith, e))
