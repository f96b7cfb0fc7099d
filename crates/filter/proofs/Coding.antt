-- The code of a query, by the tests in their order, and the stored points that a query meets.
use mathlib.Core.Path.{◌≡◌, ap, subst}
use mathlib.Core.Logic.{⊎_elim}
use mathlib.Core.Bool.{Bool, true, false, not}
use mathlib.Core.List.{List, [], ◌∷◌}
use Prim.Native.Nat.{ℕ, ◌<◌, ◌≤◌}
use native.Mathlib.Nat.{eq-zero-or-pos}
use native.Mathlib.Omega.{arith}
use lib.Dec.{T, eqb, eqb→eq}
use lib.IntN.{ℤ}
use borrow.Author.Tests.{eq-eqb}
use Rattle.whole.specs.Sum.{all}
use Rattle.whole.proofs.Tests.{all_at, some_false}
use Rattle.lattice.specs.Refusals.{first, coordinate_beyond, sum_not_zero}
use Rattle.lattice.specs.Position.{all_near, sums_to_zero, position_tests, judged}
use Rattle.lattice.proofs.Tests.{first_stops, first_passes}
use Rattle.table.specs.Table.{Settings, Table}
use Rattle.table.proofs.Refusals.{T_of}
use Rattle.filter.specs.Answer.{weight_of, weighted, meets, met_tests, code_by}

-- ---- the number, by the tests made so far
module _ (c : Settings) (t : Table) (mass : List ℤ → ℤ) (q : List ℤ) where
  pub by_position : (judged q ≡ 0 → ⊥) → code_by c t mass q ≡ judged q
  unfolding code_by judged
  by_position h = first_stops (position_tests q) _ h

  -- at a position the points around it decide
  pub by_points : judged q ≡ 0 → code_by c t mass q ≡ first (met_tests (meets c t q) (weighted c t mass q))
  unfolding code_by judged
  by_points h = first_passes (position_tests q) _ tt h

-- a position's own numbers are 4 and 5
pub judged_small : (q : List ℤ) → judged q ≤ sum_not_zero
unfolding judged first
judged_small q = go (all_near q) (sums_to_zero q)
  where
    go : (a b : Bool) → first ((a, coordinate_beyond) ∷ (b, sum_not_zero) ∷ []) ≤ sum_not_zero
    go false b = omega arith
    go true false = omega arith
    go true true = omega arith

-- ---- the points that a query meets
module _ (c : Settings) (t : Table) (q : List ℤ) where
  abbrev light : ℕ → Bool
  light i = eqb (weight_of c t q i) 0

  flip : (b x : Bool) → not x ≡ b → x ≡ not b
  flip b false e = ap not e
  flip b true e = ap not e

  pub met_one : meets c t q ≡ true → (i : ℕ) × (i < t.m) × (0 < weight_of c t q i)
  unfolding meets
  met_one h =
      let (i, l, e) = some_false t.m light (flip true (all t.m light) h) in
      (i, l, ⊎_elim (λ z. absurd (subst T e (T_of (eq-eqb (weight_of c t q i) 0 z)))) (λ w. w) (eq-zero-or-pos (weight_of c t q i)))

  pub met_none : meets c t q ≡ false → (i : ℕ) → i < t.m → weight_of c t q i ≡ 0
  unfolding meets
  met_none h i l = eqb→eq (weight_of c t q i) 0 (all_at t.m light (T_of (flip false (all t.m light) h)) i l)
