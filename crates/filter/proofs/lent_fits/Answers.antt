-- The tests one after the other: each holds where those before it hold and its own does.
use mathlib.Core.Path.{◌≡◌, ◌∙◌}
use mathlib.Core.Bool.{◌&&◌}
use Prim.Native.Nat.{◌+◌, ◌*◌, ◌/◌, ◌%◌}
use lib.Dec.{eqb, leb}
use borrow.Author.Tests.{le-leb, lt-leb}
use Rattle.lattice.specs.Limits.{most_d, most_C}
use Rattle.filter.specs.Inner.{lent_fits_ranged}
use Rattle.filter.proofs.Calling.{and_then, and_else, fits_joined}
use Rattle.filter.proofs.lent_fits.Goals.{Joined-queries-d-eq0, then-d-le-MOST_D, else-d-le-MOST_D, then-in_range, else-in_range, then-first-capacity, else-first-capacity, then-second-capacity, else-second-capacity, then-queries-d-eq0, else-queries-d-eq0}
use Rattle.filter.proofs.lent_fits.Goals as goal

-- all tests but the last, and the last
fits : (c : Joined-queries-d-eq0) → let a = c.args in
    c.if-queries-d-eq0.value && eqb a.codes (a.queries / (a.d + 1)) ≡ lent_fits_ranged a.d a.capacity a.first a.second a.queries a.values a.codes
fits c =
    let a = c.args in
    let in_range : c.if-d-le-MOST_D.in_range ≡ leb a.d most_d && leb a.capacity most_C = elim c.if-d-le-MOST_D.branch [
      | then-d-le-MOST_D w ↦ and_then (le-leb a.d most_d w.if-d-le-MOST_D.true) w.in_range-is
      | else-d-le-MOST_D w ↦ and_else _ (lt-leb a.d most_d w.if-d-le-MOST_D.false) w.in_range-is
    ] in
    let first : c.if-in_range.value ≡ c.if-d-le-MOST_D.in_range && eqb a.first (2 * a.capacity) = elim c.if-in_range.branch [
      | then-in_range w ↦ and_then w.if-in_range.true w.value-is
      | else-in_range w ↦ and_else _ w.if-in_range.false w.value-is
    ] in
    let second : c.if-first-capacity.value ≡ c.if-in_range.value && eqb a.second (2 * a.capacity) = elim c.if-first-capacity.branch [
      | then-first-capacity w ↦ and_then w.if-first-capacity.true w.value-is
      | else-first-capacity w ↦ and_else _ w.if-first-capacity.false w.value-is
    ] in
    let queries : c.if-second-capacity.value ≡ c.if-first-capacity.value && eqb (a.queries % (a.d + 1)) 0 = elim c.if-second-capacity.branch [
      | then-second-capacity w ↦ and_then w.if-second-capacity.true w.value-is
      | else-second-capacity w ↦ and_else _ w.if-second-capacity.false w.value-is
    ] in
    let values' : c.if-queries-d-eq0.value ≡ c.if-second-capacity.value && eqb a.values (a.queries / (a.d + 1)) = elim c.if-queries-d-eq0.branch [
      | then-queries-d-eq0 w ↦ and_then w.if-queries-d-eq0.true w.value-is
      | else-queries-d-eq0 w ↦ and_else _ w.if-queries-d-eq0.false w.value-is
    ] in
    fits_joined a.d a.capacity a.first a.second a.queries a.values a.codes in_range first second queries values'

pub returns-then-values-queries : goal.returns-then-values-queries
returns-then-values-queries c = rw c.if-values-queries.true at (fits (goal.at.returns-then-values-queries c).Joined-queries-d-eq0)

pub returns-else-values-queries : goal.returns-else-values-queries
returns-else-values-queries c = c.if-values-queries.false ∙ (rw c.if-values-queries.false at (fits (goal.at.returns-else-values-queries c).Joined-queries-d-eq0))
