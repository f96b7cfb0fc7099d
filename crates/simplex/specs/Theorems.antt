-- What is true of the slots. Statements: the proofs stand in proofs/.
use Rattle.std.specs.Prelude.{◌≡◌, List, ℕ, suc, ◌≤◌, ◌<◌, ℤ}
use Rattle.whole.specs.Lists.{collect}
use Rattle.lattice.specs.Limits.{most_d}
use Rattle.lattice.specs.Points.{weighed}
use Rattle.simplex.specs.Slots.{Encloses, slot}

-- the slots of the enclosing simplex, in order, hold the points of weight above 0, each with its weight, and nothing else
abbrev pub SlotsAreThePoints : Type 0
SlotsAreThePoints = (d S : ℕ) → d ≤ most_d → 0 < S → (x : List ℤ) (weights : List ℕ) (coords : List ℤ) → Encloses d S x weights coords
    → collect (suc d) (slot d weights coords) ≡ weighed d S x
