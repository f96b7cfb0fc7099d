-- What is true of the points and weights of every dimension d and every fineness S from 1 on. Statements: the proofs stand in proofs/.
use Rattle.std.specs.Prelude.{◌≡◌, List, ℕ, suc, ◌≤◌, ◌<◌, ℤ, pos, ◌*ℤ◌}
use Rattle.whole.specs.Size.{Abs≤}
use Rattle.whole.specs.Sum.{sum, over}
use Rattle.whole.specs.Lists.{at}
use Rattle.lattice.specs.Limits.{most_d, farthest_point}
use Rattle.lattice.specs.Lattice.{Point, remainder_of}
use Rattle.lattice.specs.Weight.{W, weight}
use Rattle.lattice.specs.Points.{Points, points}
use Rattle.lattice.specs.Position.{Position}

-- "at most one point of each remainder has weight above 0"
abbrev pub OneOfEach : Type 0
OneOfEach = (d S : ℕ) → 0 < S → (x y y' : List ℤ) → Point d y → Point d y' → 0 < weight d S (at x) (at y) → 0 < weight d S (at x) (at y')
    → remainder_of d (at y) ≡ remainder_of d (at y') → y ≡ y'

-- each point of weight above 0 is in the list, and nothing else is
abbrev pub ExactlyThese : Type 0
ExactlyThese = (d S : ℕ) → 0 < S → (x : List ℤ) → Points d S x (points d S x)

-- the list is the only one with that property
abbrev pub OnlyList : Type 0
OnlyList = (d S : ℕ) → 0 < S → (x : List ℤ) (ps : List (List ℤ)) → Points d S x ps → ps ≡ points d S x

-- "all weights sum to W"
abbrev pub WeightsSum : Type 0
WeightsSum = (d S : ℕ) → 0 < S → (x : List ℤ) → over (points d S x) (λ y. pos (weight d S (at x) (at y))) ≡ pos (W d S)

-- "the sum of weight times y is (d+1)·x"
abbrev pub Moment : Type 0
Moment = (d S : ℕ) → 0 < S → (x : List ℤ) → sum (suc d) (at x) ≡ pos 0 → (i : ℕ) → i < suc d
    → over (points d S x) (λ y. pos (weight d S (at x) (at y)) *ℤ at y i) ≡ pos (suc d) *ℤ at x i

-- "all d+1 coordinates are within ±1,000,005": those of a point of weight above 0 for a position
abbrev pub Reach : Type 0
Reach = (d S : ℕ) → d ≤ most_d → 0 < S → (x y : List ℤ) → Position d x → Point d y → 0 < weight d S (at x) (at y) → (i : ℕ) → i < suc d → Abs≤ (at y i) farthest_point
