-- The enclosing simplex as the program has it: a slot for each remainder 0 to 5, with a weight and six coordinates.
use Rattle.std.specs.Prelude.{◌≡◌, cond, List, [], ◌∷◌, ℕ, suc, ◌+◌, ◌*◌, ◌/◌, ◌%◌, ◌≤◌, ◌<◌, ℤ, pos, length, get_or, eqb}
use Rattle.whole.specs.Size.{Abs≤}
use Rattle.whole.specs.Lists.{at, tab}
use Rattle.lattice.specs.Lattice.{remainder_of}
use Rattle.lattice.specs.Weight.{weight}
use Rattle.lattice.specs.Points.{points}
use Rattle.lattice.specs.Limits.{most_d, most_coords, most_S, farthest}

-- the points of a list that leave remainder k
unfoldable pub leaving : ℕ → ℕ → List (List ℤ) → List (List ℤ)
leaving d k [] = []
leaving d k (y ∷ ps) = cond (eqb (remainder_of d (at y)) k) (y ∷ leaving d k ps) (leaving d k ps)

-- "at most one point of each remainder has weight above 0": that of remainder k, as a list of one, or of none
abbrev pub point_in : ℕ → ℕ → List ℤ → ℕ → List (List ℤ)
point_in d S x k = leaving d k (points d S x)

-- the weight in a slot, 0 where it has no point
abbrev pub weight_in : ℕ → ℕ → List ℤ → List (List ℤ) → ℕ
weight_in d S x [] = 0
weight_in d S x (y ∷ _) = weight d S (at x) (at y)

-- a coordinate in a slot, 0 where it has no point, and past the point's last
abbrev pub coord_in : List (List ℤ) → ℕ → ℤ
coord_in [] i = pos 0
coord_in (y ∷ _) i = at y i

-- all numbers of the slots: six coordinates for each of six remainders
abbrev pub slot_numbers : ℕ
slot_numbers = most_coords * most_coords

-- the weights and the coordinates of the six slots
unfoldable pub slot_weights : ℕ → ℕ → List ℤ → List ℕ
slot_weights d S x = tab most_coords (λ k. weight_in d S x (point_in d S x k))

unfoldable pub slot_coords : ℕ → ℕ → List ℤ → List ℤ
slot_coords d S x = tab slot_numbers (λ t. coord_in (point_in d S x (t / most_coords)) (t % most_coords))

-- Slot k has what `points` has of remainder k: the point with its weight and its coordinates, and 0 throughout where there is none.
pub record Encloses (d S : ℕ) (x : List ℤ) (weights : List ℕ) (coords : List ℤ) : Type 0 where
  pub weights_are : weights ≡ slot_weights d S x
  pub coords_are : coords ≡ slot_coords d S x

-- what slot k holds: its point with its weight, or nothing where the weight is 0
unfoldable pub slot : ℕ → List ℕ → List ℤ → ℕ → List (List ℤ × ℕ)
slot d weights coords k = cond (eqb (get_or weights k 0) 0) [] ((tab (suc d) (λ i. at coords (most_coords * k + i)), get_or weights k 0) ∷ [])

-- "Dimension d: 1 to 5. Fineness S: 1 to 64." and d + 1 coordinates within ±1,000,000
pub record Placed (d S : ℕ) (x : List ℤ) : Type 0 where
  pub d_least : 1 ≤ d
  pub d_most : d ≤ most_d
  pub S_least : 1 ≤ S
  pub S_most : S ≤ most_S
  pub size : length x ≡ suc d
  pub near : (i : ℕ) → i < suc d → Abs≤ (at x i) farthest
