-- The points of weight above 0 for a position, in ascending remainder: what is meant (`Points`), and a list that has it (`points`).
use Rattle.std.specs.Prelude.{◌≡◌, Bool, cond, List, [], ◌∷◌, map, ℕ, zero, suc, ◌<◌, ℤ, pos, ◌-ℤ◌, ◌*ℤ◌, length, get_or, eqb}
use Rattle.whole.specs.Floor.{floor}
use Rattle.whole.specs.Sum.{sum}
use Rattle.whole.specs.Lists.{at, tab, collect}
use Rattle.lattice.specs.Lattice.{Point, remainder_of}
use Rattle.lattice.specs.Weight.{W, weight}

-- What the list is held to: lattice points, of weight above 0, in ascending remainder, and none is missing.
pub record Points (d S : ℕ) (x : List ℤ) (ps : List (List ℤ)) : Type 0 where
  pub point : (m : ℕ) → m < length ps → Point d (get_or ps m [])
  pub heavy : (m : ℕ) → m < length ps → 0 < weight d S (at x) (at (get_or ps m []))
  pub asc : (m m' : ℕ) → m < m' → m' < length ps → remainder_of d (at (get_or ps m [])) < remainder_of d (at (get_or ps m' []))
  pub full : (y : List ℤ) → Point d y → 0 < weight d S (at x) (at y) → (m : ℕ) × (m < length ps) × (get_or ps m [] ≡ y)

-- the lattice point n·z_i - Σz of n whole numbers z
abbrev pub spanned : ℕ → (ℕ → ℤ) → ℕ → ℤ
spanned n z i = pos n *ℤ z i -ℤ sum n z

-- the corner of place j: z_i = ⌊(x_i - x_j) / W⌋
abbrev pub corner_at : ℕ → ℕ → (ℕ → ℤ) → ℕ → ℕ → ℤ
corner_at d S x j = spanned (suc d) (λ i. floor (x i -ℤ x j) (W d S))

unfoldable pub corner : ℕ → ℕ → List ℤ → ℕ → List ℤ
corner d S x j = tab (suc d) (corner_at d S (at x) j)

-- g j of the last j < n that passes the test, as a list of one, or of none
unfoldable pub last_of : {A : Type 0} → ℕ → (ℕ → Bool) → (ℕ → A) → List A
last_of zero t g = []
last_of (suc n) t g = cond (t n) (g n ∷ []) (last_of n t g)

-- the corner that leaves remainder k, of the corners of the first n places
abbrev pub corner_of : ℕ → ℕ → List ℤ → ℕ → ℕ → List (List ℤ)
corner_of d S x n k = last_of n (λ j. eqb (remainder_of d (at (corner d S x j))) k) (corner d S x)

-- each remainder's corner, taken once
unfoldable pub points : ℕ → ℕ → List ℤ → List (List ℤ)
points d S x = collect (suc d) (corner_of d S x (suc d))

-- the points with their weights
unfoldable pub weighed : ℕ → ℕ → List ℤ → List (List ℤ × ℕ)
weighed d S x = map (λ y. (y, weight d S (at x) (at y))) (points d S x)
