-- The starred weights of document 01's "Small numbers to check by hand".
use Rattle.std.specs.Prelude.{◌≡◌, List, [], ◌∷◌, ℤ, pos, negsuc}
use Rattle.whole.specs.Lists.{at}
use Rattle.lattice.specs.Weight.{weight}
use Rattle.lattice.specs.Points.{weighed}

-- three coordinates
abbrev three : ℤ → ℤ → ℤ → List ℤ
three a b c = a ∷ b ∷ c ∷ []

-- the points that the cases name
abbrev origin : List ℤ
origin = three (pos 0) (pos 0) (pos 0)

abbrev near_point : List ℤ
near_point = three (pos 1) (pos 1) (negsuc 1)

abbrev far_point : List ℤ
far_point = three (pos 2) (negsuc 0) (negsuc 0)

pub record WeightCases : Type 0 where
  -- "d=2, S=2, x=(3,-1,-2): (0,0,0) 1, (1,1,-2) 1, (2,-1,-1) 4."
  pub inside : weighed 2 2 (three (pos 3) (negsuc 0) (negsuc 1)) ≡ (origin, 1) ∷ (near_point, 1) ∷ (far_point, 4) ∷ []
  -- "d=2, S=1, x=(1,0,-1): the same three points, 1 each."
  pub middle : weighed 2 1 (three (pos 1) (pos 0) (negsuc 0)) ≡ (origin, 1) ∷ (near_point, 1) ∷ (far_point, 1) ∷ []
  -- "d=2, S=2, x=(1,1,-2): (0,0,0) 3, (1,1,-2) 3; (2,-1,-1) has 0."
  pub edge : weighed 2 2 (three (pos 1) (pos 1) (negsuc 1)) ≡ (origin, 3) ∷ (near_point, 3) ∷ []
  pub edge_zero : weight 2 2 (at (three (pos 1) (pos 1) (negsuc 1))) (at far_point) ≡ 0
  -- "d=2, S=2, x=(2,2,-4): (1,1,-2) 6, nothing else."
  pub vertex : weighed 2 2 (three (pos 2) (pos 2) (negsuc 3)) ≡ (near_point, 6) ∷ []
