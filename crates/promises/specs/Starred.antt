-- "Small numbers to check by hand", "Marked * are proved.": the starred cases as one table, under one proposition on the definitions.
use Rattle.std.specs.Prelude.{◌≡◌, List, [], ◌∷◌, ℕ, ℤ, pos, negsuc}
use Rattle.whole.specs.Rounding.{rounded}
use Rattle.whole.specs.Lists.{at, All}
use Rattle.lattice.specs.Weight.{weight}
use Rattle.lattice.specs.Points.{weighed}
use Rattle.index.specs.Keys.{home}
use Rattle.blur.specs.Blur.{blurred_mass, blurred_value}
use Rattle.filter.specs.Answer.{weighted, answer}
use Rattle.table.specs.Worked.{of_log, log_table}

-- A case: what is given, and then what it is.
pub data Case : Type 0 where
  -- d, S and x: the points of weight above 0 with their weights
  weights : ℕ → ℕ → List ℤ → List (List ℤ × ℕ) → Case
  -- d, S, x and y: the weight of y
  weight_of_lem : ℕ → ℕ → List ℤ → List ℤ → ℕ → Case
  -- C and a key: its home place
  home_of : ℕ → List ℤ → ℕ → Case
  -- a fraction: the whole number that it is rounded to
  rounding : ℤ → ℕ → ℤ → Case
  -- a key of "the log above": its blurred mass and value sum
  blurred : List ℤ → ℤ → ℤ → Case
  -- a query of it: the two sums, and their quotient
  fraction : List ℤ → ℤ → ℤ → ℤ → Case

-- the definitions give what the case says
abbrev pub Right : Case → Type 0
Right (weights d S x ps) = weighed d S x ≡ ps
Right (weight_of_lem d S x y w) = weight d S (at x) (at y) ≡ w
Right (home_of C k p) = home C k ≡ p
Right (rounding num den r) = rounded num den ≡ r
Right (blurred k m v) = (blurred_mass (of_log 8) log_table k ≡ m) × (blurred_value (of_log 8) log_table k ≡ v)
Right (fraction q num den r) = (weighted (of_log 8) log_table (blurred_value (of_log 8) log_table) q ≡ num) × (weighted (of_log 8) log_table (blurred_mass (of_log 8) log_table) q ≡ den) × (answer (of_log 8) log_table q ≡ r)

-- lists of one, two and three numbers
abbrev one : ℤ → List ℤ
one a = a ∷ []

abbrev two : ℤ → ℤ → List ℤ
two a b = a ∷ b ∷ []

abbrev three : ℤ → ℤ → ℤ → List ℤ
three a b c = a ∷ b ∷ c ∷ []

abbrev pub starred : List Case
starred =
    -- "d=2, S=2, x=(3,-1,-2): (0,0,0) 1, (1,1,-2) 1, (2,-1,-1) 4."
    weights 2 2 (three (pos 3) (negsuc 0) (negsuc 1)) ((three (pos 0) (pos 0) (pos 0), 1) ∷ (three (pos 1) (pos 1) (negsuc 1), 1) ∷ (three (pos 2) (negsuc 0) (negsuc 0), 4) ∷ [])
    -- "d=2, S=1, x=(1,0,-1): the same three points, 1 each."
    ∷ weights 2 1 (three (pos 1) (pos 0) (negsuc 0)) ((three (pos 0) (pos 0) (pos 0), 1) ∷ (three (pos 1) (pos 1) (negsuc 1), 1) ∷ (three (pos 2) (negsuc 0) (negsuc 0), 1) ∷ [])
    -- "d=2, S=2, x=(1,1,-2): (0,0,0) 3, (1,1,-2) 3; (2,-1,-1) has 0."
    ∷ weights 2 2 (three (pos 1) (pos 1) (negsuc 1)) ((three (pos 0) (pos 0) (pos 0), 3) ∷ (three (pos 1) (pos 1) (negsuc 1), 3) ∷ [])
    ∷ weight_of_lem 2 2 (three (pos 1) (pos 1) (negsuc 1)) (three (pos 2) (negsuc 0) (negsuc 0)) 0
    -- "d=2, S=2, x=(2,2,-4): (1,1,-2) 6, nothing else."
    ∷ weights 2 2 (three (pos 2) (pos 2) (negsuc 3)) ((three (pos 1) (pos 1) (negsuc 1), 6) ∷ [])
    -- "d=1, C=8: home of key 1 is 3, of 2 is 6, of -1 is 13."
    ∷ home_of 8 (one (pos 1)) 3
    ∷ home_of 8 (one (pos 2)) 6
    ∷ home_of 8 (one (negsuc 0)) 13
    -- "Rounding: 3/2 is 2, -3/2 is -2, -1/2 is -1, 1/3 is 0, -2/3 is -1."
    ∷ rounding (pos 3) 2 (pos 2)
    ∷ rounding (negsuc 2) 2 (negsuc 1)
    ∷ rounding (negsuc 0) 2 (negsuc 0)
    ∷ rounding (pos 1) 3 (pos 0)
    ∷ rounding (negsuc 1) 3 (negsuc 0)
    -- "In the log above, blurred pairs (mass, sum): (38, 260) at (1,-1) and (34, 244) at (2,-2). At (3,-3) the fraction is 1008/144 = 7."
    ∷ blurred (one (pos 1)) (pos 38) (pos 260)
    ∷ blurred (one (pos 2)) (pos 34) (pos 244)
    ∷ fraction (two (pos 3) (negsuc 2)) (pos 1008) (pos 144) (pos 7)
    ∷ []

-- Statement: every case of the table.
abbrev pub StarredRight : Type 0
StarredRight = All Right starred
