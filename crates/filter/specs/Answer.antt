-- The answer at a query position: a weighted mean of the blurred pairs of the stored points.
use Rattle.std.specs.Prelude.{Bool, not, List, [], ◌∷◌, ◌++◌, ℕ, zero, suc, eqb, ℤ, pos, nat_abs, ◌*ℤ◌}
use Rattle.whole.specs.Rounding.{rounded}
use Rattle.whole.specs.Sum.{sum, all}
use Rattle.whole.specs.Lists.{at}
use Rattle.lattice.specs.Refusals.{Tests, first, no_point_met, no_mass_met}
use Rattle.lattice.specs.Position.{position_tests}
use Rattle.lattice.specs.Weight.{weight}
use Rattle.index.specs.Keys.{eq_z}
use Rattle.table.specs.Table.{Settings, Table, key, whole}
use Rattle.blur.specs.Blur.{blurred_mass, blurred_value}

-- the weight of stored point i for the query q
abbrev pub weight_of : Settings → Table → List ℤ → ℕ → ℕ
weight_of c t q i = weight c.d c.S (at q) (at (whole (key c t i)))

-- "the sum over stored points of weight times" a number of each point
unfoldable pub weighted : Settings → Table → (List ℤ → ℤ) → List ℤ → ℤ
weighted c t f q = sum t.m (λ i. pos (weight_of c t q i) *ℤ f (key c t i))

-- not "no stored point has weight above 0 for the query"
unfoldable pub meets : Settings → Table → List ℤ → Bool
meets c t q = not (all t.m (λ i. eqb (weight_of c t q i) 0))

-- what is tested at a position: 10, whether a stored point is met, before 11, of the mass sum
abbrev pub met_tests : Bool → ℤ → Tests
met_tests met mass = (met, no_point_met) ∷ (not (eq_z mass (pos 0)), no_mass_met) ∷ []

-- "each query 4, 5, 10, 11", where the points have these masses
unfoldable pub code_by : Settings → Table → (List ℤ → ℤ) → List ℤ → ℕ
code_by c t mass q = first (position_tests q ++ met_tests (meets c t q) (weighted c t mass q))

-- "with value 0 beside any code but 0"
abbrev pub beside : ℕ → ℤ → ℤ
beside zero value = value
beside (suc x) value = pos 0

-- "the sum over stored points of weight times blurred value sum, divided by the same with blurred mass. Rounded to the nearest whole number, a half
-- goes away from zero.", where the points have these masses and value sums
unfoldable pub value_by : Settings → Table → (List ℤ → ℤ) → (List ℤ → ℤ) → List ℤ → ℤ
value_by c t mass value q = beside (code_by c t mass q) (rounded (weighted c t value q) (nat_abs (weighted c t mass q)))

-- the code and the value of a query, by the blurred pairs of the table
abbrev pub code : Settings → Table → List ℤ → ℕ
code c t q = code_by c t (blurred_mass c t) q

abbrev pub answer : Settings → Table → List ℤ → ℤ
answer c t q = value_by c t (blurred_mass c t) (blurred_value c t) q
