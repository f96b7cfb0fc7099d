-- What is true of the blur. Statements: the proofs stand in proofs/.
use Rattle.std.specs.Prelude.{◌≡◌, Bool, List, ℕ, suc, ◌*◌, ◌^◌, ◌<◌, T, ℤ, pos, ◌+ℤ◌, ◌*ℤ◌, length, ◌≤ℤ◌}
use Rattle.whole.specs.Size.{Abs≤}
use Rattle.whole.specs.Lists.{at}
use Rattle.lattice.specs.Limits.{most_value, most_readings, most_W}
use Rattle.lattice.specs.Lattice.{Point}
use Rattle.table.specs.Table.{Settings, Table, whole, held}
use Rattle.table.specs.Sound.{Fine}
use Rattle.blur.specs.Blur.{step, plus_step, minus_step, pass, passes, is_stored, mass_after, value_after}
use Rattle.blur.specs.Sheet.{with_sums, sheet_after}

-- point plus step and point minus step, told by their keys: lattice points again, moved by the step at each of the d+1 places
pub record Steps (d k : ℕ) (y : List ℤ) : Type 0 where
  pub plus_point : Point d (whole (plus_step d k y))
  pub plus_at : (i : ℕ) → i < suc d → at (whole (plus_step d k y)) i ≡ at (whole y) i +ℤ step d k i
  pub minus_point : Point d (whole (minus_step d k y))
  pub minus_at : (i : ℕ) → i < suc d → at (whole (minus_step d k y)) i +ℤ step d k i ≡ at (whole y) i

-- Statement: so it is with every lattice point and the step of every pass
abbrev pub StepsAreLattice : Type 0
StepsAreLattice = (d k : ℕ) → k < suc d → (y : List ℤ) → length y ≡ d → Point d (whole y) → Steps d k y

-- a pass is linear
pub record Linear (p : (List ℤ → ℤ) → List ℤ → ℤ) : Type 0 where
  pub add : (f g : List ℤ → ℤ) (y : List ℤ) → p (λ y. f y +ℤ g y) y ≡ p f y +ℤ p g y
  pub times : (a : ℤ) (f : List ℤ → ℤ) (y : List ℤ) → p (λ y. a *ℤ f y) y ≡ a *ℤ p f y

abbrev pub PassLinear : Type 0
PassLinear = (stored : List ℤ → Bool) (d k : ℕ) → Linear (pass stored d k)

-- the first n passes are linear
abbrev pub PassesLinear : Type 0
PassesLinear = (stored : List ℤ → Bool) (d n : ℕ) → Linear (passes stored d n)

-- lo·mass ≤ value sum ≤ hi·mass, at every point
pub record Between (lo hi : ℤ) (mass value : List ℤ → ℤ) : Type 0 where
  pub low : (y : List ℤ) → (lo *ℤ mass y) ≤ℤ value y
  pub high : (y : List ℤ) → value y ≤ℤ (hi *ℤ mass y)

-- every pass keeps lo·mass ≤ value sum ≤ hi·mass
abbrev pub PassKeepsBetween : Type 0
PassKeepsBetween = (stored : List ℤ → Bool) (d k : ℕ) (lo hi : ℤ) (mass value : List ℤ → ℤ)
    → Between lo hi mass value → Between lo hi (pass stored d k mass) (pass stored d k value)

-- where no mass is below 0, a stored point's is at least doubled by a pass
abbrev pub PassDoubles : Type 0
PassDoubles = (stored : List ℤ → Bool) (d k : ℕ) (mass : List ℤ → ℤ) → ((y : List ℤ) → pos 0 ≤ℤ mass y)
    → (y : List ℤ) → T (stored y) → (pos 2 *ℤ mass y) ≤ℤ pass stored d k mass y

-- a stored point of a sound table has mass above 0 after any number of passes
abbrev pub MassAbove : Type 0
MassAbove = (c : Settings) (t : Table) → Fine c t → (n : ℕ) (y : List ℤ) → T (is_stored c t y) → pos 1 ≤ℤ mass_after c t n y

-- "These limits keep every sum in 64 bits": a pass makes no number more than four times the greatest, so after n of them no mass passes
-- 4^n·384·4,096, and no value sum a million times that
pub record PassedSmall (c : Settings) (t : Table) (n : ℕ) (y : List ℤ) : Type 0 where
  pub mass_small : Abs≤ (mass_after c t n y) (4 ^ n * (most_W * most_readings))
  pub value_small : Abs≤ (value_after c t n y) (4 ^ n * (most_value * (most_W * most_readings)))

abbrev pub BlurSmall : Type 0
BlurSmall = (c : Settings) (t : Table) → Fine c t → (n : ℕ) (y : List ℤ) → PassedSmall c t n y

-- the sheet after n passes has the blurred map: the pair found for a point in the table with the sheet in place of its sums
abbrev pub SheetHolds : Type 0
SheetHolds = (c : Settings) (t : Table) → Fine c t → (n : ℕ) (y : List ℤ) → held c (with_sums t (sheet_after c t n)) y ≡ (mass_after c t n y, value_after c t n y)

-- the blur depends on the table's map alone, not on the order in which points are stored
pub record SameBlur (c : Settings) (t : Table) (b : Settings) (s : Table) (n : ℕ) (y : List ℤ) : Type 0 where
  pub stored_same : is_stored c t y ≡ is_stored b s y
  pub mass_same : mass_after c t n y ≡ mass_after b s n y
  pub value_same : value_after c t n y ≡ value_after b s n y

abbrev pub BlurOfMap : Type 0
BlurOfMap = (c : Settings) (t : Table) (b : Settings) (s : Table) → Fine c t → Fine b s → c.d ≡ b.d
    → ((y : List ℤ) → held c t y ≡ held b s y) → (n : ℕ) (y : List ℤ) → SameBlur c t b s n y
