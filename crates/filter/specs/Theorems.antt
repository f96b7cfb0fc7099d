-- What is true of the answers. Statements: the proofs stand in proofs/.
use Rattle.std.specs.Prelude.{◌≡◌, ◌↔◌, List, ℕ, suc, ◌<◌, T, ℤ, length, take}
use Rattle.whole.specs.Size.{Abs≤, Within}
use Rattle.whole.specs.Rounding.{most_fraction}
use Rattle.whole.specs.Lists.{All}
use Rattle.lattice.specs.Refusals.{coordinate_beyond, sum_not_zero, no_point_met, no_mass_met}
use Rattle.lattice.specs.Position.{Position, judged}
use Rattle.table.specs.Table.{Settings, Table, held}
use Rattle.table.specs.Calls.{ranged, fresh}
use Rattle.table.specs.Sound.{Fine}
use Rattle.book.specs.Book.{Booked}
use Rattle.book.specs.Calls.{parsed, enter, after_merge}
use Rattle.blur.specs.Blur.{masses, values, blurred_mass, blurred_value}
use Rattle.blur.specs.Theorems.{Between}
use Rattle.filter.specs.Answer.{weight_of, weighted, code, answer}

-- each code of a query on a sound table is met exactly when its condition holds and no earlier one does: 4 and 5 as `judged` has them, 10 at a
-- position for which no stored point has weight above 0, and 0 at one for which some has
pub record Coded (c : Settings) (t : Table) (q : List ℤ) : Type 0 where
  pub four : code c t q ≡ coordinate_beyond ↔ judged q ≡ coordinate_beyond
  pub five : code c t q ≡ sum_not_zero ↔ judged q ≡ sum_not_zero
  pub ten : code c t q ≡ no_point_met ↔ Position c.d q × ((i : ℕ) → i < t.m → weight_of c t q i ≡ 0)
  pub none : code c t q ≡ 0 ↔ Position c.d q × ((i : ℕ) × (i < t.m) × (0 < weight_of c t q i))

abbrev pub CodedRight : Type 0
CodedRight = (c : Settings) (t : Table) → Fine c t → (q : List ℤ) → length q ≡ suc c.d → Coded c t q

-- 11 is never met on a sound table
abbrev pub NeverEleven : Type 0
NeverEleven = (c : Settings) (t : Table) → Fine c t → (q : List ℤ) → code c t q ≡ no_mass_met → ⊥

-- each value sum of the table lies between lo and hi times its mass, as it does where every value entered lies between lo and hi
abbrev pub ValuesBetween : ℤ → ℤ → Settings → Table → Type 0
ValuesBetween lo hi c t = Between lo hi (masses c t) (values c t)

-- in a fresh table each value sum lies between lo and hi times its mass
abbrev pub FreshBetween : Type 0
FreshBetween = (lo hi : ℤ) (c : Settings) → T (ranged c) → ValuesBetween lo hi c (fresh c)

-- a call of enter that took only readings with values between lo and hi keeps each value sum between lo and hi times its mass
abbrev pub EnterBetween : Type 0
EnterBetween = (lo hi : ℤ) (c : Settings) (b : Booked) (l : List ℤ) → ValuesBetween lo hi c b.table
    → All (λ e. Within lo hi e.reading.value) (take (enter c b l).taken (parsed c.d l)) → ValuesBetween lo hi c (enter c b l).booked.table

-- a merge of two tables with each value sum between lo and hi times its mass leaves such a table
abbrev pub MergeBetween : Type 0
MergeBetween = (lo hi : ℤ) (c : Settings) (b : Booked) (e : Settings) (s : Booked) → ValuesBetween lo hi c b.table → ValuesBetween lo hi e s.table
    → ValuesBetween lo hi c (after_merge c b e s).table

-- where each value sum lies between lo and hi times its mass, an answer given lies between lo and hi
abbrev pub AnswerBetween : Type 0
AnswerBetween = (lo hi : ℤ) (c : Settings) (t : Table) → Fine c t → ValuesBetween lo hi c t
    → (q : List ℤ) → code c t q ≡ 0 → Within lo hi (answer c t q)

-- "384·4,096·1,000,000·4^6·384 is below 2.5·10^18": nothing leaves 64 bits
pub record SumsFit (c : Settings) (t : Table) (q : List ℤ) : Type 0 where
  pub mass_fits : Abs≤ (weighted c t (blurred_mass c t) q) most_fraction
  pub value_fits : Abs≤ (weighted c t (blurred_value c t) q) most_fraction

abbrev pub AnswersFit : Type 0
AnswersFit = (c : Settings) (t : Table) → Fine c t → (q : List ℤ) → SumsFit c t q

-- the answer and the code at a place depend only on the table's map, not on the order in which points are stored, nor on the room
pub record SameAnswer (c : Settings) (t : Table) (b : Settings) (s : Table) (q : List ℤ) : Type 0 where
  pub same_code : code c t q ≡ code b s q
  pub same_value : answer c t q ≡ answer b s q

abbrev pub AnswerOfMap : Type 0
AnswerOfMap = (c : Settings) (t : Table) (b : Settings) (s : Table) → Fine c t → Fine b s → c.d ≡ b.d → c.S ≡ b.S
    → ((y : List ℤ) → held c t y ≡ held b s y) → (q : List ℤ) → SameAnswer c t b s q
