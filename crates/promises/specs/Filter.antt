-- Demand 2: "The filter is the document's: weights, stored points, blur and answer equal document 01's definitions". By the meaning: a reading's
-- weights are over all lattice points, a pass is over all stored points, and an answer is a rounded quotient of two sums over them.
use Rattle.std.specs.Prelude.{◌≡◌, ◌↔◌, ◌⊎◌, List, ℕ, suc, ◌+◌, ◌<◌, T, ℤ, pos, ◌+ℤ◌, ◌*ℤ◌, length, take}
use Rattle.whole.specs.Rounding.{Rounds}
use Rattle.whole.specs.Lists.{at}
use Rattle.lattice.specs.Lattice.{Point}
use Rattle.lattice.specs.Weight.{weight}
use Rattle.table.specs.Table.{Settings, Table, keys_of, found, held}
use Rattle.table.specs.Pour.{news}
use Rattle.table.specs.Reading.{Reading, shares, entered}
use Rattle.table.specs.Theorems.{plus}
use Rattle.table.specs.Sound.{Fine}
use Rattle.book.specs.Book.{Numbered, Booked}
use Rattle.book.specs.Calls.{refusal}
use Rattle.book.specs.Theorems.{FineBook}
use Rattle.blur.specs.Blur.{plus_step, minus_step, is_stored, mass_after, value_after, blurred_mass, blurred_value}
use Rattle.blur.specs.Sheet.{with_sums, blurred_sheet}
use Rattle.filter.specs.Answer.{weighted, code, answer}

-- "To enter a reading (x, v)": at every lattice point the pair grows by (weight, weight·v), and by nothing at any other key
pub record Entered (c : Settings) (t : Table) (r : Reading) : Type 0 where
  pub at_points : (y : List ℤ) → Point c.d y
      → held c (entered c t r) (take c.d y) ≡ plus (held c t (take c.d y)) (let w = pos (weight c.d c.S (at r.position) (at y)) in (w, w *ℤ r.value))
  pub elsewhere : (k : List ℤ) → ((y : List ℤ) → Point c.d y → take c.d y ≡ k → ⊥) → held c (entered c t r) k ≡ held c t k
  -- "A point of weight 0 is not stored.": what is stored was stored before, or has weight above 0
  pub stored : (y : List ℤ) → Point c.d y → (0 < found c (entered c t r) (take c.d y)) ↔ ((0 < found c t (take c.d y)) ⊎ (0 < weight c.d c.S (at r.position) (at y)))
  pub readings : (entered c t r).n ≡ t.n + 1
  -- "Only the points that are new count."
  pub points : (entered c t r).m ≡ t.m + news c t (keys_of (shares c.d c.S r))

abbrev pub EntersEachReading : Type 0
EntersEachReading = (c : Settings) (b : Booked) (e : Numbered) → length e.reading.position ≡ suc c.d → FineBook c b → refusal c b e ≡ 0 → Entered c b.table e.reading

-- "Each stored point's new pair is its old pair twice, plus the old pairs at point plus step and at point minus step; a neighbour that is not stored
-- counts as 0.": pass k of one of the two numbers of each point, f before it and g after it
pub record Passed (c : Settings) (t : Table) (k : ℕ) (f g : List ℤ → ℤ) : Type 0 where
  pub stored : (y : List ℤ) → T (is_stored c t y) → g y ≡ pos 2 *ℤ f y +ℤ f (plus_step c.d k y) +ℤ f (minus_step c.d k y)
  pub not_stored : (y : List ℤ) → (T (is_stored c t y) → ⊥) → g y ≡ pos 0

-- "Passes k = 0 to d, in that order." "All old pairs of a pass are those before the pass."
pub record Blurs (c : Settings) (t : Table) : Type 0 where
  pub mass_before : (y : List ℤ) → mass_after c t 0 y ≡ (held c t y).0
  pub value_before : (y : List ℤ) → value_after c t 0 y ≡ (held c t y).1
  pub mass_pass : (k : ℕ) → Passed c t k (mass_after c t k) (mass_after c t (suc k))
  pub value_pass : (k : ℕ) → Passed c t k (value_after c t k) (value_after c t (suc k))
  -- what the first sheet holds, read as the sums of the table
  pub on_the_sheet : (y : List ℤ) → held c (with_sums t (blurred_sheet c t)) y ≡ (mass_after c t (suc c.d) y, value_after c t (suc c.d) y)

abbrev pub BlursEachPoint : Type 0
BlursEachPoint = (c : Settings) (t : Table) → Fine c t → Blurs c t

-- "the sum over stored points of weight times blurred value sum, divided by the same with blurred mass. Rounded to the nearest whole number, a half
-- goes away from zero."
pub record Answered (c : Settings) (t : Table) (q : List ℤ) : Type 0 where
  pub divisor : ℕ
  pub divisor_is : weighted c t (blurred_mass c t) q ≡ pos divisor
  pub positive : 0 < divisor
  pub rounds : Rounds (weighted c t (blurred_value c t) q) divisor (answer c t q)

pub record AnswersIt (c : Settings) (t : Table) (q : List ℤ) : Type 0 where
  pub given : code c t q ≡ 0 → Answered c t q
  -- "with value 0 beside any code but 0"
  pub beside : (code c t q ≡ 0 → ⊥) → answer c t q ≡ pos 0

abbrev pub AnswersEachQuery : Type 0
AnswersEachQuery = (c : Settings) (t : Table) → Fine c t → (q : List ℤ) → AnswersIt c t q
