-- What the functions that answer queries ask of one another and leave. The sums of the table here are a sheet of blurred pairs.
use Rattle.std.specs.Prelude.{◌≡◌, Bool, not, cond, ◌&&◌, List, ℕ, suc, ◌<◌, leb, ℤ, pos, neg_ℤ, nat_abs, ◌*ℤ◌, length, take, ◌≤ℤ◌, Result}
use Rattle.std.specs.Result.{result_unwrap_or}
use Rattle.whole.specs.Size.{Abs≤}
use Rattle.whole.specs.Rounding.{rounded, most_fraction}
use Rattle.whole.specs.Sum.{over}
use Rattle.whole.specs.Lists.{at, tab, collect}
use Rattle.lattice.specs.Limits.{most_d, most_coords, most_C, most_W, most_value}
use Rattle.lattice.specs.Refusals.{first}
use Rattle.lattice.specs.Lattice.{Point}
use Rattle.lattice.specs.declared.refusals.Refusal.{Refusal}
use Rattle.simplex.specs.Slots.{slot_numbers, slot}
use Rattle.index.specs.Keys.{eq_z}
use Rattle.table.specs.Table.{Settings, Table, key, mass, value, whole}
use Rattle.blur.specs.Blur.{is_stored, masses, values}
use Rattle.blur.specs.Inner.{most_blurred, Readable}
use Rattle.filter.specs.Answer.{met_tests, code_by, beside, value_by}
use Rattle.filter.specs.Filter.{query_at, query_count, lent_fits}

-- the value of a reply, and 0 beside a code
abbrev pub value_told : Result ℤ Refusal → ℤ
value_told reply = result_unwrap_or reply (pos 0)

-- 1 at a stored point, and 0 elsewhere
abbrev pub ones : Settings → Table → List ℤ → ℤ
ones c t y = cond (is_stored c t y) (pos 1) (pos 0)

-- points with their weights: the sum of weight times a number of each point
abbrev pub weighed_over : ℕ → List (List ℤ × ℕ) → (List ℤ → ℤ) → ℤ
weighed_over d ps f = over ps (λ p. pos p.1 *ℤ f (take d p.0))

-- the weights of those that are stored, and the weighted masses and value sums
pub record WeighedIs (c : Settings) (t : Table) (ps : List (List ℤ × ℕ)) (weight mass value : ℤ) : Type 0 where
  pub weight_is : weight ≡ weighed_over c.d ps (ones c t)
  pub mass_is : mass ≡ weighed_over c.d ps (masses c t)
  pub value_is : value ≡ weighed_over c.d ps (values c t)

-- The slots of a simplex, and a sheet: weighed, the numbers stay in 64 bits.
pub record Weighable (c : Settings) (t : Table) (weights : List ℕ) (coords : List ℤ) : Type 0 where
  pub readable : Readable c t
  pub small : (j : ℕ) → Abs≤ (at t.sums j) most_blurred
  pub weights_size : length weights ≡ most_coords
  pub coords_size : length coords ≡ slot_numbers
  pub light : over (collect (suc c.d) (slot c.d weights coords)) (λ p. pos p.1) ≤ℤ pos most_W

-- 10 and 11 of "4, 5, 10, 11", by the weights of the stored points and by their mass sum
unfoldable pub sums_code : ℤ → ℤ → ℕ
sums_code weight mass = first (met_tests (not (eq_z weight (pos 0))) mass)

-- the rounded quotient, and 0 beside a code
unfoldable pub sums_value : ℤ → ℤ → ℤ → ℤ
sums_value weight mass value = beside (sums_code weight mass) (rounded value (nat_abs mass))

-- Sums "below 2.5·10^18" whose quotient is a value; the mass sum may be 0.
pub record Quotable (mass value : ℤ) : Type 0 where
  pub least : pos 0 ≤ℤ mass
  pub mass_small : Abs≤ mass most_fraction
  pub value_small : Abs≤ value most_fraction
  pub low : (neg_ℤ (pos most_value) *ℤ mass) ≤ℤ value
  pub high : value ≤ℤ (pos most_value *ℤ mass)

-- the value and the code that the sums give
pub record QuotientIs (weight mass value quotient : ℤ) (code : ℕ) : Type 0 where
  pub value_is : quotient ≡ sums_value weight mass value
  pub code_is : code ≡ sums_code weight mass

-- The keys that are found are those of lattice points.
pub record Mapped (c : Settings) (t : Table) : Type 0 where
  pub readable : Readable c t
  pub size : (i : ℕ) → i < t.m → length (key c t i) ≡ c.d
  pub point : (i : ℕ) → i < t.m → Point c.d (whole (key c t i))

-- A sound table's points with a sheet of blurred pairs.
pub record Smooth (c : Settings) (t : Table) : Type 0 where
  pub mapped : Mapped c t
  pub small : (j : ℕ) → Abs≤ (at t.sums j) most_blurred
  pub some : (i : ℕ) → i < t.m → pos 1 ≤ℤ mass t i
  pub low : (i : ℕ) → i < t.m → neg_ℤ (pos most_value *ℤ mass t i) ≤ℤ value t i
  pub high : (i : ℕ) → i < t.m → value t i ≤ℤ (pos most_value *ℤ mass t i)

-- the value and the code of one query
pub record ReplyIs (c : Settings) (t : Table) (q : List ℤ) (value : ℤ) (code : ℕ) : Type 0 where
  pub value_is : value ≡ value_by c t (masses c t) (values c t) q
  pub code_is : code ≡ code_by c t (masses c t) q

-- Such a table, and one value and one code for each query.
pub record Answerable (c : Settings) (t : Table) (queries values : List ℤ) (codes : List ℕ) : Type 0 where
  pub smooth : Smooth c t
  pub values_size : length values ≡ query_count c.d (length queries)
  pub codes_size : length codes ≡ query_count c.d (length queries)

-- the values and the codes of all queries
pub record RepliesAre (c : Settings) (t : Table) (queries values' : List ℤ) (codes : List ℕ) : Type 0 where
  pub values_are : values' ≡ tab (query_count c.d (length queries)) (λ j. value_by c t (masses c t) (values c t) (query_at c.d queries j))
  pub codes_are : codes ≡ tab (query_count c.d (length queries)) (λ j. code_by c t (masses c t) (query_at c.d queries j))

-- the lengths, tested for settings that may be out of range: nothing wraps then
unfoldable pub lent_fits_ranged : ℕ → ℕ → ℕ → ℕ → ℕ → ℕ → ℕ → Bool
lent_fits_ranged d C first second queries values codes = leb d most_d && leb C most_C && lent_fits d C first second queries values codes
