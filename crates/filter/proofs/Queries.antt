-- The queries one after the other: where each stands in the list, and what holds when so many are answered.
use mathlib.Core.Path.{◌≡◌, ap, subst, ◌∙◌}
use mathlib.Core.List.{List}
use Prim.Native.Nat.{ℕ, ◌+◌, ◌*◌, ◌-◌, ◌/◌, ◌≤◌, ◌<◌}
use native.Mathlib.Nat.{not-suc-le-zero}
use native.Mathlib.Numerals.{add-one}
use native.Mathlib.Omega.{arith}
use lib.IntN.{ℤ, pos}
use lib.ListN.{length, get_or, set, take, drop, length-set}
use Rattle.whole.specs.Lists.{at, tab}
use Rattle.whole.proofs.Lists.{part_fits, part_tab, tab_is, place_more}
use Rattle.table.specs.Table.{Settings, Table}
use Rattle.blur.specs.Blur.{masses, values}
use Rattle.filter.specs.Answer.{code_by, value_by}
use Rattle.filter.specs.Filter.{query_at, query_count}
use Rattle.filter.specs.Inner.{ReplyIs, Answerable, RepliesAre}

-- a piece of the list, as the definition tells a query
pub query_is : (w : ℕ) (l : List ℤ) (j : ℕ) {x : List ℤ} → j < length l / w → x ≡ take w (drop (w * j) l) → x ≡ tab w (λ i. at l (w * j + i))
query_is w l j h e =
    let a : w ≡ w * j + w - w * j = omega arith in
    e ∙ ap (λ k. take k (drop (w * j) l)) a ∙ part_tab l (w * j) w (pos 0) (part_fits w (length l) j h)

-- ---- the first n are answered
-- how many there are, as the program divides
count_is : (d n : ℕ) → n / (d + 1) ≡ query_count d n
count_is d n = rw add-one

pub record Answered (c : Settings) (t : Table) (queries : List ℤ) (n : ℕ) (values' : List ℤ) (codes : List ℕ) : Type 0 where
  pub values_size : length values' ≡ query_count c.d (length queries)
  pub codes_size : length codes ≡ query_count c.d (length queries)
  pub value_at : (j : ℕ) → j < n → at values' j ≡ value_by c t (masses c t) (values c t) (query_at c.d queries j)
  pub code_at : (j : ℕ) → j < n → get_or codes j 0 ≡ code_by c t (masses c t) (query_at c.d queries j)

pub none_answered : {c : Settings} {t : Table} {queries values' : List ℤ} {codes : List ℕ} → Answerable c t queries values' codes → Answered c t queries 0 values' codes
none_answered A = record { values_size = A.values_size; codes_size = A.codes_size; value_at = λ j l. absurd (not-suc-le-zero l); code_at = λ j l. absurd (not-suc-le-zero l) }

module _ {c : Settings} {t : Table} {queries values' : List ℤ} {codes : List ℕ} (j : ℕ) (h : j < length queries / (c.d + 1)) (A : Answered c t queries j values' codes) where
  pub value_in_lem : j < length values'
  value_in_lem = omega (arith, count_is c.d (length queries), A.values_size)

  pub code_in : j < length codes
  code_in = omega (arith, count_is c.d (length queries), A.codes_size)

  pub one_more_lem : {q : List ℤ} {v : ℤ} {x : ℕ} → q ≡ tab (c.d + 1) (λ i. at queries ((c.d + 1) * j + i)) → ReplyIs c t q v x
      → Answered c t queries (j + 1) (set values' j v) (set codes j x)
  one_more_lem {v = v} {x} e r =
      let R = subst (λ (q : List ℤ). ReplyIs c t q v x) (e ∙ ap (λ (n : ℕ). tab n (λ i. at queries (n * j + i))) (add-one c.d)) r in
      record {
        values_size = length-set values' j v ∙ A.values_size;
        codes_size = length-set codes j x ∙ A.codes_size;
        value_at = place_more (λ j. value_by c t (masses c t) (values c t) (query_at c.d queries j)) values' (pos 0) j v value_in_lem R.value_is A.value_at;
        code_at = place_more (λ j. code_by c t (masses c t) (query_at c.d queries j)) codes 0 j x code_in R.code_is A.code_at;
      }

pub all_answered : {c : Settings} {t : Table} {queries values' : List ℤ} {codes : List ℕ} (n : ℕ) → length queries / (c.d + 1) ≤ n → Answered c t queries n values' codes → RepliesAre c t queries values' codes
all_answered {c} {t} {queries} {values'} {codes} n h A =
    let e = count_is c.d (length queries) in
    record {
      values_are = tab_is (query_count c.d (length queries)) _ values' (pos 0) A.values_size (λ j l. A.value_at j (omega (arith, e)));
      codes_are = tab_is (query_count c.d (length queries)) _ codes 0 A.codes_size (λ j l. A.code_at j (omega (arith, e)));
    }
