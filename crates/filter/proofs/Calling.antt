-- The call: refused as a whole, or done by the blur and the replies.
use mathlib.Core.Path.{◌≡◌, refl, sym, ap, ◌∙◌}
use mathlib.Core.Bool.{Bool, true, false, ◌&&◌}
use mathlib.Core.List.{List}
use Prim.Native.Nat.{ℕ, zero, suc, ◌+◌, ◌*◌, ◌/◌, ◌%◌}
use native.Mathlib.Numerals.{add-one}
use lib.Dec.{T, eqb, leb, eqb→eq}
use lib.IntN.{ℤ}
use lib.ListN.{length}
use borrow.Author.Tests.{le-leb}
use Rattle.whole.specs.Lists.{tab}
use Rattle.whole.proofs.Lists.{tab_cong}
use Rattle.whole.proofs.Tests.{and_l, and_r}
use Rattle.lattice.specs.Limits.{most_d, most_C}
use Rattle.lattice.specs.Refusals.{first}
use Rattle.table.specs.Table.{Settings, Table}
use Rattle.table.specs.Calls.{ranged}
use Rattle.table.specs.Sound.{Fine, Ranged}
use Rattle.table.proofs.Soundness.{to_ranged}
use Rattle.table.proofs.Refusals.{first_at, T_of}
use Rattle.book.specs.Book.{Booked}
use Rattle.book.specs.Calls.{room_ranged, in_range, call_tests, call_refusal}
use Rattle.book.proofs.Booking.{Called, called}
use Rattle.blur.specs.Blur.{masses, values}
use Rattle.blur.specs.Sheet.{blurred_sheet, with_sums}
use Rattle.blur.specs.Inner.{Sheets, Blurred}
use Rattle.filter.specs.Answer.{code_by, value_by, code, answer}
use Rattle.filter.specs.Filter.{Lent, Filters, query_at, query_count, lent_fits, filter_refusal, filtered, after_filter}
use Rattle.filter.specs.Inner.{lent_fits_ranged, Answerable, RepliesAre}
use Rattle.filter.proofs.Answers.{smooth, code_same, value_same}

-- ---- the lengths of what is lent
abbrev pub lengths_fit : Settings → List ℤ → Lent → Bool
lengths_fit c queries l = lent_fits_ranged c.d c.C (length l.first) (length l.second) (length queries) (length l.values) (length l.codes)

-- a test after others
pub and_then : {v a b : Bool} → a ≡ true → v ≡ b → v ≡ a && b
and_then e f = rw e f

pub and_else : {v a : Bool} (b : Bool) → a ≡ false → v ≡ a → v ≡ a && b
and_else b e f = f ∙ rw e refl

-- the tests of the lengths in the order that the program makes them
pub fits_joined : (d C first second queries values' codes : ℕ) {r e f g h : Bool} → r ≡ leb d most_d && leb C most_C → e ≡ r && eqb first (2 * C)
    → f ≡ e && eqb second (2 * C) → g ≡ f && eqb (queries % (d + 1)) 0 → h ≡ g && eqb values' (queries / (d + 1))
    → h && eqb codes (queries / (d + 1)) ≡ lent_fits_ranged d C first second queries values' codes
unfolding lent_fits_ranged lent_fits
fits_joined d C first second queries values' codes R E F G H = rw (H, G, F, E, R, add-one) (joined (leb d most_d && leb C most_C) (eqb first (2 * C)) (eqb second (2 * C))
    (eqb (queries % suc d) 0) (eqb values' (queries / suc d)) (eqb codes (queries / suc d)))
  where
    last : (a b c : Bool) → (a && b) && c ≡ a && (b && c)
    last true b c = refl
    last false b c = refl

    joined : (r a b q v c : Bool) → ((((r && a) && b) && q) && v) && c ≡ r && (((a && b) && q) && (v && c))
    joined true a b q v c = last ((a && b) && q) v c
    joined false a b q v c = refl

same_in_range : (c : Settings) → Ranged c → (queries : List ℤ) (l : Lent) → lengths_fit c queries l ≡ lent_fits c.d c.C (length l.first) (length l.second) (length queries) (length l.values) (length l.codes)
unfolding lent_fits_ranged
same_in_range c R queries l = rw (le-leb c.d most_d R.d_most, le-leb c.C most_C R.C_most)

-- settings out of range are refused before the lengths are looked at
same_refusal : (c : Settings) (b : Booked) (queries : List ℤ) (l : Lent) → call_refusal c b (lengths_fit c queries l) ≡ filter_refusal c b queries l
unfolding call_refusal
same_refusal c b queries l = go (in_range c b) refl
  where
    number : Bool → ℕ
    number more = first (call_tests c b more)

    go : (x : Bool) → in_range c b ≡ x → number (lengths_fit c queries l) ≡ number (lent_fits c.d c.C (length l.first) (length l.second) (length queries) (length l.values) (length l.codes))
    go true e = ap number (same_in_range c (to_ranged c (and_l (ranged c) (room_ranged b.room) (T_of e))) queries l)
    go false e = first_at (in_range c b) 1 _ e ∙ sym (first_at (in_range c b) 1 _ e)

-- what the test of the lengths says
record Lengths (c : Settings) (queries : List ℤ) (l : Lent) : Type 0 where
  pub first_size : length l.first ≡ 2 * c.C
  pub second_size : length l.second ≡ 2 * c.C
  pub values_size : length l.values ≡ query_count c.d (length queries)
  pub codes_size : length l.codes ≡ query_count c.d (length queries)

lengths : (c : Settings) (queries : List ℤ) (l : Lent) → T (lengths_fit c queries l) → Lengths c queries l
unfolding lent_fits_ranged lent_fits
lengths c queries l h =
    let n = query_count c.d (length queries) in
    let a = eqb (length l.first) (2 * c.C) in
    let b = eqb (length l.second) (2 * c.C) in
    let w = eqb (length queries % suc c.d) 0 in
    let v = eqb (length l.values) n in
    let k = eqb (length l.codes) n in
    let f = and_r (leb c.d most_d && leb c.C most_C) (a && b && w && (v && k)) h in
    let ab = and_l (a && b) w (and_l (a && b && w) (v && k) f) in
    let vk = and_r (a && b && w) (v && k) f in
    record {
      first_size = eqb→eq (length l.first) (2 * c.C) (and_l a b ab);
      second_size = eqb→eq (length l.second) (2 * c.C) (and_r a b ab);
      values_size = eqb→eq (length l.values) n (and_l v k vk);
      codes_size = eqb→eq (length l.codes) n (and_r v k vk);
    }

-- ---- which way the call goes
filter_done : (c : Settings) (b : Booked) (queries : List ℤ) (l : Lent) → filter_refusal c b queries l ≡ 0 → after_filter c b queries l ≡ filtered c b.table queries
unfolding after_filter
filter_done c b queries l e = rw (e, after_filter)

filter_refused : (c : Settings) (b : Booked) (queries : List ℤ) (l : Lent) (x : ℕ) → filter_refusal c b queries l ≡ x → (x ≡ 0 → ⊥) → after_filter c b queries l ≡ l
unfolding after_filter
filter_refused c b queries l zero e z = absurd (z refl)
filter_refused c b queries l (suc x) e z = rw (e, after_filter)

module _ (c : Settings) (b : Booked) (queries : List ℤ) (l : Lent) (x : ℕ) (e : x ≡ call_refusal c b (lengths_fit c queries l)) where
  abbrev t : Table
  t = b.table

  -- a number is told, and nothing is changed
  pub call_refused : (x ≡ 0 → ⊥) → Filters c b queries l x l.first l.second l.values l.codes
  call_refused z =
      let q = e ∙ same_refusal c b queries l in
      let s = sym (filter_refused c b queries l x (sym q) z) in
      record {
        number_is = q;
        first_is = ap (λ (l : Lent). l.first) s;
        second_is = ap (λ (l : Lent). l.second) s;
        values_are = ap (λ (l : Lent). l.values) s;
        codes_are = ap (λ (l : Lent). l.codes) s;
      }

  module _ (z : x ≡ 0) where
    open_to : Called c b (lengths_fit c queries l)
    open_to = called c b (lengths_fit c queries l) (sym e ∙ z)

    sound : Fine c t
    sound = open_to.fine.fine

    sizes : Lengths c queries l
    sizes = lengths c queries l open_to.whole

    -- what the blur asks,
    pub call_open : Sheets c t l.first l.second
    call_open = record { fine = sound; first_size = sizes.first_size; second_size = sizes.second_size }

    module _ {first second : List ℤ} (B : Blurred c t first second) where
      -- what the replies ask after it,
      pub call_answers : Answerable c (with_sums t first) queries l.values l.codes
      call_answers = record { smooth = rw B.first_is (smooth c t sound); values_size = sizes.values_size; codes_size = sizes.codes_size }

      -- and what both leave
      pub call_done : {answers : List ℤ} {codes : List ℕ} → RepliesAre c (with_sums t first) queries answers codes → Filters c b queries l 0 first second answers codes
      unfolding filtered
      call_done R =
          let q = e ∙ same_refusal c b queries l in
          let s = sym (filter_done c b queries l (sym q ∙ z)) in
          let n = query_count c.d (length queries) in
          let u = with_sums t (blurred_sheet c t) in
          record {
            number_is = sym z ∙ q;
            first_is = B.first_is ∙ ap (λ (l : Lent). l.first) s;
            second_is = B.second_is ∙ ap (λ (l : Lent). l.second) s;
            values_are = R.values_are
                ∙ ap (λ (l : List ℤ). tab n (λ j. value_by c (with_sums t l) (masses c (with_sums t l)) (values c (with_sums t l)) (query_at c.d queries j))) B.first_is
                ∙ tab_cong n (λ j. value_by c u (masses c u) (values c u) (query_at c.d queries j)) (λ j. answer c t (query_at c.d queries j)) (λ j _. value_same c t sound (query_at c.d queries j))
                ∙ ap (λ (l : Lent). l.values) s;
            codes_are = R.codes_are
                ∙ ap (λ (l : List ℤ). tab n (λ j. code_by c (with_sums t l) (masses c (with_sums t l)) (query_at c.d queries j))) B.first_is
                ∙ tab_cong n (λ j. code_by c u (masses c u) (query_at c.d queries j)) (λ j. code c t (query_at c.d queries j)) (λ j _. code_same c t sound (query_at c.d queries j))
                ∙ ap (λ (l : Lent). l.codes) s;
          }
