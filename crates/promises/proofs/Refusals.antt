-- Demand 2: for each call on tables, its number is k exactly when the condition of k holds and no earlier one does.
use mathlib.Core.Path.{◌≡◌, refl, sym, ap, ◌∙◌, subst}
use mathlib.Core.Logic.{◌↔◌}
use mathlib.Core.Bool.{Bool, true, false, not, ◌&&◌}
use mathlib.Core.List.{List, ◌++◌}
use Prim.Native.Nat.{ℕ, suc, ◌+◌, ◌*◌, ◌/◌, ◌%◌, ◌≤◌, ◌<◌}
use native.Mathlib.Nat.{div-add-mod, mul-mod_right, mul-div_right}
use native.Mathlib.Omega.{arith}
use lib.IntN.{ℤ, pos, nat_abs}
use lib.ListN.{length, take}
use lib.Dec.{T, eqb, eqb→eq, leb}
use Rattle.whole.specs.Sum.{sum}
use Rattle.whole.specs.Lists.{at}
use Rattle.whole.proofs.Size.{abs_of, of_abs, size_zero}
use Rattle.whole.proofs.Tests.{and_l, and_r, and_i, all_at, T_true, T_false, some_false}
use Rattle.lattice.specs.Limits.{farthest, most_value, most_readings}
use Rattle.lattice.specs.Refusals.{settings_out_of_range, other_length, not_sound, coordinate_beyond, sum_not_zero}
use Rattle.lattice.specs.Position.{Position, all_near, sums_to_zero, position_tests, Judged}
use Rattle.lattice.proofs.Judging.{judged_four, judged_five, judged_none, sum_zero, judged_right}
use Rattle.table.specs.Table.{Settings, Table, Row, rows, keys_of}
use Rattle.table.specs.Sound.{sound, Ranged, Shape, Fine}
use Rattle.table.specs.Pour.{news}
use Rattle.table.specs.Reading.{Reading, shares}
use Rattle.table.specs.Calls.{ranged, fits}
use Rattle.table.proofs.Soundness.{to_ranged, of_ranged, to_shape, of_shape, to_sound, of_sound}
use Rattle.table.proofs.Refusals.{T_of}
use Rattle.book.specs.Book.{Numbered, Booked, number_at, sound_with_book, book_sound}
use Rattle.book.specs.Numbers.{holds_number, none_met}
use Rattle.book.specs.Calls.{one_more, in_range, all_fit, fresh_refusal, call_tests, call_refusal, refusal, entered, enter_all, enter_refusal, parsed, enter, each_tests, merge_refusal, withdraw_refusal}
use Rattle.book.specs.Theorems.{FineBook}
use Rattle.book.proofs.Testing.{among_at, at_among, to_carries, of_carries}
use Rattle.book.proofs.Answering.{enter_done}
use Rattle.book.proofs.Entering.{enter_yes, enter_ind}
use Rattle.listing.specs.Listing.{list_refusal}
use Rattle.filter.specs.Filter.{Lent, lent_fits, filter_refusal}
use Rattle.filter.proofs.Theorems.{coded_right, never_eleven}
use Rattle.promises.specs.Refusals.{Not, WholeItems, InRange, Lengths, SoundBook, FreshRefuses, CallRefuses, EnterLengths, ListLengths, FilterLengths, Held, Met, WithdrawRefuses, MergeRefuses, Fair, ReadingRefused, EnterStops, RefusalsExact}
use Rattle.promises.proofs.Firsts.{Tells, tells, tells_same, tells_most, tells_both, tells_not, retold, Gives, given, stops, goes, goes_on, ends, as_one, reworded, flat_three, flat_four, flat_five}

-- ---- the tests of settings and tables
tells_ranged : (c : Settings) → Tells (ranged c) (Ranged c) (Not (Ranged c))
tells_ranged c = tells (to_ranged c) (of_ranged c)

tells_shape : (c : Settings) (t : Table) → Tells (fits c t) (Shape c t) (Not (Shape c t))
tells_shape c t = tells (to_shape c t) (of_shape c t)

tells_range : (c : Settings) (b : Booked) → Tells (in_range c b) (InRange c b) (Not (InRange c b))
tells_range c b = retold (tells_both (tells_ranged c) (tells_both (tells_most 1 b.room) (tells_most b.room most_readings))) (
  λ p. record { ranged = p.0; least = p.1.0; most = p.1.1 },
  λ r. (r.ranged, (r.least, r.most)),
)

tells_lengths : (c : Settings) (b : Booked) → Tells (all_fit c b) (Lengths c b) (Not (Lengths c b))
tells_lengths c b = retold (tells_both (tells_shape c b.table) (tells_same (length b.book) ((c.d + 3) * b.room))) (
  λ p. record { shape = p.0; book = p.1 },
  λ l. (l.shape, l.book),
)

-- the book's tests say what they should of a table that passes those before
tells_sound : (c : Settings) (b : Booked) → InRange c b → Lengths c b → Tells (sound_with_book c b) (SoundBook c b) (Not (SoundBook c b))
tells_sound c b R L = tells
    (λ h.
    let s = to_sound c b.table (and_l (sound c b.table) (book_sound c b) h) in
    let K = to_carries c b (record { ranged = R.ranged; shape = L.shape; sound = s }) (and_r (sound c b.table) (book_sound c b) h) in
    record { sound = s; few = K.0; carries = K.1 })
    (λ s. and_i (sound c b.table) (book_sound c b) (of_sound c b.table s.sound)
    (of_carries c b (record { ranged = R.ranged; shape = L.shape; sound = s.sound }) s.few s.carries))

-- all three are what the calls are proved from
pub fine_parts : (c : Settings) (b : Booked) → FineBook c b ↔ (InRange c b × Lengths c b × SoundBook c b)
fine_parts c b = (
  λ F. let K = to_carries c b F.fine F.sound in (
    record { ranged = F.fine.ranged; least = F.room_least; most = F.room_most },
    record { shape = F.fine.shape; book = F.lengths },
    record { sound = F.fine.sound; few = K.0; carries = K.1 },
  ),
  λ p. let F : Fine c b.table = record { ranged = p.0.ranged; shape = p.1.shape; sound = p.2.sound } in record {
    fine = F;
    room_least = p.0.least;
    room_most = p.0.most;
    lengths = p.1.book;
    sound = of_carries c b F p.2.few p.2.carries;
  },
)

-- ---- numbers held
tells_held : (c : Settings) (b : Booked) (k : ℤ) → Tells (holds_number c b k) (Held c b k) (Not (Held c b k))
tells_held c b k = let f = number_at c.d b.book in tells (among_at b.table.n f k) (λ h. at_among b.table.n f k h.0 h.1 h.2)

tells_none_met : (c : Settings) (b s : Booked) → Tells (none_met c b s) (Not (Met c b s)) (Met c b s)
tells_none_met c b s = record {
  pass = λ h m. (tells_not (tells_held c b (number m.0))).pass (all_at s.table.n new h m.0 m.1) m.2;
  fail = λ h. let (j, l, e) = some_false s.table.n new (T_false (none_met c b s) h) in (j, l, (tells_not (tells_held c b (number j))).fail (λ t. subst T e t));
  apart = λ n m. n m;
}
  where
    number : ℕ → ℤ
    number = number_at c.d s.book

    new : ℕ → Bool
    new j = not (holds_number c b (number j))

-- ---- the points of these rows
tells_room : (c : Settings) (t : Table) (rs : List Row) → Tells (leb (t.m + news c t (keys_of rs)) c.C) (t.m + news c t (keys_of rs) ≤ c.C) (c.C < t.m + news c t (keys_of rs))
tells_room c t rs = tells_most (t.m + news c t (keys_of rs)) c.C

-- ---- fresh
fresh_refuses : (c : Settings) (b : Booked) → FreshRefuses c b
unfolding fresh_refusal
fresh_refuses c b = record {
  one = given _ (stops (tells_range c b) tt);
  two = given _ (goes (tells_range c b) tt (stops (tells_lengths c b) tt));
  none = given _ (goes (tells_range c b) tt (ends (tells_lengths c b)));
}

-- ---- enter, list and filter: 1, 2, 3, where the test of number 2 tells of the lengths, those of the four slices among them
call_refuses : (c : Settings) (b : Booked) (more : Bool) {All-lengths : Type 0} → Tells (all_fit c b && more) All-lengths (Not All-lengths) → (All-lengths → Lengths c b)
    → CallRefuses c b All-lengths (call_refusal c b more)
unfolding call_refusal
call_refuses c b more A four = record {
  one = given _ (stops (tells_range c b) tt);
  two = given _ (goes (tells_range c b) tt (stops A tt));
  three = given _ (flat_three (goes_on (tells_range c b) tt (λ R. goes_on A tt (λ l. stops (tells_sound c b R (four l)) tt))));
  none = given _ (flat_three (goes_on (tells_range c b) tt (λ R. goes_on A tt (λ l. ends (tells_sound c b R (four l))))));
}

-- whole items leave no remainder, and the quotient counts them
quotient_whole : (n width : ℕ) → n % width ≡ 0 → n ≡ width * (n / width)
quotient_whole n width e = omega (arith, div-add-mod n width)

whole_quotient : (n width k : ℕ) → n ≡ width * k → n % width ≡ 0
whole_quotient n width k e = ap (λ (n : ℕ). n % width) e ∙ mul-mod_right width k

whole_count : (n d k : ℕ) → n ≡ suc d * k → k ≡ n / suc d
whole_count n d k e = sym (ap (λ (n : ℕ). n / suc d) e ∙ mul-div_right k (omega arith))

tells_whole : (width : ℕ) (l : List ℤ) → Tells (eqb (length l % width) 0) (WholeItems width l) (Not (WholeItems width l))
tells_whole width l = retold (tells_same (length l % width) 0) (λ e. (length l / width, quotient_whole (length l) width e), λ w. whole_quotient (length l) width w.0 w.1)

enter_refuses : (c : Settings) (b : Booked) (l : List ℤ) → CallRefuses c b (EnterLengths c b l) (enter_refusal c b l)
enter_refuses c b l = call_refuses c b _ (tells_both (tells_lengths c b) (tells_whole (c.d + 3) l)) (λ p. p.0)

list_refuses : (c : Settings) (b : Booked) (l : List ℕ) → CallRefuses c b (ListLengths c b l) (list_refusal c b l)
list_refuses c b l = call_refuses c b _ (tells_both (tells_lengths c b) (tells_same (length l) c.C)) (λ p. p.0)

filter_refuses : (c : Settings) (b : Booked) (queries : List ℤ) (l : Lent) → CallRefuses c b (FilterLengths c b queries l) (filter_refusal c b queries l)
unfolding lent_fits
filter_refuses c b queries l = call_refuses c b _ (retold
    (tells_both (tells_lengths c b) (tells_both (tells_both (tells_both (tells_same _ _) (tells_same _ _)) (tells_same _ _)) (tells_both (tells_same _ _) (tells_same _ _)))) (
      λ p. let w = quotient_whole (length queries) (suc c.d) p.1.0.1 in record {
        lengths = p.0;
        first = p.1.0.0.0;
        second = p.1.0.0.1;
        values = w ∙ ap (λ (k : ℕ). suc c.d * k) (sym p.1.1.0);
        codes = w ∙ ap (λ (k : ℕ). suc c.d * k) (sym p.1.1.1);
      },
      λ f. (
        f.lengths,
        (
          ((f.first, f.second), whole_quotient (length queries) (suc c.d) (length l.values) f.values),
          (whole_count (length queries) c.d (length l.values) f.values, whole_count (length queries) c.d (length l.codes) f.codes),
        ),
      ),
    )) (λ f. f.lengths)

-- ---- withdraw
module _ (c : Settings) (b : Booked) (k : ℤ) where
  four_slices : Tells (all_fit c b && true) (Lengths c b) (Not (Lengths c b))
  four_slices = retold (tells_both (tells_lengths c b) (tells {b = true} {P = T true} (λ h. h) (λ h. h))) (λ p. p.0, λ l. (l, tt))

  -- past 1, 2 and 3 the table is fine with its book
  called_fine : {x : ℕ} {l : List (Bool × ℕ)} {B : Type 0} → T (not (eqb x settings_out_of_range)) → T (not (eqb x other_length)) → T (not (eqb x not_sound)) → Gives l x B
      → Gives (call_tests c b true ++ l) x (FineBook c b × B)
  called_fine n₁ n₂ n₃ h = reworded (goes_on (tells_range c b) n₁ (λ R. goes_on four_slices n₂ (λ L. goes (tells_sound c b R L) n₃ h))) (
    λ p. ((fine_parts c b).1 (p.0, p.1.0, p.1.1.0), p.1.1.1),
    λ p. let (R, L, S) = (fine_parts c b).0 p.0 in (R, (L, (S, p.1))),
  )

  withdraw_refuses : WithdrawRefuses c b k
  unfolding withdraw_refusal
  withdraw_refuses = record {
    one = given _ (stops (tells_range c b) tt);
    two = given _ (goes (tells_range c b) tt (stops four_slices tt));
    three = given _ (flat_three (goes_on (tells_range c b) tt (λ R. goes_on four_slices tt (λ L. stops (tells_sound c b R L) tt))));
    nineteen = given _ (called_fine tt tt tt (stops (tells_held c b k) tt));
    none = given _ (called_fine tt tt tt (ends (tells_held c b k)));
  }

-- ---- merge
module _ (c : Settings) (b : Booked) (e : Settings) (s : Booked) where
  both_ranged : Tells (in_range c b && in_range e s) (InRange c b × InRange e s) (Not (InRange c b × InRange e s))
  both_ranged = tells_both (tells_range c b) (tells_range e s)

  both_shaped : Tells (all_fit c b && all_fit e s) (Lengths c b × Lengths e s) (Not (Lengths c b × Lengths e s))
  both_shaped = tells_both (tells_lengths c b) (tells_lengths e s)

  both_sound : InRange c b × InRange e s → Lengths c b × Lengths e s → Tells (sound_with_book c b && sound_with_book e s) (SoundBook c b × SoundBook e s) (Not (SoundBook c b × SoundBook e s))
  both_sound R L = tells_both (tells_sound c b R.0 L.0) (tells_sound e s R.1 L.1)

  same_settings : Tells (eqb c.d e.d && eqb c.S e.S) ((c.d ≡ e.d) × (c.S ≡ e.S)) (Not ((c.d ≡ e.d) × (c.S ≡ e.S)))
  same_settings = tells_both (tells_same c.d e.d) (tells_same c.S e.S)

  -- past 1, 2 and 3 both tables are fine with their books
  both_fine : {x : ℕ} {l : List (Bool × ℕ)} {B : Type 0} → T (not (eqb x settings_out_of_range)) → T (not (eqb x other_length)) → T (not (eqb x not_sound)) → Gives l x B
      → Gives (each_tests c b e s ++ l) x ((FineBook c b × FineBook e s) × B)
  both_fine n₁ n₂ n₃ h = reworded (as_one (goes_on both_ranged n₁ (λ R. as_one (goes_on both_shaped n₂ (λ L. as_one (goes (both_sound R L) n₃ h)))))) (
    λ p. (((fine_parts c b).1 (p.0.0, p.1.0.0, p.1.1.0.0), (fine_parts e s).1 (p.0.1, p.1.0.1, p.1.1.0.1)), p.1.1.1),
    λ p. let (R, L, S) = (fine_parts c b).0 p.0.0 in let (R', L', S') = (fine_parts e s).0 p.0.1 in ((R, R'), ((L, L'), ((S, S'), p.1))),
  )

  few_readings : Tells (leb (b.table.n + s.table.n) b.room) (b.table.n + s.table.n ≤ b.room) (b.room < b.table.n + s.table.n)
  few_readings = tells_most (b.table.n + s.table.n) b.room

  merge_refuses : MergeRefuses c b e s
  unfolding merge_refusal
  merge_refuses = record {
    one = given _ (as_one (stops both_ranged tt));
    two = given _ (as_one (goes both_ranged tt (as_one (stops both_shaped tt))));
    three = given _ (flat_three (as_one (goes_on both_ranged tt (λ R. as_one (goes_on both_shaped tt (λ L. as_one (stops (both_sound R L) tt)))))));
    nine = given _ (both_fine tt tt tt (stops same_settings tt));
    twenty = given _ (flat_three (both_fine tt tt tt (goes same_settings tt (stops none_met_lem tt))));
    seven = given _ (flat_four (both_fine tt tt tt (flat_three (goes same_settings tt (goes none_met_lem tt (stops few_readings tt))))));
    eight = given _ (flat_five (both_fine tt tt tt (flat_four (goes same_settings tt (flat_three (goes none_met_lem tt (goes few_readings tt (stops room tt))))))));
    none = given _ (flat_five (both_fine tt tt tt (flat_four (goes same_settings tt (flat_three (goes none_met_lem tt (goes few_readings tt (ends room))))))));
  }
    where
      none_met_lem : Tells (none_met c b s) (Not (Met c b s)) (Met c b s)
      none_met_lem = tells_none_met c b s

      room : Tells (leb (b.table.m + news c b.table (keys_of (rows e s.table))) c.C) (b.table.m + news c b.table (keys_of (rows e s.table)) ≤ c.C)
          (c.C < b.table.m + news c b.table (keys_of (rows e s.table)))
      room = tells_room c b.table (rows e s.table)

-- ---- a reading
module _ (c : Settings) (b : Booked) (e : Numbered) (size : length e.reading.position ≡ suc c.d) where
  abbrev r : Reading
  r = e.reading

  J : Judged c.d r.position
  J = judged_right c.d r.position size

  abbrev AllNear : Type 0
  AllNear = (i : ℕ) → i < suc c.d → nat_abs (at r.position i) ≤ farthest

  tells_near : Tells (all_near r.position) AllNear ((i : ℕ) × (i < suc c.d) × (farthest < nat_abs (at r.position i)))
  tells_near = record {
    pass = λ h. go (sums_to_zero r.position) refl (T_true (all_near r.position) h);
    fail = λ n. J.four.0 (judged_four r.position (T_false (all_near r.position) n));
    apart = λ h f. omega (arith, h f.0 f.1, f.2);
  }
    where
      go : (b : Bool) → sums_to_zero r.position ≡ b → all_near r.position ≡ true → AllNear
      go true k e = λ i l. of_abs (at r.position i) farthest ((J.none.0 (judged_none r.position e k)).near i l)
      go false k e = (J.five.0 (judged_five r.position e k)).0

  sum_same : sum (suc c.d) (at r.position) ≡ sum (length r.position) (at r.position)
  sum_same = ap (λ (n : ℕ). sum n (at r.position)) (sym size)

  tells_zero : Tells (sums_to_zero r.position) (sum (suc c.d) (at r.position) ≡ pos 0) (Not (sum (suc c.d) (at r.position) ≡ pos 0))
  unfolding sums_to_zero
  tells_zero = tells (λ h. sum_same ∙ size_zero (sum (length r.position) (at r.position)) (eqb→eq _ 0 h)) (λ e. T_of (sum_zero r.position (sym sum_same ∙ e)))

  -- past 4 and 5 it is a position
  at_position : {x : ℕ} {l : List (Bool × ℕ)} {B : Type 0} → T (not (eqb x coordinate_beyond)) → T (not (eqb x sum_not_zero)) → Gives l x B
      → Gives (position_tests r.position ++ l) x (Position c.d r.position × B)
  at_position n₄ n₅ h = reworded (goes tells_near n₄ (goes tells_zero n₅ h)) (
    λ p. (record { size = size; near = λ i l. abs_of (at r.position i) farthest (p.0 i l); zero_sum = p.1.0 }, p.1.1),
    λ p. (λ i l. of_abs (at r.position i) farthest (p.0.near i l), (p.0.zero_sum, p.1)),
  )

  reading_refused : ReadingRefused c b e
  unfolding refusal
  reading_refused = record {
    four = given _ (stops tells_near tt);
    five = given _ (goes tells_near tt (stops tells_zero tt));
    six = given _ (at_position tt tt (stops fair tt));
    twenty = given _ (flat_three (at_position tt tt (goes fair tt (stops new tt))));
    seven = given _ (flat_four (at_position tt tt (flat_three (goes fair tt (goes new tt (stops few tt))))));
    eight = given _ (flat_five (at_position tt tt (flat_four (goes fair tt (flat_three (goes new tt (goes few tt (stops room tt))))))));
    none = given _ (flat_five (at_position tt tt (flat_four (goes fair tt (flat_three (goes new tt (goes few tt (ends room))))))));
  }
    where
      fair : Tells (leb (nat_abs r.value) most_value) (Fair r) (Not (Fair r))
      fair = retold (tells_most (nat_abs r.value) most_value) (λ h. h, λ h. h)

      new : Tells (not (holds_number c b e.number)) (Not (Held c b e.number)) (Held c b e.number)
      new = tells_not (tells_held c b e.number)

      few : Tells (leb (b.table.n + 1) b.room) (b.table.n + 1 ≤ b.room) (b.room < b.table.n + 1)
      few = tells_most (b.table.n + 1) b.room

      room : Tells (leb (b.table.m + news c b.table (keys_of (shares c.d c.S r))) c.C) (b.table.m + news c b.table (keys_of (shares c.d c.S r)) ≤ c.C)
          (c.C < b.table.m + news c b.table (keys_of (shares c.d c.S r)))
      room = tells_room c b.table (shares c.d c.S r)

-- ---- a list of readings
pub enter_all_stops : (c : Settings) (es : List Numbered) (b : Booked) → EnterStops c b es (enter_all c b es)
unfolding enter_all
enter_all_stops c = enter_ind c (EnterStops c)
    (λ b. record { few = omega arith; those_taken = refl; all_taken = (λ e. refl, λ e. refl); stopped = λ z l. absurd (omega arith) })
    (λ b e es x q. record {
      few = omega arith;
      those_taken = refl;
      all_taken = (λ z. absurd (omega arith), λ z. absurd (omega arith));
      stopped = λ z l. sym q;
    })
    (λ b e es q ih. record {
      few = omega (arith, ih.few);
      those_taken = enter_yes c b e (take (enter_all c (entered c b e) es).taken es) q ∙ ap one_more ih.those_taken;
      all_taken = (λ z. ap suc (ih.all_taken.0 z), λ z. ih.all_taken.1 (omega arith));
      stopped = λ z l. ih.stopped z (omega arith);
    })

enter_stops : (c : Settings) (b : Booked) (l : List ℤ) → enter_refusal c b l ≡ 0 → EnterStops c b (parsed c.d l) (enter c b l)
enter_stops c b l e = subst (EnterStops c b (parsed c.d l)) (sym (enter_done c b l e)) (enter_all_stops c (parsed c.d l) b)

-- ---- all of these
pub refusals_exact : RefusalsExact
refusals_exact = record {
  fresh_call = fresh_refuses;
  enter_call = enter_refuses;
  enter_stops = enter_stops;
  reading = reading_refused;
  merge_call = merge_refuses;
  withdraw_call = withdraw_refuses;
  list_call = list_refuses;
  filter_call = filter_refuses;
  query = λ c t U q size. record { coded = coded_right c t U q size; never_eleven = never_eleven c t U q };
}
