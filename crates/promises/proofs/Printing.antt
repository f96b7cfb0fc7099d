-- Printed lines where the order of readings does not matter: those of the points are told by the sorted listing, those of the answers by the queries.
use mathlib.Core.Path.{◌≡◌, refl, sym, ap, ap₂, subst, fun_ext, ◌∙◌}
use mathlib.Core.HLevel.{hedberg}
use mathlib.Core.Logic.{∥∥₁_elim}
use mathlib.Core.List.{List, [], ◌∷◌, ◌++◌, flat_map, Perm, Permᴰ}
use Prim.Native.Nat.{ℕ, ◌+◌, ◌*◌, ◌≤◌}
use native.Mathlib.Decide.{ℕ_discrete}
use native.Mathlib.Omega.{arith}
use lib.Dec.{leb}
use lib.IntN.{ℤ, pos}
use lib.ListN.{get_or, length-map, length-replicate}
use Rattle.whole.specs.Lists.{collect}
use Rattle.whole.proofs.Lists.{collect_cong}
use Rattle.lattice.specs.Refusals.{program_limit}
use Rattle.table.specs.Table.{Settings, Table, Row, row, whole}
use Rattle.table.specs.Reading.{Reading, Lawful}
use Rattle.table.specs.Calls.{ranged}
use Rattle.table.proofs.Soundness.{to_ranged}
use Rattle.table.proofs.Refusals.{first_zero}
use Rattle.table.proofs.Keeping.{fresh_fine}
use Rattle.book.specs.Book.{Numbered, readings_of}
use Rattle.book.specs.Calls.{fresh_booked}
use Rattle.listing.specs.Listing.{order, listed}
use Rattle.listing.proofs.Rising.{all_perm, perm_length}
use Rattle.listing.proofs.Listings.{order_length}
use Rattle.filter.specs.Answer.{code, answer}
use Rattle.reader.specs.Items.{settings_of, item_at, number_of}
use Rattle.reader.specs.Content.{Said, reads, asks, refuses}
use Rattle.reader.specs.Walk as log
use Rattle.load.specs.Loading.{start_refusal, load}
use Rattle.load.specs.Numbering.{numbering}
use Rattle.load.proofs.Among.{numbering_readings}
use Rattle.load.proofs.Leaving.{either_zero, start_zero}
use Rattle.reader.specs.Walk.{items}
use Rattle.text.specs.Text.{line}
use Rattle.report.specs.Report.{most_log_capacity, book_room, settings_refusal, point_word, head_line, point_line, point_lines, answer_line, answer_lines, query_text, per_query, table_text}
use Rattle.promises.specs.History.{loading, capacity, run, readings}
use Rattle.promises.specs.Order.{Same}
use Rattle.promises.specs.Acceptance.{FitInto, FitBook}
use Rattle.promises.specs.LogRefusals.{memory}
use Rattle.promises.specs.Printing.{Printed, Formed, readings_of_log, PrintedTheSame}
use Rattle.promises.proofs.Program.{taken_whole}
use Rattle.promises.proofs.Rooms.{fresh_room}
use Rattle.promises.proofs.Sorted.{map_at}
use Rattle.promises.proofs.Listed.{listed_perm}
use Rattle.promises.proofs.Order.{order_does_not_matter}
use Rattle.promises.proofs.Refusals.{refusals_exact}
use Rattle.promises.proofs.Taking.{taken_exactly}

-- ---- the lines of points
abbrev row_line : Row → List ℕ
row_line r = line point_word (whole r.key ++ (r.mass ∷ r.value ∷ []))

-- of so many rows, in their order
abbrev row_lines : ℕ → List Row → List ℕ
row_lines n rs = collect n (λ j. row_line (get_or rs j (record { key = []; mass = pos 0; value = pos 0 })))

points_of_listing : (c : Settings) (t : Table) → point_lines c t ≡ row_lines t.m (listed c t)
unfolding point_lines listed
points_of_listing c t = collect_cong t.m (λ j. point_line c t (get_or (order c t) j 0)) _ (λ j h.
    ap row_line (sym (map_at (row c t) (order c t) j 0 _ (omega (arith, h, order_length c t)))))

-- ---- the lines of answers
lines_of_one : (f : List ℤ → List ℕ) (s : Said) (qs : List (List ℤ)) → query_text f s ++ flat_map f qs ≡ flat_map f (log.queries_in s ++ qs)
unfolding flat_map
lines_of_one f (reads r) qs = refl
lines_of_one f (asks q) qs = refl
lines_of_one f (refuses x) qs = refl

lines_of_queries : (f : List ℤ → List ℕ) (w : log.Walk) → per_query f w ≡ flat_map f (log.queries w)
unfolding per_query log.queries flat_map
lines_of_queries f (log.then a s w) = ap (λ (x : List ℕ). query_text f s ++ x) (lines_of_queries f w) ∙ lines_of_one f s (log.queries w)
lines_of_queries f (log.ends x a) = refl

-- ---- tables that answer alike, of one d and S, with the same queries
module _ (c : Settings) (t : Table) (b : Settings) (s : Table) (dim : c.d ≡ b.d) (fine : c.S ≡ b.S) (E : Same c t b s) where
  head_same : head_line c t ≡ head_line b s
  head_same = rw (dim, fine, E.same_readings, E.same_points) refl

  points_same : point_lines c t ≡ point_lines b s
  points_same = points_of_listing c t ∙ ap₂ row_lines E.same_points E.same_listing ∙ sym (points_of_listing b s)

  line_same : (q : List ℤ) → answer_line (answer c t q) (code c t q) ≡ answer_line (answer b s q) (code b s q)
  line_same q = ap₂ answer_line (E.same_answers q).same_value (E.same_answers q).same_code

  answers_same : (v w : log.Walk) → log.queries v ≡ log.queries w → answer_lines c t v ≡ answer_lines b s w
  answers_same v w e = lines_of_queries _ v ∙ ap₂ flat_map (fun_ext line_same) e ∙ sym (lines_of_queries _ w)

  text_same : (l m : List ℕ) → log.queries (items l) ≡ log.queries (items m) → table_text c t l ≡ table_text b s m
  text_same l m e = ap₂ ◌++◌ head_same (ap₂ ◌++◌ points_same (answers_same (items l) (items m) e))

-- ---- two logs, loaded
abbrev table_in : List ℕ → Table
table_in l = (load l (memory l)).booked.table

-- their readings have their numbers in whatever way
readings_same : (l m : List ℕ) → Perm (readings_of_log l) (readings_of_log m) → Perm (readings_of (numbering [] (log.readings (items l)))) (readings_of (numbering [] (log.readings (items m))))
readings_same l m p = rw (numbering_readings [] (log.readings (items l)), numbering_readings [] (log.readings (items m))) p

tables_same : (l m : List ℕ) → Printed l → Printed m → (settings_of l).d ≡ (settings_of m).d → (settings_of l).S ≡ (settings_of m).S
    → Perm (readings_of_log l) (readings_of_log m) → Same (settings_of l) (table_in l) (settings_of m) (table_in m)
unfolding capacity run readings
tables_same l m P Q dim fine p =
    let c = settings_of l in
    let b = settings_of m in
    let b_is : record { d = c.d; S = c.S; C = b.C } ≡ b = λ j. record { d = dim j; S = fine j; C = b.C } in
    subst (λ (b : Settings). Same c (table_in l) b (table_in m)) b_is
    (order_does_not_matter c.d c.S (loading l (memory l)) (loading m (memory m)) (refl, refl, P.taken) (sym dim, sym fine, Q.taken) (readings_same l m p))

-- ---- a log in form is not refused where another one of the same readings is not
settings_accepted : (l : List ℕ) → settings_refusal l ≡ 0 → start_refusal l (memory l) ≡ 0
unfolding settings_refusal fresh_booked
settings_accepted l e =
    let c = settings_of l in
    let (form, limits) = either_zero (number_of (item_at l 0)) _ e in
    let G = to_ranged c (first_zero (ranged c) 0 ((leb c.C most_log_capacity, program_limit) ∷ []) limits).0 in
    rw form ((refusals_exact.fresh_call c (memory l)).none.1 (
      record { ranged = G; least = omega arith; most = omega arith },
      record { shape = (fresh_fine c G).shape; book = length-replicate ((c.d + 3) * book_room) (pos 0) },
    ))

-- readings that fit fit in any order, also where there is more room
fit_perm : (d S C K : ℕ) (rs qs : List Reading) → C ≤ K → Perm rs qs → Permᴰ rs qs → FitInto d S C rs → FitInto d S K qs
fit_perm d S C K rs qs h p q F = record {
  each = all_perm (Lawful d) q F.each;
  few = omega (arith, F.few, perm_length q);
  listing = F.listing;
  theirs = listed_perm d S rs qs p F.listing F.theirs;
  room = omega (arith, h, F.room);
}

module _ (l m : List ℕ) (P : Printed l) (Q : Formed m) (dim : (settings_of l).d ≡ (settings_of m).d) (fine : (settings_of l).S ≡ (settings_of m).S) (wide : (settings_of l).C ≤ (settings_of m).C) where
  abbrev entries_in : List ℕ → List Numbered
  entries_in l = numbering [] (log.readings (items l))

  fits_here : FitBook (settings_of l).d (settings_of l).S (settings_of l).C (memory l).room (entries_in l)
  fits_here = ((taken_exactly.log_taken l (memory l) (start_zero l (memory l) P.taken)).0 P.taken).1

  rooms : (memory l).room ≡ (memory m).room
  rooms = fresh_room (settings_of l) book_room ∙ sym (fresh_room (settings_of m) book_room)

  fits_there : Perm (readings_of (entries_in l)) (readings_of (entries_in m)) → Permᴰ (readings_of (entries_in l)) (readings_of (entries_in m))
      → FitBook (settings_of m).d (settings_of m).S (settings_of m).C (memory m).room (entries_in m)
  fits_there p q = record {
    fit = subst (λ (d : ℕ). FitInto d (settings_of m).S (settings_of m).C (readings_of (entries_in m))) dim
        (subst (λ (S : ℕ). FitInto (settings_of l).d S (settings_of m).C (readings_of (entries_in m))) fine
        (fit_perm (settings_of l).d (settings_of l).S (settings_of l).C (settings_of m).C (readings_of (entries_in l)) (readings_of (entries_in m)) wide p q fits_here.fit));
    few = omega (arith, fits_here.few, rooms, perm_length q, length-map (entries_in l) (λ (e : Numbered). e.reading), length-map (entries_in m) (λ (e : Numbered). e.reading));
    apart = Q.apart;
  }

  taken_too : Perm (readings_of_log l) (readings_of_log m) → (load m (memory m)).number ≡ 0
  taken_too r =
      let p = readings_same l m r in
      ∥∥₁_elim p (hedberg ℕ_discrete (load m (memory m)).number 0) (λ q.
      (taken_exactly.log_taken m (memory m) (settings_accepted m Q.settled)).1 (Q.in_form, fits_there p q))

pub printed_the_same : PrintedTheSame
printed_the_same l m P Q dim fine wide p q =
    let R : Printed m = record { short = Q.short; settled = Q.settled; taken = taken_too l m P Q dim fine wide p } in (
      R,
      taken_whole l P.short P.settled P.taken
          ∙ text_same (settings_of l) (table_in l) (settings_of m) (table_in m) dim fine (tables_same l m P R dim fine p) l m q
          ∙ sym (taken_whole m R.short R.settled R.taken),
    )
