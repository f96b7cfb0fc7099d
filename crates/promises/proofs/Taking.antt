-- Lists, tables and logs are taken whole exactly where their readings fit; so it is with whole histories, in any order.
use mathlib.Core.Path.{◌≡◌, refl, sym, ap, ◌∙◌, subst}
use mathlib.Core.Logic.{∥∥₁_elim}
use mathlib.Core.HLevel.{×_prop, ×₃_prop, hedberg}
use mathlib.Core.List.{List, [], ◌++◌}
use Prim.Native.Nat.{ℕ, zero, suc, ◌+◌, ◌≤◌}
use native.Mathlib.Decide.{ℕ_discrete}
use native.Mathlib.Omega.{arith}
use lib.IntN.{ℤ}
use Rattle.table.specs.Table.{Settings}
use Rattle.book.specs.Book.{Numbered, Booked}
use Rattle.book.specs.Calls.{Outcome, fresh_booked, refusal, parsed, enter_all, enter_refusal, enter}
use Rattle.book.specs.Theorems.{FineBook, Holds}
use Rattle.book.proofs.Testing.{to_carries}
use Rattle.book.proofs.Answering.{enter_done}
use Rattle.book.proofs.Entering.{parsed_size}
use Rattle.reader.specs.Items.{after_settings, settings_of}
use Rattle.reader.specs.Content.{Brought, Said, reads, asks, refuses}
use Rattle.reader.specs.Walk as log
use Rattle.reader.specs.Walk.{Walk, then, ends, items}
use Rattle.load.specs.Loading.{Load, start_refusal, entry_for, take_number, take_booked, load_walk, load}
use Rattle.load.specs.Numbering.{numbering}
use Rattle.load.proofs.Among.{enter_none}
use Rattle.load.proofs.Leaving.{SizedWalk, walk_sized, said_fine, load_accepted}
use Rattle.load.proofs.WholeLogs.{enter_numbered, enter_afresh, accepted, load_yes, enter_said, entered_all}
use Rattle.promises.specs.History.{History, starting, entering, merging, offering, withdrawing, loading, capacity, room, settings_in, run, Begun, taken, NoneRefused, readings}
use Rattle.promises.specs.Refusals.{WholeItems}
use Rattle.promises.specs.Acceptance.{FitBook, SaidInForm, ItemsInForm, TakenExactly, InForm, Roomy, AcceptedInAnyOrder}
use Rattle.promises.proofs.Refusals.{refusals_exact}
use Rattle.promises.proofs.LogReadings.{log_read}
use Rattle.promises.proofs.Building.{held_carries}
use Rattle.promises.proofs.Histories.{book_is_taken, all_taken}
use Rattle.promises.proofs.Rooms.{fresh_room, room_is}
use Rattle.promises.proofs.Fitting.{held_fits, CoversBook, fits_book, book_first, book_second, book_more, book_perm, covered_taken, taken_fits, merged_fits, covered_merged, taken_back}

-- ---- a list of readings
module _ (c : Settings) (b : Booked) (fs : List Numbered) (l : List ℤ) (H : Holds c b fs) (whole : WholeItems (c.d + 3) l) where
  not_refused : enter_refusal c b l ≡ 0
  not_refused = let F = H.fine_book in (refusals_exact.enter_call c b l).none.1 (
    record { ranged = F.fine.ranged; least = F.room_least; most = F.room_most },
    (record { shape = F.fine.shape; book = F.lengths }, whole),
    record { sound = F.fine.sound; few = (to_carries c b F.fine F.sound).0; carries = held_carries c b F },
  )

  entered_whole : enter c b l ≡ enter_all c b (parsed c.d l)
  entered_whole = enter_done c b l not_refused

  covered_list : CoversBook c.d c.S c.C b.room (fs ++ parsed c.d l) → (enter c b l).number ≡ 0
  covered_list O = ap (λ (o : Outcome). o.number) entered_whole ∙ covered_taken c (parsed c.d l) b fs (parsed_size c.d l) H O

  list_fits : (enter c b l).number ≡ 0 → FitBook c.d c.S c.C b.room (fs ++ parsed c.d l)
  list_fits e = taken_fits c (parsed c.d l) b fs (parsed_size c.d l) H (ap (λ (o : Outcome). o.number) (sym entered_whole) ∙ e)

-- ---- the items of a log
module _ (c : Settings) where
  in_form : (w : Walk) (b : Booked) → (load_walk c b w).number ≡ 0 → ItemsInForm w
  unfolding load_walk
  in_form (then a s w) b e =
      let q = accepted c b a s w e in
      (said s q, in_form w (take_booked c b s) (ap (λ (o : Load). o.number) (sym (load_yes c b a s w q)) ∙ e))
    where
      said : (s : Said) → take_number c b s ≡ 0 → SaidInForm s
      said (reads r) q = tt
      said (asks x) q = tt
      said (refuses x) q = q
  in_form (ends x a) b e = e

  -- an item in form, whose reading is taken if it says one
  said_taken : (s : Said) (b : Booked) (rs : List Brought) → SaidInForm s → (enter_numbered c b (log.readings_in s ++ rs)).number ≡ 0 → take_number c b s ≡ 0
  said_taken (reads r) b rs f e = go (refusal c b (entry_for c b r)) refl
    where
      go : (x : ℕ) → refusal c b (entry_for c b r) ≡ x → x ≡ 0
      go zero q = refl
      go (suc x) q = ap (λ (o : Outcome). o.number) (sym (enter_none c b r rs x q)) ∙ e
  said_taken (asks q) b rs f e = refl
  said_taken (refuses x) b rs f e = f

  all_loaded : (w : Walk) (b : Booked) → SizedWalk c.d w → FineBook c b → ItemsInForm w → (enter_numbered c b (log.readings w)).number ≡ 0 → (load_walk c b w).number ≡ 0
  unfolding load_walk log.readings
  all_loaded (then a s w) b z F (f, fs) e =
      let q = said_taken s b (log.readings w) f e in
      ap (λ (o : Load). o.number) (load_yes c b a s w q)
      ∙ all_loaded w (take_booked c b s) z.1 (said_fine c b s z.0 F q) fs (sym (enter_said c b s (log.readings w) z.0 F q).0 ∙ e)
  all_loaded (ends x a) b z F f e = f

-- ---- a log
module _ (l : List ℕ) (b : Booked) (e : start_refusal l b ≡ 0) where
  abbrev c : Settings
  c = settings_of l

  abbrev start : Booked
  start = fresh_booked c b.room

  abbrev theirs : List Numbered
  theirs = numbering [] (log.readings (items l))

  made : Holds c start []
  made = (load_accepted l b e).made

  afresh : enter_numbered c start (log.readings (items l)) ≡ enter_all c start theirs
  afresh = enter_afresh c start (log.readings (items l)) made.holds

  log_fits : (load l b).number ≡ 0 → ItemsInForm (items l) × FitBook c.d c.S c.C b.room theirs
  log_fits q =
      let n : (load_walk c start (items l)).number ≡ 0 = ap (λ (o : Load). o.number) (sym (load_accepted l b e).is) ∙ q in
      let E = entered_all c (items l) start (walk_sized l after_settings) made.fine_book n in (
        in_form c (items l) start n,
        subst (λ (B : ℕ). FitBook c.d c.S c.C B theirs) (fresh_room c b.room)
            (taken_fits c theirs start [] (log_read l) made (ap (λ (o : Outcome). o.number) (sym afresh) ∙ E.none)),
      )

  covered_log : ItemsInForm (items l) → CoversBook c.d c.S c.C b.room theirs → (load l b).number ≡ 0
  covered_log f O = ap (λ (o : Load). o.number) (load_accepted l b e).is
      ∙ all_loaded c (items l) start (walk_sized l after_settings) made.fine_book f (ap (λ (o : Outcome). o.number) afresh
      ∙ covered_taken c theirs start [] (log_read l) made (subst (λ (B : ℕ). CoversBook c.d c.S c.C B theirs) (sym (fresh_room c b.room)) O))

-- ---- each of them, exactly
module _ (d S : ℕ) (h : History) (k : Begun d S h) where
  abbrev Fits : ℕ → List Numbered → Type 0
  Fits B es = FitBook d S (capacity h) B es

  -- the room is that of its book
  to_room : (es : List Numbered) → Fits (run d S h).room es → Fits (room h) es
  to_room es = subst (λ (B : ℕ). Fits B es) (room_is d S h k)

  of_room : (es : List Numbered) → Fits (room h) es → CoversBook d S (capacity h) (run d S h).room es
  of_room es F = fits_book d S (capacity h) (run d S h).room es (subst (λ (B : ℕ). Fits B es) (sym (room_is d S h k)) F)

pub taken_exactly : TakenExactly
taken_exactly = record {
  list_taken = λ d S h l k whole.
      let c = settings_in d S h in
      let H = book_is_taken d S h k in
      let es = taken d S h ++ parsed d l in
      (λ e. to_room d S h k es (list_fits c (run d S h) (taken d S h) l H whole e), λ F. covered_list c (run d S h) (taken d S h) l H whole (of_room d S h k es F));
  table_taken = λ d S h g k j.
      let H = book_is_taken d S h k in
      let G = book_is_taken d S g j in
      let es = taken d S h ++ taken d S g in (
        λ e. to_room d S h k es (merged_fits d S (capacity h) (capacity g) (run d S h) (run d S g) (taken d S h) (taken d S g) H G e),
        λ F. covered_merged d S (capacity h) (capacity g) (run d S h) (run d S g) (taken d S h) (taken d S g) H G (of_room d S h k es F),
      );
  log_taken = λ l b e. (
    log_fits l b e,
    λ p. covered_log l b e p.0 (fits_book (settings_of l).d (settings_of l).S (settings_of l).C b.room (numbering [] (log.readings (items l))) p.1),
  );
  reading_taken_back = λ d S h k j. taken_back (settings_in d S h) (run d S h) k (taken d S h) (book_is_taken d S h j);
}

-- ---- histories
-- a table of a roomy history has room
roomy : (C B : ℕ) (h : History) → Roomy C B h → (C ≤ capacity h) × (B ≤ room h)
unfolding capacity room
roomy C B (starting K b) r = r
roomy C B (entering h l) r = roomy C B h r
roomy C B (merging h g) r = roomy C B h r.0
roomy C B (offering h e s) r = roomy C B h r
roomy C B (withdrawing h k) r = roomy C B h r
roomy C B (loading l b) r = r

-- and so have readings in it that have it elsewhere
into : (d S C B : ℕ) (h : History) → Begun d S h → Roomy C B h → (es : List Numbered) → CoversBook d S C B es → CoversBook d S (capacity h) (run d S h).room es
into d S C B h k r es = let (p, q) = roomy C B h r in book_more d S C B (capacity h) (run d S h).room es p (omega (arith, q, room_is d S h k))

covered_whole : (d S C B : ℕ) (h : History) → InForm d S C B h → Roomy C B h → CoversBook d S C B (readings d h) → NoneRefused d S h
unfolding readings
covered_whole d S C B (starting K b) f r O = f
covered_whole d S C B (entering h l) (f, whole) r O =
    let n = covered_whole d S C B h f r (book_first d S C B (readings d h) (parsed d l) O) in
    let (k, e) = all_taken d S h n in (
      n,
      covered_list (settings_in d S h) (run d S h) (taken d S h) l (book_is_taken d S h k) whole (into d S C B h k r (taken d S h ++ parsed d l) (rw e O)),
    )
covered_whole d S C B (merging h g) (f, f') (r, r') O =
    let n = covered_whole d S C B h f r (book_first d S C B (readings d h) (readings d g) O) in
    let m = covered_whole d S C B g f' r' (book_second d S C B (readings d h) (readings d g) O) in
    let (k, e) = all_taken d S h n in
    let (j, q) = all_taken d S g m in (
      n,
      m,
      covered_merged d S (capacity h) (capacity g) (run d S h) (run d S g) (taken d S h) (taken d S g) (book_is_taken d S h k) (book_is_taken d S g j)
          (into d S C B h k r (taken d S h ++ taken d S g) (rw (e, q) O)),
    )
covered_whole d S C B (offering h e s) f r O = absurd f
covered_whole d S C B (withdrawing h k) (f, fit, has) r O =
    let n = covered_whole d S C B h f r (fits_book d S C B (readings d h) fit) in
    let (j, e) = all_taken d S h n in
    (n, (taken_back (settings_in d S h) (run d S h) k (taken d S h) (book_is_taken d S h j)).1 (rw e has))
covered_whole d S C B (loading l b) (p, q, e, f) r O =
    (p, q, covered_log l b e f (book_more (settings_of l).d (settings_of l).S C B (settings_of l).C b.room (numbering [] (log.readings (items l))) r.0 r.1 (rw (p, q) O)))

number_prop : (a b : ℕ) → IsProp (a ≡ b)
number_prop = hedberg ℕ_discrete

none_refused_prop : (d S : ℕ) (h : History) → IsProp (NoneRefused d S h)
none_refused_prop d S (starting C b) = number_prop _ _
none_refused_prop d S (entering h l) = ×_prop (none_refused_prop d S h) (number_prop _ _)
none_refused_prop d S (merging h g) = ×₃_prop (none_refused_prop d S h) (none_refused_prop d S g) (number_prop _ _)
none_refused_prop d S (offering h e s) = ×_prop (none_refused_prop d S h) (number_prop _ _)
none_refused_prop d S (withdrawing h k) = ×_prop (none_refused_prop d S h) (number_prop _ _)
none_refused_prop d S (loading l b) = ×₃_prop (number_prop _ _) (number_prop _ _) (number_prop _ _)

pub accepted_in_any_order : AcceptedInAnyOrder
accepted_in_any_order d S h g n f r p =
    let (k, e) = all_taken d S h n in
    let F = to_room d S h k (taken d S h) (held_fits (settings_in d S h) (run d S h) (taken d S h) (book_is_taken d S h k)) in
    let O = fits_book d S (capacity h) (room h) (taken d S h) F in
    ∥∥₁_elim p (none_refused_prop d S g) (λ q. covered_whole d S (capacity h) (room h) g f r (book_perm d S (capacity h) (room h) (readings d h) (readings d g) q (rw (sym e) O)))
