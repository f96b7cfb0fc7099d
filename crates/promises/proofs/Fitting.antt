-- Whether readings with their numbers are all taken: exactly where they fit together with those that the table holds. Their points have room where their listing has; and a number is new to a
-- table exactly where it is another than those of the entries that it holds.
use mathlib.Core.Path.{◌≡◌, refl, sym, ap, ap₂, ◌∙◌, subst}
use mathlib.Core.Logic.{◌↔◌}
use mathlib.Core.List.{List, [], ◌∷◌, ◌++◌, map, map-append, append_assoc, Permᴰ}
use Prim.Native.Nat.{ℕ, suc, ◌≤◌, ◌<◌}
use native.Mathlib.Omega.{arith}
use lib.IntN.{ℤ}
use lib.ListN.{length, get_or, length-append}
use lib.Seq.{take_all}
use Rattle.whole.specs.Lists.{tab, All, Each}
use Rattle.whole.proofs.Lists.{length_tab, get_or_tab}
use Rattle.whole.proofs.Size.{of_abs}
use Rattle.lattice.specs.Limits.{most_value}
use Rattle.table.specs.Table.{Settings}
use Rattle.table.proofs.Lists.{map_tab, all_after, each_before}
use Rattle.book.specs.Book.{Numbered, Booked, number_at, entry_of, entries, readings_of, OtherNumber}
use Rattle.book.specs.Calls.{Outcome, refusal, entered, enter_all, merge_refusal, merged, withdraw_refusal}
use Rattle.book.specs.Theorems.{Holds}
use Rattle.book.proofs.Testing.{to_carries}
use Rattle.book.proofs.Booking.{enter_keeps, merge_keeps}
use Rattle.book.proofs.Entering.{Sized, enter_yes, enter_all_lem, entered_holds}
use Rattle.listing.proofs.Rising.{all_at, all_imp, each_perm, perm_length}
use Rattle.promises.specs.Refusals.{Held, Met}
use Rattle.promises.specs.Acceptance.{FitBook, HasNumber}
use Rattle.promises.proofs.Refusals.{refusals_exact}
use Rattle.promises.proofs.Building.{holds_carries, holds_built}
use Rattle.promises.proofs.Histories.{told}
use Rattle.promises.proofs.Rooms.{enter_room}
use Rattle.promises.proofs.Sums.{map_permᴰ}
use Rattle.promises.proofs.Acceptance.{built_fits, Covers, fits_covers, covers_first, covers_second, covers_more, covers_perm, own, room_for_reading, room_for_table}

-- ---- entries that a table holds fit into it
pub held_fits : (c : Settings) (b : Booked) (es : List Numbered) → Holds c b es → FitBook c.d c.S c.C b.room es
held_fits c b es H =
    let K = holds_carries c b es H in
    record {
      fit = built_fits c b.table (readings_of es) (holds_built c b es H);
      few = omega (arith, K.counts, (to_carries c b H.fine_book.fine H.fine_book.sound).0);
      apart = K.apart;
    }

-- ---- what is asked of entries, without their listing
pub record CoversBook (d S C B : ℕ) (es : List Numbered) : Type 0 where
  pub covers : Covers d S C (readings_of es)
  pub few : length es ≤ B
  pub apart : Each OtherNumber es

pub fits_book : (d S C B : ℕ) (es : List Numbered) → FitBook d S C B es → CoversBook d S C B es
fits_book d S C B es F = record { covers = fits_covers d S C (readings_of es) F.fit; few = F.few; apart = F.apart }

-- of two lists together, it is asked of each, and no number of the one is one of the other
each_after : (a b : List Numbered) → Each OtherNumber (a ++ b) → Each OtherNumber b
each_after [] b h = h
each_after (x ∷ a) b h = each_after a b h.1

across : (a b : List Numbered) → Each OtherNumber (a ++ b) → All (λ x. All (OtherNumber x) b) a
across [] b h = tt
across (x ∷ a) b h = (all_after (OtherNumber x) a b h.0, across a b h.1)

module _ (d S C B : ℕ) (fs es : List Numbered) (O : CoversBook d S C B (fs ++ es)) where
  pub both_cover : Covers d S C (readings_of fs ++ readings_of es)
  both_cover = subst (Covers d S C) (map-append (λ (e : Numbered). e.reading) fs es) O.covers

  pub book_first : CoversBook d S C B fs
  book_first = record {
    covers = covers_first d S C (readings_of fs) (readings_of es) both_cover;
    few = omega (arith, O.few, length-append fs es);
    apart = each_before OtherNumber fs es O.apart;
  }

  pub book_second : CoversBook d S C B es
  book_second = record {
    covers = covers_second d S C (readings_of fs) (readings_of es) both_cover;
    few = omega (arith, O.few, length-append fs es);
    apart = each_after fs es O.apart;
  }

-- of a larger capacity and a larger room less
pub book_more : (d S C B K R : ℕ) (es : List Numbered) → C ≤ K → B ≤ R → CoversBook d S C B es → CoversBook d S K R es
book_more d S C B K R es h k O = record { covers = covers_more d S C K (readings_of es) h O.covers; few = omega (arith, k, O.few); apart = O.apart }

-- and it does not depend on their order
pub book_perm : (d S C B : ℕ) (es fs : List Numbered) → Permᴰ es fs → CoversBook d S C B es → CoversBook d S C B fs
book_perm d S C B es fs p O = record {
  covers = covers_perm d S C (readings_of es) (readings_of fs) (map_permᴰ (λ (e : Numbered). e.reading) p) O.covers;
  few = omega (arith, O.few, perm_length p);
  apart = each_perm OtherNumber (λ a b n e. n (sym e)) p O.apart;
}

-- ---- the entries that a table holds, by place
place : {A : Type 0} (Q : A → Type 0) (n : ℕ) (f : ℕ → A) → All Q (tab n f) → (j : ℕ) → j < n → Q (f j)
place Q n f h j l = subst Q (get_or_tab n f j (f 0) l) (all_at Q (tab n f) (f 0) h j (omega (arith, l, length_tab n f)))

held_place : (c : Settings) (b : Booked) (es : List Numbered) → Holds c b es → (Q : Numbered → Type 0) → All Q es → (j : ℕ) → j < b.table.n → Q (entry_of c.d b.book j)
unfolding entries
held_place c b es H Q h = place Q b.table.n (entry_of c.d b.book) (subst (All Q) (sym H.holds) h)

-- ---- a reading
module _ (c : Settings) (b : Booked) (fs : List Numbered) (e : Numbered) (es : List Numbered) (H : Holds c b fs) (O : CoversBook c.d c.S c.C b.room (fs ++ (e ∷ es))) where
  not_held : Held c b e.number → ⊥
  not_held (j, l, q) = held_place c b fs H (λ x. OtherNumber x e) (all_imp (λ x. All (OtherNumber x) (e ∷ es)) (λ x. OtherNumber x e) fs (λ x h. h.0) (across fs (e ∷ es) O.apart)) j l q

  theirs : Covers c.d c.S c.C (readings_of fs ++ (e.reading ∷ readings_of es))
  theirs = both_cover c.d c.S c.C b.room fs (e ∷ es) O

  not_refused : refusal c b e ≡ 0
  not_refused =
      let B = holds_built c b fs H in
      let L = own c b.table (readings_of fs) (readings_of es) e.reading B theirs in
      (refusals_exact.reading c b e L.position.size).none.1 (
        L.position,
        of_abs e.reading.value most_value L.fair,
        not_held,
        omega (arith, (holds_carries c b fs H).counts, O.few, length-append fs (e ∷ es)),
        room_for_reading c b.table (readings_of fs) (readings_of es) e.reading B theirs,
      )

-- ---- readings one after the other
one_more_lem : (c : Settings) (b : Booked) (fs : List Numbered) (e : Numbered) → length e.reading.position ≡ suc c.d → Holds c b fs → refusal c b e ≡ 0 → Holds c (entered c b e) (fs ++ (e ∷ []))
one_more_lem c b fs e z H q = told c (entered c b e) (ap (λ (l : List Numbered). l ++ (e ∷ [])) H.holds) (enter_keeps c b e z H.fine_book q)

pub covered_taken : (c : Settings) (es : List Numbered) (b : Booked) (fs : List Numbered) → Sized c.d es → Holds c b fs
    → CoversBook c.d c.S c.C b.room (fs ++ es) → (enter_all c b es).number ≡ 0
unfolding enter_all
covered_taken c [] b fs z H O = refl
covered_taken c (e ∷ es) b fs z H O =
    let q = not_refused c b fs e es H O in
    ap (λ (o : Outcome). o.number) (enter_yes c b e es q)
    ∙ covered_taken c es (entered c b e) (fs ++ (e ∷ [])) z.1 (one_more_lem c b fs e z.0 H q) (subst (CoversBook c.d c.S c.C b.room) (sym (append_assoc fs (e ∷ []) es)) O)

pub taken_fits : (c : Settings) (es : List Numbered) (b : Booked) (fs : List Numbered) → Sized c.d es → Holds c b fs → (enter_all c b es).number ≡ 0
    → FitBook c.d c.S c.C b.room (fs ++ es)
taken_fits c es b fs z H e =
    let all = take_all (enter_all c b es).taken es (omega (arith, enter_all_lem c es b e)) in
    let u = (enter_all c b es).booked in
    subst (λ (B : ℕ). FitBook c.d c.S c.C B (fs ++ es)) (enter_room c es b) (held_fits c u (fs ++ es) (told c u (ap₂ ◌++◌ H.holds all) (entered_holds c es b H.fine_book z)))

-- ---- a table merged in
module _ (d S C K : ℕ) (b s : Booked) (fs gs : List Numbered) where
  abbrev c : Settings
  c = record { d = d; S = S; C = C }

  abbrev e : Settings
  e = record { d = d; S = S; C = K }

  pub merged_fits : Holds c b fs → Holds e s gs → merge_refusal c b e s ≡ 0 → FitBook d S C b.room (fs ++ gs)
  merged_fits H G z = held_fits c (merged c b e s) (fs ++ gs) (told c (merged c b e s) (ap₂ ◌++◌ H.holds G.holds) (merge_keeps c b e s z))

  not_met : Holds c b fs → Holds e s gs → Each OtherNumber (fs ++ gs) → Met c b s → ⊥
  not_met H G h (j, l, (i, k, q)) = held_place e s gs G (OtherNumber (entry_of d b.book i)) (held_place c b fs H (λ x. All (OtherNumber x) gs) (across fs gs h) i k) j l q

  pub covered_merged : Holds c b fs → Holds e s gs → CoversBook d S C b.room (fs ++ gs) → merge_refusal c b e s ≡ 0
  covered_merged H G O = (refusals_exact.merge_call c b e s).none.1 (
    (H.fine_book, G.fine_book),
    (refl, refl),
    not_met H G O.apart,
    omega (arith, (holds_carries c b fs H).counts, (holds_carries e s gs G).counts, O.few, length-append fs gs),
    room_for_table d S C K b.table s.table (readings_of fs) (readings_of gs) (holds_built c b fs H) (holds_built e s gs G) (both_cover d S C b.room fs gs O),
  )

-- ---- a reading taken back: one that the table holds has the number
module _ (c : Settings) (b : Booked) (k : ℤ) where
  abbrev number : Numbered → ℤ
  number e = e.number

  numbers_at_lem : (j : ℕ) → j < b.table.n → get_or (map number (entries c.d b.table.n b.book)) j k ≡ number_at c.d b.book j
  unfolding entries
  numbers_at_lem j l = ap (λ (ks : List ℤ). get_or ks j k) (map_tab number b.table.n (entry_of c.d b.book)) ∙ get_or_tab b.table.n (number_at c.d b.book) j k l

  held_length : length (entries c.d b.table.n b.book) ≡ b.table.n
  unfolding entries
  held_length = length_tab b.table.n (entry_of c.d b.book)

  pub taken_back : (es : List Numbered) → Holds c b es → withdraw_refusal c b k ≡ 0 ↔ HasNumber k es
  taken_back es H = (
    λ z. let (j, l, q) = ((refusals_exact.withdraw_call c b k).none.0 z).1 in subst (HasNumber k) H.holds (j, omega (arith, l, held_length), numbers_at_lem j l ∙ q),
    λ h. let (j, l, q) = subst (HasNumber k) (sym H.holds) h in
        let less : j < b.table.n = omega (arith, l, held_length) in
        (refusals_exact.withdraw_call c b k).none.1 (H.fine_book, (j, less, sym (numbers_at_lem j less) ∙ q)),
  )
