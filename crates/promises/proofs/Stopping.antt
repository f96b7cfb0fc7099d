-- Where loading stops: at the first place of the walk whose item has a number that is not 0, or at the log's length, with the readings before it in
-- the table.
use mathlib.Core.Path.{◌≡◌, refl, sym, ap, ap₂, subst, ◌∙◌}
use mathlib.Core.List.{List, [], ◌++◌}
use mathlib.Core.Logic.{◌⊎◌, inl, inr}
use Prim.Native.Nat.{ℕ, zero, suc, ◌+◌, ◌-◌, ◌≤◌, ◌<◌}
use native.Mathlib.Omega.{arith}
use lib.ListN.{length}
use lib.Seq.{take-length}
use borrow.Author.Tests.{lt-ltb, le-ltb}
use Rattle.whole.specs.Lists.{All}
use Rattle.table.specs.Table.{Settings}
use Rattle.book.specs.Book.{Booked}
use Rattle.book.specs.Calls.{Outcome, enter_all, fresh_booked, fresh_refusal}
use Rattle.book.specs.Theorems.{FineBook, Holds}
use Rattle.reader.specs.declared.kinds.Kind.{Kind}
use Rattle.reader.specs.Items.{Item, Of, End, Refused, after_settings, settings_of, item_at, width_of}
use Rattle.reader.specs.Content.{Brought, Said, said_at}
use Rattle.reader.specs.Walk.{Walk, then, ends, item_then, walk_from, walk, readings_in, readings, items, Place, before}
use Rattle.load.specs.Loading.{Load, or_else, start_refusal, take_number, take_booked, item_number, stop_at, load_walk, started, load}
use Rattle.load.specs.Numbering.{numbering}
use Rattle.load.specs.Theorems.{entered_of}
use Rattle.reader.proofs.Forms.{Formed, formed}
use Rattle.reader.proofs.Contents.{said_sized}
use Rattle.reader.proofs.CutItems.{item_end}
use Rattle.load.proofs.Leaving.{SizedReading, said_fine, walk_settings, items_loaded, load_accepted, start_zero}
use Rattle.load.proofs.WholeLogs.{enter_numbered, enter_afresh, enter_said}
use Rattle.load.proofs.Cuts.{place_from}
use Rattle.load.proofs.Theorems.{taken_whole}
use Rattle.promises.specs.LogRefusals.{LoadStops, LoadRefuses}

-- ---- what becomes of the readings before a place of a walk, entered into the table b with the numbers that they get there
abbrev enters_to : Settings → Booked → Walk → ℕ → Outcome
enters_to c b w p = enter_numbered c b (before p w)

abbrev booked_at : Settings → Booked → Walk → ℕ → Booked
booked_at c b w p = (enters_to c b w p).booked

-- the same number and table, whatever was taken
abbrev Alike : Outcome → Outcome → Type 0
Alike o u = (o.number ≡ u.number) × (o.booked ≡ u.booked)

module _ (c : Settings) (b : Booked) (a : ℕ) (w : Walk) where
  none_at_item : (s : Said) → enters_to c b (then a s w) a ≡ record { taken = 0; number = 0; booked = b }
  unfolding before numbering enter_all
  none_at_item s = rw (le-ltb a a (omega arith)) refl

  after_item : (s : Said) (p : ℕ) → a < p → All (SizedReading c.d) (readings_in s) → FineBook c b → take_number c b s ≡ 0
      → Alike (enters_to c b (then a s w) p) (enters_to c (take_booked c b s) w p)
  unfolding before
  after_item s p h z F e = rw (lt-ltb a p h) (enter_said c b s (before p w) z F e)

  -- all readings are before a place past the first, if all later ones are
  readings_past : (s : Said) (p : ℕ) → a < p → before p w ≡ readings w → before p (then a s w) ≡ readings (then a s w)
  unfolding before readings
  readings_past s p h e = rw (lt-ltb a p h) (ap (λ (rs : List Brought). readings_in s ++ rs) e)

module _ (l : List ℕ) where
  abbrev c : Settings
  c = settings_of l

  -- the number of the item at an offset, where b is the table before it
  abbrev number_in : Booked → ℕ → ℕ
  number_in b a = item_number c b l a (item_at l a)

  -- ---- the walk w loaded into b stops as o
  record Stops (b : Booked) (w : Walk) (o : Load) : Type 0 where
    place : Place o.offset w
    number_is : o.number ≡ number_in o.booked o.offset
    none_before : (a : ℕ) → Place a w → a < o.offset → number_in (booked_at c b w a) a ≡ 0
    booked_is : o.booked ≡ booked_at c b w o.offset
    all_taken : (enters_to c b w o.offset).number ≡ 0
    all_read : o.number ≡ 0 → before o.offset w ≡ readings w

  abbrev Loading : Booked → Walk → Type 0
  Loading b w = FineBook c b → Stops b w (load_walk c b w)

  -- where the items end
  stops_end : (b : Booked) (a x : ℕ) → number_in b a ≡ x → Loading b (ends x a)
  unfolding load_walk before numbering enter_all readings
  stops_end b a x e F = record { place = refl; number_is = sym e; none_before = λ p z h. absurd (omega arith); booked_is = refl; all_taken = refl; all_read = λ z. refl }

  module _ (b : Booked) (a : ℕ) (w : Walk) (after : (p : ℕ) → Place p w → a < p) where
    -- at a reading that is refused
    stops_refused : (s : Said) (x : ℕ) → number_in b a ≡ suc x → Stops b (then a s w) (record { number = suc x; offset = a; settings = c; booked = b })
    stops_refused s x e = record {
      place = inl refl;
      number_is = sym e;
      none_before = none;
      booked_is = sym (ap (λ (o : Outcome). o.booked) (none_at_item c b a w s));
      all_taken = ap (λ (o : Outcome). o.number) (none_at_item c b a w s);
      all_read = λ z. absurd (omega arith);
    }
      where
        none : (p : ℕ) → Place p (then a s w) → p < a → number_in (booked_at c b (then a s w) p) p ≡ 0
        none p (inl z) h = absurd (omega arith)
        none p (inr z) h = absurd (omega (arith, after p z))

    -- after an item that is taken: v is the walk from it, whose places are its own and those of the rest, and u is the table with it
    goes_on : (u : Booked) (v : Walk) (o : Load) → ((p : ℕ) → Place p w → Place p v) → ((p : ℕ) → Place p v → (p ≡ a) ⊎ Place p w)
        → number_in (booked_at c b v a) a ≡ 0 → ((p : ℕ) → a < p → Alike (enters_to c b v p) (enters_to c u w p)) → ((p : ℕ) → a < p → before p w ≡ readings w → before p v ≡ readings v)
        → Stops u w o → Stops b v o
    goes_on u v o f g e same read S = record {
      place = f o.offset S.place;
      number_is = S.number_is;
      none_before = λ p z. none p (g p z);
      booked_is = S.booked_is ∙ sym (same o.offset past).1;
      all_taken = (same o.offset past).0 ∙ S.all_taken;
      all_read = λ z. read o.offset past (S.all_read z);
    }
      where
        past : a < o.offset
        past = after o.offset S.place

        none : (p : ℕ) → (p ≡ a) ⊎ Place p w → p < o.offset → number_in (booked_at c b v p) p ≡ 0
        none p (inl z) h = subst (λ (p : ℕ). number_in (booked_at c b v p) p ≡ 0) (sym z) e
        none p (inr z) h = ap (λ (u : Booked). number_in u p) (same p (after p z)).1 ∙ S.none_before p z h

    stops_item : (k : Kind) → item_at l a ≡ Of k → All (SizedReading c.d) (readings_in (said_at l a k)) → ((u : Booked) → Loading u w) → Loading b (item_then l a (Of k) w)
    unfolding load_walk
    stops_item k e sized later F = go (take_number c b s) refl
      where
        s : Said
        s = said_at l a k

        go : (x : ℕ) → take_number c b s ≡ x → Stops b (then a s w) (stop_at x c b a (load_walk c (take_booked c b s) w))
        go zero y =
            let u = take_booked c b s in
            let none = ap (λ (o : Outcome). number_in o.booked a) (none_at_item c b a w s) ∙ ap (item_number c b l a) e ∙ y in
            goes_on u (then a s w) _ (λ p. inr) (λ p z. z) none (λ p h. after_item c b a w s p h sized F y) (readings_past c b a w s) (later u (said_fine c b s sized F y))
        go (suc x) y = stops_refused s x (ap (item_number c b l a) e ∙ y)

  stops_step : (b : Booked) (a : ℕ) (i : Item) (w : Walk) → item_at l a ≡ i → Formed l a i → ((p : ℕ) → Place p w → a + width_of i ≤ p)
      → (0 < width_of i → a + width_of i ≤ length l → (u : Booked) → Loading u w) → Loading b (item_then l a i w)
  stops_step b a (Of k) w e f g later = stops_item b a w (λ p z. omega (arith, g p z)) k e (said_sized l a k f) (later (omega arith) f.whole)
  stops_step b a End w e f g later = stops_end b a _ (ap (item_number c b l a) e)
  stops_step b a (Refused x) w e f g later = stops_end b a _ (ap (item_number c b l a) e)

  stops : (n a : ℕ) (b : Booked) → length l - a < n → Loading b (walk_from n l a)
  unfolding walk_from
  stops zero a b h = absurd (omega arith)
  stops (suc n) a b h =
      let p = a + width_of (item_at l a) in
      stops_step b a (item_at l a) _ refl (formed l a) (place_from n l p) (λ g f u. stops n p u (omega arith))

  -- ---- at the log's length there is no number
  none_at_length : after_settings ≤ length l → (b : Booked) → number_in b (length l) ≡ 0
  none_at_length h b =
      let e = item_end l (length l) (omega arith) (omega arith) in
      ap (item_number c b l (length l)) (subst (λ (m : List ℕ). item_at m (length l) ≡ End) (take-length l) e)

  -- ---- the settings are accepted, and a table of the room B is made that holds no reading
  module _ (B : ℕ) (made : Holds c (fresh_booked c B) []) where
    loads : Stops (fresh_booked c B) (items l) (items_loaded l B)
    unfolding walk
    loads = stops (suc (length l)) after_settings (fresh_booked c B) (omega arith) made.fine_book

    -- so those before a place get the numbers that they get one after the other
    numbered : (p : ℕ) → enters_to c (fresh_booked c B) (items l) p ≡ entered_of l B (before p (items l))
    numbered p = enter_afresh c (fresh_booked c B) (before p (items l)) made.holds

    booked_numbered : (p : ℕ) → booked_at c (fresh_booked c B) (items l) p ≡ (entered_of l B (before p (items l))).booked
    booked_numbered p = ap (λ (o : Outcome). o.booked) (numbered p)

  pub load_stops : (b : Booked) → start_refusal l b ≡ 0 → LoadStops l b.room (load l b)
  load_stops b e =
      let A = load_accepted l b e in
      let B = b.room in
      let L = loads B A.made in
      let o = items_loaded l B in
      let is = L.booked_is ∙ booked_numbered B A.made o.offset in
      subst (LoadStops l B) (sym A.is) (record {
        place = L.place;
        number_is = L.number_is ∙ ap (λ (u : Booked). number_in u o.offset) is;
        none_before = λ a z h. ap (λ (u : Booked). number_in u a) (sym (booked_numbered B A.made a)) ∙ L.none_before a z h;
        settings_are = walk_settings c (fresh_booked c B) (items l);
        booked_is = is;
        all_taken = ap (λ (o : Outcome). o.number) (sym (numbered B A.made o.offset)) ∙ L.all_taken;
        whole = (
          λ z. ap (λ (o : Load). o.offset) (sym A.is ∙ (taken_whole l b (ap (λ (o : Load). o.number) A.is ∙ z)).is),
          λ z. L.number_is ∙ ap (number_in o.booked) z ∙ none_at_length A.whole o.booked,
        );
      })

  -- a log taken whole is taken with all of its readings
  pub load_reads : (b : Booked) → (load l b).number ≡ 0 → before (load l b).offset (items l) ≡ readings (items l)
  load_reads b e =
      let A = load_accepted l b (start_zero l b e) in
      ap (λ (o : Load). before o.offset (items l)) A.is ∙ (loads b.room A.made).all_read (ap (λ (o : Load). o.number) (sym A.is) ∙ e)

pub load_refuses : (l : List ℕ) (b : Booked) → LoadRefuses l b
unfolding load
load_refuses l b = record {
  settings_refused = λ x e. ap (λ (y : ℕ). started (or_else y (fresh_refusal (settings_of l) b)) l b) e;
  table_refused = λ x e f. ap₂ (λ (y z : ℕ). started (or_else y z) l b) e f;
  begun = λ e f. load_stops l b (ap₂ or_else e f);
}
