-- Fresh, enter and merge keep a table sound with its book, and the book has the readings in order of entry, merged ones behind.
use mathlib.Core.Path.{◌≡◌, refl, sym, ap, subst, ◌∙◌}
use mathlib.Core.Bool.{Bool, not}
use mathlib.Core.List.{List, [], ◌∷◌, ◌++◌}
use Prim.Native.Nat.{ℕ, zero, suc, ◌+◌, ◌*◌, ◌≤◌, ◌<◌}
use native.Mathlib.Nat.{mul-le-mul_left}
use native.Mathlib.Omega.{arith}
use lib.Dec.{T, eqb, eqb→eq, leb, leb→le}
use lib.IntN.{ℤ, pos, nat_abs}
use lib.ListN.{length, take, length-append, length-replicate, get_or-append}
use lib.Seq.{get_or-take, get_or-append-add, length-take-le}
use Rattle.whole.specs.Lists.{at, tab, splice, All}
use Rattle.whole.proofs.Lists.{tab_cong, length_splice, get_or_splice_before, get_or_splice_in}
use Rattle.whole.proofs.Size.{abs_of}
use Rattle.whole.proofs.Tests.{and_l, and_r, all_at, T_true}
use Rattle.lattice.specs.Limits.{most_value, most_readings}
use Rattle.lattice.specs.Refusals.{number_held}
use Rattle.lattice.specs.Position.{all_near, sums_to_zero}
use Rattle.lattice.proofs.Tests.{all_pass}
use Rattle.lattice.proofs.Judging.{judged_none, judged_right}
use Rattle.table.specs.Table.{Settings, rows, keys_of}
use Rattle.table.specs.Sound.{sound}
use Rattle.table.specs.Pour.{news, room_test}
use Rattle.table.specs.Reading.{shares, own_tests}
use Rattle.table.specs.Reading as old
use Rattle.table.specs.Calls as base
use Rattle.table.specs.Calls.{ranged, fits}
use Rattle.table.proofs.Lists.{tab_add, tab_self, all_tab}
use Rattle.table.proofs.Soundness.{to_ranged, to_shape, to_sound}
use Rattle.table.proofs.Shares.{Accepted}
use Rattle.table.proofs.Keeping.{accept_adds, reading_acceptable, Mergeable, merged_adds, fresh_fine}
use Rattle.book.specs.Book.{Numbered, Booked, number_at, entry_of, entries, sound_with_book, book_sound, OtherNumber, Carries}
use Rattle.book.specs.Numbers.{holds_number, none_met}
use Rattle.book.specs.Calls.{in_range, all_fit, call_tests, call_refusal, room_ranged, held_test, each_tests, both_tests, form_of, lent_book, fresh_booked, after_fresh, refusal, entered, merge_refusal, merged}
use Rattle.book.specs.Theorems.{FineBook, Holds, FreshKeeps, EnterKeeps, MergeKeeps}
use Rattle.book.proofs.Answering.{fresh_open}
use Rattle.book.proofs.Testing.{to_carries, of_carries, at_among, not_yes}
use Rattle.book.proofs.Entries.{entry_eq}
use Rattle.book.proofs.Carrying.{fresh_carries, entered_carries, merged_carries}

-- ---- entries put behind others
module _ (d n k : ℕ) (l v : List ℤ) (fit : (d + 3) * (n + k) ≤ length l) (size : length v ≡ (d + 3) * k) where
  split : (d + 3) * (n + k) ≡ (d + 3) * n + (d + 3) * k
  split = go (d + 3)
    where
      go : (w : ℕ) → w * (n + k) ≡ w * n + w * k
      go w = omega arith

  pub behind_length : length (splice l ((d + 3) * n) v) ≡ length l
  behind_length = length_splice l ((d + 3) * n) v (omega (arith, split, fit, size))

  old_entry : (j : ℕ) → j < n → entry_of d (splice l ((d + 3) * n) v) j ≡ entry_of d l j
  old_entry j h = entry_eq d (splice l ((d + 3) * n) v) l j j (λ p q.
      let m : (d + 3) * suc j ≤ (d + 3) * n = mul-le-mul_left (d + 3) h in
      get_or_splice_before l ((d + 3) * n) v ((d + 3) * j + p) (pos 0) (omega (arith, split, fit)) (omega arith))

  new_entry : (j : ℕ) → j < k → entry_of d (splice l ((d + 3) * n) v) (n + j) ≡ entry_of d v j
  new_entry j h = entry_eq d (splice l ((d + 3) * n) v) v (n + j) j (λ p q.
      let m : (d + 3) * suc j ≤ (d + 3) * k = mul-le-mul_left (d + 3) h in
      let e : (d + 3) * (n + j) + p ≡ (d + 3) * n + ((d + 3) * j + p) = omega (arith, times (d + 3) j) in
      ap (at (splice l ((d + 3) * n) v)) e ∙ get_or_splice_in l ((d + 3) * n) v ((d + 3) * j + p) (pos 0) (omega (arith, split, fit)) (omega (arith, size)))
    where
      times : (w j : ℕ) → w * (n + j) ≡ w * n + w * j
      times w j = omega arith

  pub entries_behind : entries d (n + k) (splice l ((d + 3) * n) v) ≡ entries d n l ++ entries d k v
  unfolding entries
  entries_behind = tab_add n k (entry_of d (splice l ((d + 3) * n) v))
      ∙ (λ x. tab_cong n (entry_of d (splice l ((d + 3) * n) v)) (entry_of d l) old_entry x ++ tab_cong k (λ j. entry_of d (splice l ((d + 3) * n) v) (n + j)) (entry_of d v) new_entry x)

-- the numbers of one entry
pub form_length : (d : ℕ) (e : Numbered) → length e.reading.position ≡ suc d → length (form_of e) ≡ d + 3
form_length d e h = omega (arith, length-append e.reading.position (e.reading.value ∷ []))

pub form_entry : (d : ℕ) (e : Numbered) → length e.reading.position ≡ suc d → entries d 1 (form_of e) ≡ e ∷ []
unfolding entries tab
form_entry d e h = λ x. record {
  number = ap (at (form_of e)) zeroth x;
  reading = record {
    position = (tab_cong (suc d) (λ i. at (form_of e) ((d + 3) * 0 + suc i)) (λ i. at e.reading.position i) place ∙ tab_self e.reading.position (suc d) (pos 0) h) x;
    value = last x;
  };
} ∷ []
  where
    zeroth : (d + 3) * 0 ≡ 0
    zeroth = omega arith

    place : (i : ℕ) → i < suc d → at (form_of e) ((d + 3) * 0 + suc i) ≡ at e.reading.position i
    place i q = let p : (d + 3) * 0 + suc i ≡ suc i = omega arith in ap (at (form_of e)) p ∙ get_or-append e.reading.position (e.reading.value ∷ []) (pos 0) i (omega arith)

    last : at (form_of e) ((d + 3) * 0 + (d + 2)) ≡ e.reading.value
    last = let p : (d + 3) * 0 + (d + 2) ≡ suc (length e.reading.position + 0) = omega arith in
        ap (at (form_of e)) p ∙ get_or-append-add e.reading.position (e.reading.value ∷ []) 0 (pos 0)

-- ---- a reading that is not refused
pub record Takes (c : Settings) (b : Booked) (e : Numbered) : Type 0 where
  pub accepted : Accepted c b.table e.reading
  pub new : T (not (holds_number c b e.number))
  pub room : b.table.n + 1 ≤ b.room

pub takes : (c : Settings) (b : Booked) (e : Numbered) → length e.reading.position ≡ suc c.d → b.room ≤ most_readings → refusal c b e ≡ 0 → Takes c b e
unfolding refusal
takes c b e size most z =
    let r = e.reading in
    let more = news c b.table (keys_of (shares c.d c.S r)) in
    let p = all_pass (own_tests r ++ ((not (holds_number c b e.number), number_held) ∷ held_test b.room (b.table.n + 1) ∷ room_test c.C (b.table.m + more) ∷ [])) tt z in
    let q = p.1.1 in
    let room : b.table.n + 1 ≤ b.room = leb→le (b.table.n + 1) b.room q.1.1.0 in
    record {
      accepted = record {
        position = (judged_right c.d r.position size).none.0 (judged_none r.position (T_true (all_near r.position) p.0) (T_true (sums_to_zero r.position) p.1.0));
        fair = abs_of r.value most_value (leb→le (nat_abs r.value) most_value q.0);
        few = omega (arith, room, most);
        room = leb→le (b.table.m + more) c.C q.1.1.1.0;
      };
      new = q.1.0;
      room = room;
    }

-- a number that is not held is another than each of the book's
others : (c : Settings) (b : Booked) (e : Numbered) → T (not (holds_number c b e.number)) → All (λ x. OtherNumber x e) (entries c.d b.table.n b.book)
unfolding entries
others c b e h = all_tab (λ x. OtherNumber x e) b.table.n (entry_of c.d b.book) (λ j l q. not_yes (holds_number c b e.number) h (at_among b.table.n (number_at c.d b.book) e.number j l q))

fits_more : (w n k B s : ℕ) → s ≡ w * B → n + k ≤ B → w * (n + k) ≤ s
fits_more w n k B s e h = let m : w * (n + k) ≤ w * B = mul-le-mul_left w h in omega arith

pub enter_keeps : EnterKeeps
enter_keeps c b e size B z =
    let A = takes c b e size B.room_most z in
    let t = b.table in
    let C = to_carries c b B.fine B.sound in
    let R = accept_adds c t (shares c.d c.S e.reading) 1 (reading_acceptable c t e.reading B.fine A.accepted) in
    let one : (c.d + 3) * 1 ≡ c.d + 3 = omega arith in
    let fit = fits_more (c.d + 3) t.n 1 b.room (length b.book) B.lengths A.room in
    let v = form_length c.d e size ∙ sym one in
    let is = entries_behind c.d t.n 1 b.book (form_of e) fit v ∙ ap (λ (l : List Numbered). entries c.d t.n b.book ++ l) (form_entry c.d e size) in
    let K = entered_carries c t (entries c.d t.n b.book) e B.fine C.1 A.accepted (others c b e A.new) in
    let held : entries c.d (old.entered c t e.reading).n (splice b.book ((c.d + 3) * t.n) (form_of e)) ≡ entries c.d t.n b.book ++ (e ∷ [])
    = ap (λ (n : ℕ). entries c.d n (splice b.book ((c.d + 3) * t.n) (form_of e))) R.count ∙ is in
    record {
      fine_book = record {
        fine = R.fine;
        room_least = B.room_least;
        room_most = B.room_most;
        lengths = behind_length c.d t.n 1 b.book (form_of e) fit v ∙ B.lengths;
        sound = of_carries c (entered c b e) R.fine (omega (arith, R.count, A.room)) (subst (Carries c (old.entered c t e.reading)) (sym held) K);
      };
      holds = held;
    }

-- ---- a table with its book that is not refused with 1, 2 or 3
pub fine_of : (c : Settings) (b : Booked) → T (in_range c b) → T (all_fit c b) → T (sound_with_book c b) → FineBook c b
fine_of c b r f s =
    let R = room_ranged b.room in
    let q = and_r (ranged c) R r in
    let L = eqb (length b.book) ((c.d + 3) * b.room) in
    record {
      fine = record { ranged = to_ranged c (and_l (ranged c) R r); shape = to_shape c b.table (and_l (fits c b.table) L f); sound = to_sound c b.table (and_l (sound c b.table) (book_sound c b) s) };
      room_least = leb→le 1 b.room (and_l (leb 1 b.room) (leb b.room most_readings) q);
      room_most = leb→le b.room most_readings (and_r (leb 1 b.room) (leb b.room most_readings) q);
      lengths = eqb→eq (length b.book) ((c.d + 3) * b.room) (and_r (fits c b.table) L f);
      sound = and_r (sound c b.table) (book_sound c b) s;
    }

-- ---- a call that is not refused as a whole
pub record Called (c : Settings) (b : Booked) (more : Bool) : Type 0 where
  pub fine : FineBook c b
  pub whole : T more

pub called : (c : Settings) (b : Booked) (more : Bool) → call_refusal c b more ≡ 0 → Called c b more
unfolding call_refusal
called c b more e = let p = all_pass (call_tests c b more) tt e in
    record { fine = fine_of c b p.0 (and_l (all_fit c b) more p.1.0) p.1.1.0; whole = and_r (all_fit c b) more p.1.0 }

-- ---- two tables that may be merged
pub record Merges (c : Settings) (b : Booked) (e : Settings) (s : Booked) : Type 0 where
  pub target : FineBook c b
  pub source : FineBook e s
  pub mergeable : Mergeable c b.table e s.table
  pub none_met_lem : T (none_met c b s)
  pub room : b.table.n + s.table.n ≤ b.room

pub merges : (c : Settings) (b : Booked) (e : Settings) (s : Booked) → merge_refusal c b e s ≡ 0 → Merges c b e s
unfolding merge_refusal
merges c b e s z =
    let x = eqb c.d e.d in
    let y = eqb c.S e.S in
    let more = news c b.table (keys_of (rows e s.table)) in
    let p = all_pass (each_tests c b e s ++ both_tests c b.room e (none_met c b s) (b.table.n + s.table.n) (b.table.m + more)) tt z in
    let q = p.1.1 in
    let r = q.1.1 in
    let l = r.1.1 in
    let T = fine_of c b p.0 q.0 r.0 in
    let U = fine_of e s p.1.0 q.1.0 r.1.0 in
    let room : b.table.n + s.table.n ≤ b.room = leb→le (b.table.n + s.table.n) b.room l.1.1.0 in
    record {
      target = T;
      source = U;
      mergeable = record {
        target = T.fine;
        source = U.fine;
        same_d = eqb→eq c.d e.d (and_l x y l.0);
        same_S = eqb→eq c.S e.S (and_r x y l.0);
        few = omega (arith, room, T.room_most);
        room = leb→le (b.table.m + more) c.C l.1.1.1.0;
      };
      none_met_lem = l.1.0;
      room = room;
    }

-- no number of the source is one of the target's
all_others : (c : Settings) (b s : Booked) → T (none_met c b s) → All (λ x. All (OtherNumber x) (entries c.d s.table.n s.book)) (entries c.d b.table.n b.book)
unfolding entries
all_others c b s h = all_tab (λ x. All (OtherNumber x) (tab s.table.n (entry_of c.d s.book))) b.table.n (entry_of c.d b.book) (λ i k.
    all_tab (OtherNumber (entry_of c.d b.book i)) s.table.n (entry_of c.d s.book) (λ j l q.
    not_yes (holds_number c b (number_at c.d s.book j)) (all_at s.table.n (λ j. not (holds_number c b (number_at c.d s.book j))) h j l)
    (at_among b.table.n (number_at c.d b.book) (number_at c.d s.book j) i k q)))

-- the first entries of a book
first_entries : (d k : ℕ) (l : List ℤ) → (d + 3) * k ≤ length l → entries d k (take ((d + 3) * k) l) ≡ entries d k l
unfolding entries
first_entries d k l h = tab_cong k (entry_of d (take ((d + 3) * k) l)) (entry_of d l) (λ j g. entry_eq d (take ((d + 3) * k) l) l j j (λ p q.
    let m : (d + 3) * suc j ≤ (d + 3) * k = mul-le-mul_left (d + 3) g in get_or-take ((d + 3) * k) l ((d + 3) * j + p) (pos 0) (omega arith)))

pub merge_keeps : MergeKeeps
merge_keeps c b e s z =
    let M = merges c b e s z in
    let t = b.table in
    let k = s.table.n in
    let C = to_carries c b M.target.fine M.target.sound in
    let D = to_carries e s M.source.fine M.source.sound in
    let same = M.mergeable.same_d in
    let R = merged_adds c t e s.table M.mergeable in
    let fit = fits_more (c.d + 3) t.n k b.room (length b.book) M.target.lengths M.room in
    let there : (c.d + 3) * k ≤ length s.book = rw same (fits_most (e.d + 3) k s.room (length s.book) M.source.lengths D.0) in
    let v = length-take-le ((c.d + 3) * k) s.book there in
    let put = take ((c.d + 3) * k) s.book in
    let theirs : entries c.d k s.book ≡ entries e.d k s.book = ap (λ (d : ℕ). entries d k s.book) same in
    let is = entries_behind c.d t.n k b.book put fit v ∙ ap (λ (l : List Numbered). entries c.d t.n b.book ++ l) (first_entries c.d k s.book there ∙ theirs) in
    let new = subst (λ (l : List Numbered). All (λ x. All (OtherNumber x) l) (entries c.d t.n b.book)) theirs (all_others c b s M.none_met_lem) in
    let K = merged_carries c t e s.table (entries c.d t.n b.book) (entries e.d k s.book) C.1 D.1 M.mergeable new in
    let held : entries c.d (base.merged c t e s.table).n (splice b.book ((c.d + 3) * t.n) put) ≡ entries c.d t.n b.book ++ entries e.d k s.book
    = ap (λ (n : ℕ). entries c.d n (splice b.book ((c.d + 3) * t.n) put)) R.count ∙ is in
    record {
      fine_book = record {
        fine = R.fine;
        room_least = M.target.room_least;
        room_most = M.target.room_most;
        lengths = behind_length c.d t.n k b.book put fit v ∙ M.target.lengths;
        sound = of_carries c (merged c b e s) R.fine (omega (arith, R.count, M.room)) (subst (Carries c (base.merged c t e s.table)) (sym held) K);
      };
      holds = held;
    }
  where
    fits_most : (w k B s : ℕ) → s ≡ w * B → k ≤ B → w * k ≤ s
    fits_most w k B s e h = let m : w * k ≤ w * B = mul-le-mul_left w h in omega arith

pub fresh_keeps : FreshKeeps
unfolding after_fresh fresh_booked base.fresh entries tab
fresh_keeps c b z =
    let p = fresh_open c b z in
    let R = room_ranged b.room in
    let G = to_ranged c (and_l (ranged c) R p.0) in
    let q = and_r (ranged c) R p.0 in
    let room : b.room ≤ most_readings = leb→le b.room most_readings (and_r (leb 1 b.room) (leb b.room most_readings) q) in
    subst (λ (u : Booked). Holds c u []) (sym (ap (λ (x : ℕ). elim x [ zero ↦ fresh_booked c b.room | suc x ↦ lent_book b ]) z)) (record {
      fine_book = record {
        fine = fresh_fine c G;
        room_least = leb→le 1 b.room (and_l (leb 1 b.room) (leb b.room most_readings) q);
        room_most = room;
        lengths = length-replicate ((c.d + 3) * b.room) (pos 0);
        sound = of_carries c (fresh_booked c b.room) (fresh_fine c G) (omega arith) (fresh_carries c G);
      };
      holds = refl;
    })
