-- What an accepted enter and an accepted merge leave alone, from one row added to all that are poured, and in the book.
use mathlib.Core.Path.{◌≡◌, refl, sym, ap, ◌∙◌, subst}
use mathlib.Core.List.{List, [], ◌∷◌}
use Prim.Native.Nat.{ℕ, zero, suc, ◌+◌, ◌-◌, ◌*◌, ◌%◌, ◌≤◌}
use native.Mathlib.Nat.{mul-le-mul_left}
use native.Mathlib.Omega.{arith}
use lib.Dec.{eqb}
use lib.IntN.{ℤ, pos, ◌+ℤ◌}
use lib.ListN.{length, take}
use lib.Seq.{length-take-le}
use Rattle.whole.specs.Lists.{at, splice}
use Rattle.whole.proofs.Lists.{get_or_splice_before, get_or_splice_after}
use Rattle.table.specs.Table.{Settings, Table, Row, mass, value, entry, seek, found, rows}
use Rattle.table.specs.Pour.{append, raise, add_at, add, pour, accept}
use Rattle.table.specs.Reading.{shares}
use Rattle.table.specs.Inner.{Addable, InTurn}
use Rattle.table.proofs.Store.{pair_else, entry_else}
use Rattle.table.proofs.Adding.{low_found}
use Rattle.table.proofs.Turns.{in_turn}
use Rattle.table.proofs.Keeping.{Acceptable, acceptable_pours, reading_acceptable, entered_adds, source_acceptable, merged_adds}
use Rattle.book.specs.Book.{Numbered, Booked}
use Rattle.book.specs.Calls.{Outcome, form_of, refusal, entered, parsed, enter_all, merge_refusal, merged}
use Rattle.book.specs.Theorems.{FineBook}
use Rattle.book.proofs.Testing.{to_carries}
use Rattle.book.proofs.Booking.{form_length, takes, called, merges, enter_keeps}
use Rattle.book.proofs.Answering.{enter_done, merge_done}
use Rattle.book.proofs.Entering.{enter_ind, Sized, parsed_size}
use Rattle.promises.specs.EveryCall.{LeftAlone, BookLeftAlone, AcceptedLeavesAlone}

-- ---- past a stretch that is put into a list
put_past : (l k : List ℤ) (a i : ℕ) → a ≤ length l → a + length k ≤ i → at (splice l a k) i ≡ at l i
put_past l k a i h g =
    let e : a + (length k + (i - (a + length k))) ≡ i = omega (arith, g) in
    let e' : a + length k + (i - (a + length k)) ≡ i = omega (arith, g) in
    ap (λ (j : ℕ). at (splice l a k) j) (sym e) ∙ get_or_splice_after l a k (i - (a + length k)) (pos 0) h ∙ ap (λ (j : ℕ). at l j) e'

-- ---- nothing done, and one after the other
alone_same : (c : Settings) (t : Table) → LeftAlone c t t
alone_same c t = record { points = omega arith; keys_past = λ i h. refl; keys_there = λ i h. refl; sums_past = λ i h. refl; named = λ p h. refl }

alone_then : (c : Settings) (t u v : Table) → LeftAlone c t u → LeftAlone c u v → LeftAlone c t v
alone_then c t u v A B = record {
  points = omega (arith, A.points, B.points);
  keys_past = λ i h. let g = mul-le-mul_left c.d B.points in B.keys_past i h ∙ A.keys_past i (omega (arith, g, h));
  keys_there = λ i h. let g = mul-le-mul_left c.d A.points in B.keys_there i (omega (arith, g, h)) ∙ A.keys_there i h;
  sums_past = λ i h. B.sums_past i h ∙ A.sums_past i (omega (arith, B.points, h));
  named = λ p h. B.named p (rw (A.named p h) h) ∙ A.named p h;
}

-- ---- one row added
module _ (c : Settings) (t : Table) (r : Row) (A : Addable c t r) where
  begins : found c t r.key ≡ 0 → c.d * t.m ≤ length t.keys
  begins e = let g = mul-le-mul_left c.d (A.room e) in omega (arith, A.kept.shape.keys, g)

  appended : found c t r.key ≡ 0 → LeftAlone c t (append c t (seek c t r.key) r)
  unfolding append
  appended e = record {
    points = omega arith;
    keys_past = λ i h. put_past t.keys r.key (c.d * t.m) i (begins e) (omega (arith, A.good.size, h));
    keys_there = λ i h. get_or_splice_before t.keys (c.d * t.m) r.key i (pos 0) (begins e) h;
    sums_past = λ i h. pair_else t.sums t.m r.mass r.value i (omega (arith, h)) (omega (arith, h));
    named = λ p h. entry_else c t (seek c t r.key) r A.kept.shape (A.room e) A.good.size p (λ q. omega (arith, h, ap (entry t) q, e));
  }

  raised : (i : ℕ) → found c t r.key ≡ suc i → LeftAlone c t (raise t i r)
  unfolding raise
  raised i e =
      let l = low_found c A.ranged.C_least t A.kept r.key i e in
      record {
        points = omega arith;
        keys_past = λ j h. refl;
        keys_there = λ j h. refl;
        sums_past = λ j h. pair_else t.sums i (mass t i +ℤ r.mass) (value t i +ℤ r.value) j (omega (arith, h, l)) (omega (arith, h, l));
        named = λ p h. refl;
      }

  add_alone : LeftAlone c t (add c t r)
  add_alone = go (found c t r.key) refl
    where
      go : (x : ℕ) → found c t r.key ≡ x → LeftAlone c t (add_at c t r x)
      go zero e = appended e
      go (suc i) e = raised i e

-- ---- rows poured
pour_alone : (c : Settings) (rs : List Row) (t : Table) → InTurn c t rs → LeftAlone c t (pour c t rs)
unfolding pour
pour_alone c [] t Q = alone_same c t
pour_alone c (r ∷ rs) t Q = alone_then c t (add c t r) (pour c (add c t r) rs) (add_alone c t r (Q.each [] rs r refl))
    (pour_alone c rs (add c t r) (record { each = λ a b q e. Q.each (r ∷ a) b q (ap (λ (l : List Row). r ∷ l) e) }))

accept_alone : (c : Settings) (t : Table) (rs : List Row) (k : ℕ) → Acceptable c t rs k → LeftAlone c t (accept c t rs k)
accept_alone c t rs k A =
    let P = pour_alone c rs t (in_turn c t rs (acceptable_pours c t rs k A)) in
    record { points = P.points; keys_past = P.keys_past; keys_there = P.keys_there; sums_past = P.sums_past; named = P.named }

-- ---- the book: entries put behind the others
book_same : (c : Settings) (b : Booked) → BookLeftAlone c b b
book_same c b = record { table = alone_same c b.table; readings = omega arith; book_there = λ i h. refl; book_past = λ i h. refl }

book_then : (c : Settings) (b u v : Booked) → BookLeftAlone c b u → BookLeftAlone c u v → BookLeftAlone c b v
book_then c b u v A B = record {
  table = alone_then c b.table u.table v.table A.table B.table;
  readings = omega (arith, A.readings, B.readings);
  book_there = λ i h. let g = mul-le-mul_left (c.d + 3) A.readings in B.book_there i (omega (arith, g, h)) ∙ A.book_there i h;
  book_past = λ i h. let g = mul-le-mul_left (c.d + 3) B.readings in B.book_past i h ∙ A.book_past i (omega (arith, g, h));
}

module _ (c : Settings) (b : Booked) (u : Table) (l : List ℤ) (k : ℕ) (size : length l ≡ (c.d + 3) * k) (most : b.table.n + k ≤ b.room) (room : length b.book ≡ (c.d + 3) * b.room)
    (A : LeftAlone c b.table u) (count : u.n ≡ b.table.n + k) where
  split : (w n k : ℕ) → w * (n + k) ≡ w * n + w * k
  split w n k = omega arith

  fit : (c.d + 3) * b.table.n ≤ length b.book
  fit = let g = mul-le-mul_left (c.d + 3) most in omega (arith, g, split (c.d + 3) b.table.n k, room)

  behind : BookLeftAlone c b (record { table = u; room = b.room; book = splice b.book ((c.d + 3) * b.table.n) l })
  behind = record {
    table = A;
    readings = omega (arith, count);
    book_there = λ i h. get_or_splice_before b.book ((c.d + 3) * b.table.n) l i (pos 0) fit h;
    book_past = λ i h. put_past b.book l ((c.d + 3) * b.table.n) i fit
        (omega (arith, size, split (c.d + 3) b.table.n k, subst (λ (n : ℕ). (c.d + 3) * n ≤ i) count h));
  }

-- ---- a list of readings
one_alone : (c : Settings) (b : Booked) (e : Numbered) → length e.reading.position ≡ suc c.d → FineBook c b → refusal c b e ≡ 0 → BookLeftAlone c b (entered c b e)
one_alone c b e size F z =
    let t = b.table in
    let T = takes c b e size F.room_most z in
    let rs = shares c.d c.S e.reading in
    let one : (c.d + 3) * 1 ≡ c.d + 3 = omega arith in
    behind c b _ (form_of e) 1 (form_length c.d e size ∙ sym one) T.room F.lengths
    (accept_alone c t rs 1 (reading_acceptable c t e.reading F.fine T.accepted))
    (entered_adds c t e.reading F.fine T.accepted).count

entered_alone : (c : Settings) (es : List Numbered) (b : Booked) → FineBook c b → Sized c.d es → BookLeftAlone c b (enter_all c b es).booked
entered_alone c = enter_ind c (λ b es o. FineBook c b → Sized c.d es → BookLeftAlone c b o.booked)
    (λ b F z. book_same c b)
    (λ b e es x q F z. book_same c b)
    (λ b e es q ih F z. book_then c b (entered c b e) _ (one_alone c b e z.0 F q) (ih (enter_keeps c b e z.0 F q).fine_book z.1))

-- ---- a table merged
merged_alone : (c : Settings) (b : Booked) (e : Settings) (s : Booked) → merge_refusal c b e s ≡ 0 → BookLeftAlone c b (merged c b e s)
merged_alone c b e s z =
    let M = merges c b e s z in
    let t = b.table in
    let n = s.table.n in
    let few = (to_carries e s M.source.fine M.source.sound).0 in
    let there : (c.d + 3) * n ≤ length s.book = rw (M.mergeable.same_d, M.source.lengths) (mul-le-mul_left (e.d + 3) few) in
    behind c b _ (take ((c.d + 3) * n) s.book) n (length-take-le ((c.d + 3) * n) s.book there) M.room M.target.lengths
    (accept_alone c t (rows e s.table) n (source_acceptable c t e s.table M.mergeable))
    (merged_adds c t e s.table M.mergeable).count

pub accepted_leaves_alone : AcceptedLeavesAlone
accepted_leaves_alone = record {
  enter_accepted = λ c b l e. subst (λ (o : Outcome). BookLeftAlone c b o.booked) (sym (enter_done c b l e))
      (entered_alone c (parsed c.d l) b (called c b (eqb (length l % (c.d + 3)) 0) e).fine (parsed_size c.d l));
  merge_accepted = λ c b e s z. subst (BookLeftAlone c b) (sym (merge_done c b e s z)) (merged_alone c b e s z);
}
