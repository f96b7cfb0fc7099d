-- A merge: from its refusals to what weighing, pouring and putting ask, and to what is answered.
use mathlib.Core.Path.{◌≡◌, refl, sym, ap, subst, ◌∙◌}
use mathlib.Core.List.{List}
use Prim.Native.Nat.{ℕ, zero, suc, ◌+◌, ◌*◌}
use native.Mathlib.Nat.{le_refl, mul-le-mul, mul-le-mul_left}
use native.Mathlib.Omega.{arith}
use lib.IntN.{ℤ}
use lib.ListN.{take}
use Rattle.whole.specs.Lists.{splice}
use Rattle.table.specs.declared.Head.{Head}
use Rattle.table.specs.Table.{Settings, Table, rows}
use Rattle.table.specs.Pour.{pour}
use Rattle.table.specs.Heads.{settings, with_counts}
use Rattle.table.specs.Sound.{Fine}
use Rattle.table.specs.Inner.{InTurn}
use Rattle.table.proofs.Turns.{in_turn, pour_n}
use Rattle.table.proofs.Keeping.{source_acceptable, acceptable_pours}
use Rattle.table.proofs.Soundness.{fine_searched}
use Rattle.book.specs.Book.{Booked}
use Rattle.book.specs.Calls.{merge_refusal, after_merge}
use Rattle.book.specs.Heads.{booked, HoldsBook, AnswersBook}
use Rattle.book.proofs.Answering.{merge_done, merge_refused}
use Rattle.book.proofs.Booking.{merges}
use Rattle.book.proofs.Fine.{book_long, numbers_apart_lem}
use Rattle.merge.specs.Source.{first_rows, Stretches, Comparable, RowsToPour, EntriesToPut}
use Rattle.merge.proofs.Rows.{rows_all}
use Rattle.merge.proofs.Refusing.{BothFine}

-- ---- what is asked
stretches_of : (d : ℕ) (e : Settings) (s : Table) → Fine e s → d ≡ e.d → Stretches d s.keys s.m
stretches_of d e s F q = subst (λ (d : ℕ). Stretches d s.keys s.m) (sym q) record {
  d_least = F.ranged.d_least;
  d_most = F.ranged.d_most;
  few = omega (arith, F.ranged.C_most, F.sound.indexed.sparse.room);
  inside = omega (arith, F.shape.keys, mul-le-mul (le_refl e.d) F.sound.indexed.sparse.room);
}

pub comparable : (h : Head) (keys sums : List ℤ) (index : List ℕ) (book : List ℤ) (s : Head) (keys' sums' : List ℤ) (index' : List ℕ) (book' : List ℤ)
    → BothFine (settings h) (booked h keys sums index book) (settings s) (booked s keys' sums' index' book') → Comparable h keys index book s keys' book'
comparable h keys sums index book s keys' sums' index' book' F =
    let b = booked h keys sums index book in
    let o = booked s keys' sums' index' book' in
    let G = F.target.fine in
    record {
      searchable = fine_searched (settings h) b.table G;
      points_few = omega (arith, G.sound.indexed.sparse.room, G.ranged.C_most);
      stretches = stretches_of s.d (settings s) o.table F.source.fine refl;
      few = G.sound.few;
      source_few = F.source.fine.sound.few;
      entries_in = book_long (settings h) b F.target;
      source_entries_in = book_long (settings s) o F.source;
      apart = numbers_apart_lem (settings h) b F.target;
    }

module _ (c : Settings) (b : Booked) (e : Settings) (s : Booked) (z : merge_refusal c b e s ≡ 0) where
  pub pouring : RowsToPour c b.table s.table.keys s.table.sums s.table.m
  pouring =
      let M = (merges c b e s z).mergeable in
      let t = b.table in
      let u = s.table in
      record {
        stretches = stretches_of c.d e u M.source M.same_d;
        pairs = omega (arith, M.source.shape.sums, M.source.sound.indexed.sparse.room);
        in_turn = subst (InTurn c t) (rows_all c.d e u M.same_d) (in_turn c t (rows e u) (acceptable_pours c t (rows e u) u.n (source_acceptable c t e u M)));
      }

  pub putting : EntriesToPut c.d b.table.n b.book s.table.n s.book
  putting =
      let M = merges c b e s z in
      record {
        d_most = M.target.fine.ranged.d_most;
        few = M.mergeable.few;
        inside = omega (arith, M.target.lengths, mul-le-mul_left (c.d + 3) M.room);
        source_inside = rw M.mergeable.same_d (book_long e s M.source);
      }

-- ---- what is answered
module _ (h : Head) (keys sums : List ℤ) (index : List ℕ) (book : List ℤ) (e : Settings) (s : Booked) where
  abbrev c : Settings
  c = settings h

  abbrev b : Booked
  b = booked h keys sums index book

  abbrev Merged : ℕ → Head → List ℤ → List ℤ → List ℕ → List ℤ → Type 0
  Merged = AnswersBook h (merge_refusal c b e s) (after_merge c b e s)

  as_given : (x : ℕ) → x ≡ merge_refusal c b e s → (x ≡ 0 → ⊥) → after_merge c b e s ≡ b
  as_given zero p n = absurd (n refl)
  as_given (suc x) p n = merge_refused c b e s x (sym p)

  pub refused : (x : ℕ) → x ≡ merge_refusal c b e s → (x ≡ 0 → ⊥) → Merged x h keys sums index book
  refused x p n = let a = sym (as_given x p n) in record {
    answers = record {
      number_is = p;
      head_is = ap (λ (u : Booked). with_counts h u.table.n u.table.m) a;
      keys_are = ap (λ (u : Booked). u.table.keys) a;
      sums_are = ap (λ (u : Booked). u.table.sums) a;
      index_are = ap (λ (u : Booked). u.table.index) a;
    };
    book_is = ap (λ (u : Booked). u.book) a;
  }

  pub done : (h' : Head) (points : ℕ) (keys' sums' : List ℤ) (index' : List ℕ) (book' : List ℤ) → 0 ≡ merge_refusal c b e s
      → HoldsBook (record {
        table = pour c b.table (first_rows h.d s.table.keys s.table.sums s.table.m);
        room = h.room;
        book = splice book ((h.d + 3) * h.readings) (take ((h.d + 3) * s.table.n) s.book);
      }) points keys' sums' index' book'
      → h' ≡ with_counts h (h.readings + s.table.n) points
      → Merged 0 h' keys' sums' index' book'
  done h' points keys' sums' index' book' z H q =
      let t = b.table in
      let M = (merges c b e s (sym z)).mergeable in
      let r = ap (pour c t) (sym (rows_all h.d e s.table M.same_d)) in
      let a = sym (merge_done c b e s (sym z)) in
      let n : h.readings + s.table.n ≡ (pour c t (rows e s.table)).n + s.table.n = ap (λ (n : ℕ). n + s.table.n) (sym (pour_n c t (rows e s.table))) in
      let m : points ≡ (pour c t (rows e s.table)).m = H.holds.points_are ∙ ap (λ (u : Table). u.m) r in
      record {
        answers = record {
          number_is = z;
          head_is = q ∙ (λ i. with_counts h (n i) (m i)) ∙ ap (λ (u : Booked). with_counts h u.table.n u.table.m) a;
          keys_are = H.holds.keys_are ∙ ap (λ (u : Table). u.keys) r ∙ ap (λ (u : Booked). u.table.keys) a;
          sums_are = H.holds.sums_are ∙ ap (λ (u : Table). u.sums) r ∙ ap (λ (u : Booked). u.table.sums) a;
          index_are = H.holds.index_are ∙ ap (λ (u : Table). u.index) r ∙ ap (λ (u : Booked). u.table.index) a;
        };
        book_is = H.book_is ∙ ap (λ (u : Booked). u.book) a;
      }
