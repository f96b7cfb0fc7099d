-- Every value entered lies between lo and hi: so then does each value sum between lo and hi times its mass, from a fresh table on.
use mathlib.Core.Path.{◌≡◌, refl, sym, ap, ◌∙◌, subst}
use mathlib.Core.List.{List}
use Prim.Native.Nat.{ℕ, zero, suc, ◌+◌, ◌%◌, ◌<◌}
use lib.Dec.{eqb}
use lib.IntN.{ℤ, *ℤ-zero, pos, ◌*ℤ◌}
use lib.ListN.{length, take}
use lib.Signed.{◌≤ℤ◌, ≤ℤ_refl}
use Rattle.whole.specs.Size.{Within}
use Rattle.whole.specs.Lists.{at, All}
use Rattle.whole.proofs.Ring.{*-comm, *-dist-l, add_mono, mul_mono}
use Rattle.lattice.specs.Weight.{weight}
use Rattle.table.specs.Table.{Settings, Table, key, mass, value, whole, pair_at, held}
use Rattle.table.specs.Calls.{fresh}
use Rattle.table.specs.Theorems.{plus}
use Rattle.table.proofs.Good.{key_whole}
use Rattle.table.proofs.Theorems.{fresh_holds}
use Rattle.book.specs.Book.{Numbered, Booked}
use Rattle.book.specs.Calls.{Outcome, refusal, entered, parsed, enter_all, enter_refusal, enter, merge_refusal, merged, after_merge}
use Rattle.book.specs.Theorems.{FineBook}
use Rattle.book.proofs.Answering.{enter_done, enter_refused, merge_done, merge_refused}
use Rattle.book.proofs.Booking.{called, enter_keeps}
use Rattle.book.proofs.Entering.{Sized, enter_ind, parsed_size}
use Rattle.book.proofs.Adding.{enter_adds, merge_adds}
use Rattle.blur.proofs.Stored.{every_pair}
use Rattle.filter.specs.Inner.{Mapped}
use Rattle.filter.specs.Theorems.{ValuesBetween, FreshBetween, EnterBetween, MergeBetween}
use Rattle.filter.proofs.Answers.{mapped}

-- of a mass and a value sum: they are both 0, or added up, or a weight and the weight times a value
abbrev pub Bounded : ℤ → ℤ → ℤ × ℤ → Type 0
Bounded lo hi p = ((lo *ℤ p.0) ≤ℤ p.1) × (p.1 ≤ℤ (hi *ℤ p.0))

pub bounded_zero : (lo hi : ℤ) → Bounded lo hi (pos 0, pos 0)
bounded_zero lo hi = (rw (*ℤ-zero lo) (≤ℤ_refl (pos 0)), rw (*ℤ-zero hi) (≤ℤ_refl (pos 0)))

pub bounded_plus : (lo hi : ℤ) (p q : ℤ × ℤ) → Bounded lo hi p → Bounded lo hi q → Bounded lo hi (plus p q)
bounded_plus lo hi p q (a, b) (a', b') = (
  rw (*-dist-l lo p.0 q.0) (add_mono a a'),
  rw (*-dist-l hi p.0 q.0) (add_mono b b'),
)

pub bounded_share : (lo hi : ℤ) (w : ℕ) (v : ℤ) → Within lo hi v → Bounded lo hi (pos w, pos w *ℤ v)
bounded_share lo hi w v b = (rw (*-comm lo (pos w)) (mul_mono w b.low), rw (*-comm hi (pos w)) (mul_mono w b.high))

pub all_between : (lo hi : ℤ) (c : Settings) (t : Table) → ((y : List ℤ) → Bounded lo hi (held c t y)) → ValuesBetween lo hi c t
all_between lo hi c t h = record { low = λ y. (h y).0; high = λ y. (h y).1 }

pub fresh_between : FreshBetween
fresh_between lo hi c g = all_between lo hi c (fresh c) (λ y. rw (fresh_holds c g y) (bounded_zero lo hi))

pub merge_between : MergeBetween
merge_between lo hi c b e s h k = go (merge_refusal c b e s) refl
  where
    go : (x : ℕ) → merge_refusal c b e s ≡ x → ValuesBetween lo hi c (after_merge c b e s).table
    go zero z = rw (merge_done c b e s z) (all_between lo hi c (merged c b e s).table (λ y.
        rw (merge_adds c b e s z y) (bounded_plus lo hi (held c b.table y) (held e s.table y) (h.low y, h.high y) (k.low y, k.high y))))
    go (suc x) z = rw (merge_refused c b e s x z) h

-- one reading
reading_between : (lo hi : ℤ) (c : Settings) (b : Booked) (e : Numbered) → length e.reading.position ≡ suc c.d → FineBook c b → refusal c b e ≡ 0
    → ValuesBetween lo hi c b.table → Within lo hi e.reading.value → ValuesBetween lo hi c (entered c b e).table
reading_between lo hi c b e size F z h w = all_between lo hi c u (every_pair c u M.readable (λ a b. Bounded lo hi (a, b)) (bounded_zero lo hi) each)
  where
    u : Table
    u = (entered c b e).table

    M : Mapped c u
    M = mapped c u (enter_keeps c b e size F z).fine_book.fine

    -- at each stored point, which is a lattice point, the reading's share is added; elsewhere the pair is 0
    each : (i : ℕ) → i < u.m → Bounded lo hi (mass u i, value u i)
    each i l =
        let k = key c u i in
        let x = weight c.d c.S (at e.reading.position) (at (whole k)) in
        let a = enter_adds c b e size F z (whole k) (M.point i l) in
        subst (Bounded lo hi) (sym (rw (key_whole c.d k (M.size i l)) at a) ∙ ap (pair_at u.sums) (M.readable.indexed.finds i l))
        (bounded_plus lo hi (held c b.table k) (pos x, pos x *ℤ e.reading.value) (h.low k, h.high k) (bounded_share lo hi x e.reading.value w))

-- and those of a list that are taken
pub enter_between : EnterBetween
enter_between lo hi c b l h w = go (enter_refusal c b l) refl
  where
    taken : (es : List Numbered) (b : Booked) → FineBook c b → Sized c.d es → ValuesBetween lo hi c b.table
        → All (λ e. Within lo hi e.reading.value) (take (enter_all c b es).taken es) → ValuesBetween lo hi c (enter_all c b es).booked.table
    taken = enter_ind c (λ b es o. FineBook c b → Sized c.d es → ValuesBetween lo hi c b.table
        → All (λ e. Within lo hi e.reading.value) (take o.taken es) → ValuesBetween lo hi c o.booked.table)
        (λ b F z h w. h) (λ b e es x q F z h w. h)
        (λ b e es q ih F z h w. ih (enter_keeps c b e z.0 F q).fine_book z.1 (reading_between lo hi c b e z.0 F q h w.0) w.1)

    go : (x : ℕ) → enter_refusal c b l ≡ x → ValuesBetween lo hi c (enter c b l).booked.table
    go zero e =
        let q = enter_done c b l e in
        let F = (called c b (eqb (length l % (c.d + 3)) 0) e).fine in
        subst (λ (o : Outcome). ValuesBetween lo hi c o.booked.table) (sym q) (taken (parsed c.d l) b F (parsed_size c.d l) h
        (subst (λ (o : Outcome). All (λ e. Within lo hi e.reading.value) (take o.taken (parsed c.d l))) q w))
    go (suc x) e = subst (λ (o : Outcome). ValuesBetween lo hi c o.booked.table) (sym (enter_refused c b l x e)) h
