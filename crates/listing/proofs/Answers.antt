-- What the call answers: its number, and the list left as it was or filled. Assumes nothing.
use mathlib.Core.Path.{◌≡◌, refl, sym, ap, ◌∙◌}
use mathlib.Core.Logic.{◌≢◌}
use mathlib.Core.List.{List, ◌++◌}
use Prim.Native.Nat.{ℕ, zero, suc, ◌-◌}
use native.Mathlib.Nat.{mul-le-mul_left}
use native.Mathlib.Omega.{arith}
use lib.Dec.{eqb, eqb→eq}
use lib.ListN.{length, replicate}
use Rattle.table.specs.Table.{Settings, Table}
use Rattle.table.specs.Sound.{Fine}
use Rattle.book.specs.Book.{Booked}
use Rattle.book.proofs.Booking.{called}
use Rattle.listing.specs.Listing.{order, list_refusal, after_list, Lists}
use Rattle.listing.specs.Inner.{in_order, Listable}
use Rattle.listing.proofs.Listings.{usable_apart}

-- a sound table, and a list of C numbers: what `fill` asks, and what it leaves
module _ (c : Settings) (t : Table) where
  pub fillable : (list : List ℕ) → Fine c t → length list ≡ c.C → Listable c.d t.keys t.m list
  fillable list F size = let m = F.sound.indexed.sparse.room in record {
    inside = omega (arith, F.shape.keys, mul-le-mul_left c.d m);
    room = omega (arith, size, m);
    small = omega (arith, F.ranged.C_most, m);
    apart = usable_apart c t F;
  }

  pub list_filled : {n : ℕ} {after : List ℕ} → n ≡ c.C → after ≡ in_order c.d t.keys t.m ++ replicate (n - t.m) 0 → after ≡ order c t ++ replicate (c.C - t.m) 0
  unfolding order
  list_filled size p = p ∙ ap (λ (n : ℕ). order c t ++ replicate (n - t.m) 0) size

module _ (c : Settings) (b : Booked) (list : List ℕ) where
  pub refused : {number : ℕ} → number ≡ list_refusal c b list → number ≢ 0 → Lists c b list number list
  unfolding after_list
  refused {number} e n = record { number_is = e; list_is = go number e n }
    where
      go : (x : ℕ) → x ≡ list_refusal c b list → x ≢ 0 → list ≡ after_list c b list
      go zero e n = absurd (n refl)
      go (suc x) e n = sym (rw (← e, after_list))

  module _ {number : ℕ} (e : number ≡ list_refusal c b list) (z : number ≡ 0) where
    usable : Fine c b.table × (length list ≡ c.C)
    usable = let C = called c b (eqb (length list) c.C) (sym e ∙ z) in (C.fine.fine, eqb→eq (length list) c.C C.whole)

    pub listable : Listable c.d b.table.keys b.table.m list
    listable = fillable c b.table list usable.0 usable.1

    pub done : {after : List ℕ} → after ≡ in_order c.d b.table.keys b.table.m ++ replicate (length list - b.table.m) 0 → Lists c b list 0 after
    unfolding after_list
    done p = record { number_is = sym (sym e ∙ z); list_is = list_filled c b.table usable.1 p ∙ sym (rw (sym e ∙ z, after_list)) }
