-- Demand 3: what a table is made of is the readings taken, and their order and their sharing among merged tables do not matter.
use mathlib.Core.Path.{◌≡◌, refl, sym, ap, ap₂, ◌∙◌}
use mathlib.Core.List.{List, Perm}
use Prim.Native.Nat.{ℕ, ◌*◌}
use lib.IntN.{ℤ, pos}
use lib.ListN.{length, length-map}
use Rattle.whole.specs.Sum.{over}
use Rattle.lattice.specs.Weight.{W}
use Rattle.table.specs.Table.{Settings, Table, Row, row, rows, mass_of}
use Rattle.table.specs.Reading.{Reading}
use Rattle.table.proofs.Lists.{over_tab, over_map}
use Rattle.table.proofs.Rows.{value_of}
use Rattle.table.proofs.Keeping.{rows_mass}
use Rattle.book.specs.Book.{readings_of}
use Rattle.listing.specs.Listing.{order, listed}
use Rattle.listing.proofs.Listings.{ordered_perm, order_length}
use Rattle.filter.proofs.Theorems.{answer_of_map}
use Rattle.promises.specs.History.{History, settings_in, run, Begun, taken}
use Rattle.promises.specs.Order.{ListedFrom, MadeOf, Same, MadeOfThoseTaken, TakenInAnyOrder, OrderDoesNotMatter}
use Rattle.promises.proofs.Building.{Built, holds_built}
use Rattle.promises.proofs.Histories.{book_is_taken, all_taken}
use Rattle.promises.proofs.Sums.{over_permᴰ, length_perm}
use Rattle.promises.proofs.Holding.{added, added_perm, holds_added}
use Rattle.promises.proofs.Listed.{listed_perm, one_listing, listing_from}
use Rattle.promises.proofs.Between.{answer_within}
use Rattle.promises.proofs.Total.{over_shares}

-- ---- the listing has every stored point once
pub listed_length : (c : Settings) (t : Table) → length (listed c t) ≡ t.m
unfolding listed
listed_length c t = length-map (order c t) (row c t) ∙ order_length c t

pub listed_over : (c : Settings) (t : Table) (f : Row → ℤ) → over (listed c t) f ≡ over (rows c t) f
unfolding listed order rows
listed_over c t f = over_map (row c t) (order c t) f ∙ over_permᴰ (λ i. f (row c t i)) (ordered_perm _ t.m (λ i. i))
    ∙ over_tab t.m (λ i. i) (λ i. f (row c t i)) ∙ sym (over_tab t.m (row c t) f)

-- ---- a table is made of its readings
pub made : (c : Settings) (t : Table) (rs : List Reading) → Built c t rs → MadeOf c.d c.S rs c t
made c t rs B = record {
  fine = B.fine;
  counts = B.counts;
  listing = listing_from c t rs B;
  points = sym (listed_length c t);
  total = listed_over c t mass_of ∙ rows_mass c t B.fine ∙ ap (λ (n : ℕ). pos (W c.d c.S * n)) B.counts;
  value_total = listed_over c t value_of ∙ B.sums value_of (λ a b e. refl) ∙ over_shares c.d c.S B.fine.ranged.S_least rs;
  between = answer_within c t rs B;
}

-- so is that of a history
built : (d S : ℕ) (h : History) → Begun d S h → Built (settings_in d S h) (run d S h).table (readings_of (taken d S h))
built d S h k = holds_built (settings_in d S h) (run d S h) (taken d S h) (book_is_taken d S h k)

pub made_of_those_taken : MadeOfThoseTaken
made_of_those_taken d S h k = made (settings_in d S h) (run d S h).table (readings_of (taken d S h)) (built d S h k)

-- ---- and their order does not matter: two tables of one d and S, made of the same readings, are alike
pub same_built : (c : Settings) (t : Table) (rs : List Reading) (b : Settings) (s : Table) (qs : List Reading) → c.d ≡ b.d → c.S ≡ b.S
    → Built c t rs → Built b s qs → Perm rs qs → Same c t b s
same_built c t rs b s qs e f B G p = record {
  same_listing = one;
  same_readings = B.counts ∙ length_perm rs qs p ∙ sym G.counts;
  same_points = sym (listed_length c t) ∙ ap length one ∙ listed_length b s;
  same_total = ap (λ (rows : List Row). over rows mass_of) one;
  same_value_total = ap (λ (rows : List Row). over rows value_of) one;
  same_answers = answer_of_map c t b s B.fine G.fine e f
      (λ y. holds_added c t rs B y ∙ added_perm c.d c.S rs qs p y ∙ ap₂ (λ (d S : ℕ). added d S qs y) e f ∙ sym (holds_added b s qs G y));
}
  where
    theirs : ListedFrom c.d c.S qs (listed b s)
    theirs = rw (e, f) (listing_from b s qs G)

    one : listed c t ≡ listed b s
    one = one_listing c.d c.S qs (listed c t) (listed b s) (listed_perm c.d c.S rs qs p (listed c t) (listing_from c t rs B)) theirs

pub taken_in_any_order : TakenInAnyOrder
taken_in_any_order d S h g k j =
    same_built (settings_in d S h) (run d S h).table (readings_of (taken d S h)) (settings_in d S g) (run d S g).table (readings_of (taken d S g)) refl refl (built d S h k) (built d S g j)

pub order_does_not_matter : OrderDoesNotMatter
order_does_not_matter d S h g k j p =
    let (b, e) = all_taken d S h k in
    let (a, q) = all_taken d S g j in
    taken_in_any_order d S h g b a (rw (e, q) p)
