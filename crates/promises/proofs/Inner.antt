-- The contracts of the functions inside the library: most say what the answer equals, or what is left; the others say it part by part.
use Rattle.std.proofs.Common.{◌≡◌, ◌<◌, ◌+◌, ◌∙◌, ℕ, ℤ, refl, sym, ap, Bool, List, Option, Some, None, MatchOption, Bor, arith}
use mathlib.Core.Bool.{cond}
use lib.ListN.{set}
use Rattle.numbers.specs.Indexing.{place_for}
use Rattle.lattice.proofs.Refusing.{one_told}
use Rattle.reader.proofs.Saying.{one_found}
use Rattle.promises.proofs.Telling.{one_head, one_reply, one_pair}
use Rattle.promises.specs.Allowed.{behind}
use Rattle.promises.specs.Inner.{InnerOnly}

-- what is left by a test, where the tests are the same
by_test : {A : Type 0} {x y : Bool} (a b : A) {l m : A} → x ≡ y → l ≡ cond x a b → m ≡ cond y a b → l ≡ m
by_test a b e p q = p ∙ ap (λ (x : Bool). cond x a b) e ∙ sym q

-- a slot has one key, or none
one_key : (w : ℕ) (l : List ℤ) (r s : Option (Bor (List ℤ))) → MatchOption r (w ≡ 0) (λ k. (0 < w) × (k.now ≡ l)) → MatchOption s (w ≡ 0) (λ k. (0 < w) × (k.now ≡ l)) → behind r ≡ behind s
one_key w l None None p q = refl
one_key w l None (Some s) p q = let a = q.0 in absurd (omega arith)
one_key w l (Some r) None p q = let a = p.0 in absurd (omega arith)
one_key w l (Some r) (Some s) p q = ap (λ (k : List ℤ). Some k) (p.1 ∙ sym q.1)

pub inner_only : InnerOnly
inner_only = record {
  remainder_of = λ κs a o u p q. λ i. ((p ∙ sym q) i, o.1);
  floor_of = λ κs a o u p q. λ i. ((p ∙ sym q) i, o.1);
  round_fraction = λ κs a o u p q. λ i. ((p ∙ sym q) i, o.1);
  multiply = λ κs a o u p q. λ i. ((p ∙ sym q) i, o.1);
  number = λ κs a o u p q. λ i. ((p ∙ sym q) i, o.1);
  number_told = λ T laws κs a o u p q. λ i. ((p ∙ sym q) i, o.1);
  judge = λ κs a o u p q. λ i. (one_told o.0 u.0 (p ∙ sym q) i, o.1);
  key = λ κs a o u p q. one_key _ _ o.0 u.0 p q;
  enclose = λ κs a o u p q. λ i. (record { weights = (p.weights_are ∙ sym q.weights_are) i; coords = (p.coords_are ∙ sym q.coords_are) i }, o.1);
  home_of = λ κs a o u p q. λ i. ((p ∙ sym q) i, o.1);
  same_key = λ κs a o u p q. λ i. ((p ∙ sym q) i, o.1);
  search = λ κs a o u p q. λ i. ((p ∙ sym q) i, o.1);
  in_range = λ κs a o u p q. λ i. ((p ∙ sym q) i, o.1);
  lengths_fit = λ κs a o u p q. λ i. ((p ∙ sym q) i, o.1);
  with_counts = λ κs a o u p q. λ i. ((p ∙ sym q) i, o.1);
  own_refusal = λ κs a o u p q. λ i. (one_told o.0 u.0 (p ∙ sym q) i, o.1);
  book_range = λ κs a o u p q. λ i. ((p ∙ sym q) i, o.1);
  book_lengths = λ κs a o u p q. λ i. ((p ∙ sym q) i, o.1);
  write_at = λ κs a o u p q. λ i. (o.0, ((p ∙ sym q) i, (tt, (tt, tt))));
  put_entry = λ κs a o u p q. λ i. (o.0, ((p ∙ sym q) i, (tt, (tt, (tt, (tt, tt))))));
  is_sound = λ κs a o u p q. λ i. ((p ∙ sym q) i, o.1);
  place_of = λ κs a o u p q. λ i. ((p ∙ sym q) i, o.1);
  is_held = λ κs a o u p q. λ i. ((p ∙ sym q) i, o.1);
  add_number = λ κs a o u p q.
      let numbers = a.0.now in
      let places = a.1.0.now in
      let count = a.1.1.0 in
      let number = a.1.1.1.0 in
      let e = p.ok_is ∙ sym q.ok_is in λ i. (
        e i,
        (
          by_test (set numbers count number) numbers e p.numbers_are q.numbers_are i,
          (by_test (set places (place_for numbers places number) (count + 1)) places e p.places_are q.places_are i, (tt, (tt, tt))),
        ),
      );
  index_book = λ κs a o u p q. λ i. ((p.ok_is ∙ sym q.ok_is) i, ((p.numbers_are ∙ sym q.numbers_are) i, ((p.places_are ∙ sym q.places_are) i, (tt, (tt, (tt, tt))))));
  numbers_apart = λ κs a o u p q. λ i. ((p ∙ sym q) i, o.1);
  none_met = λ κs a o u p q. λ i. ((p ∙ sym q) i, o.1);
  lowest_from = λ κs a o u p q. λ i. ((p ∙ sym q) i, o.1);
  add_row = λ κs a o u p q. λ i. ((p.points_are ∙ sym q.points_are) i, (tt, (tt, ((p.keys_are ∙ sym q.keys_are) i, ((p.sums_are ∙ sym q.sums_are) i, ((p.index_are ∙ sym q.index_are) i, (tt, (tt, (tt, tt)))))))));
  is_new = λ κs a o u p q. λ i. ((p ∙ sym q) i, o.1);
  set_pair = λ κs a o u p q. λ i. (o.0, ((p ∙ sym q) i, (tt, (tt, (tt, tt)))));
  raise_pair = λ κs a o u p q. λ i. (o.0, ((p ∙ sym q) i, (tt, (tt, (tt, tt)))));
  put_key = λ κs a o u p q. λ i. (o.0, ((p ∙ sym q) i, (tt, tt)));
  store_key = λ κs a o u p q. λ i. (o.0, ((p ∙ sym q) i, (tt, (tt, tt))));
  new_in_slots = λ κs a o u p q. λ i. ((p ∙ sym q) i, o.1);
  times = λ κs a o u p q. λ i. ((p ∙ sym q) i, o.1);
  pour_shares = λ κs a o u p q. λ i. ((p.points_are ∙ sym q.points_are) i, (tt, ((p.keys_are ∙ sym q.keys_are) i, ((p.sums_are ∙ sym q.sums_are) i, ((p.index_are ∙ sym q.index_are) i, (tt, (tt, tt)))))));
  spread_reading = λ κs a o u p q. λ i. ((p.missing_are ∙ sym q.missing_are) i, (tt, (tt, (tt, ((p.left_is ∙ sym q.left_is) i, (tt, tt))))));
  sums_are_theirs = λ κs a o u p q. λ i. ((p ∙ sym q) i, o.1);
  is_carried = λ κs a o u p q. λ i. ((p ∙ sym q) i, o.1);
  refusal_of = λ κs a o u p q. λ i. (one_told o.0 u.0 (p ∙ sym q) i, o.1);
  take = λ κs a o u p q. λ i. (one_head o.0 u.0 (p.number_is ∙ sym q.number_is) (p.head_is ∙ sym q.head_is) i, (tt, ((p.keys_are ∙ sym q.keys_are) i, ((p.sums_are ∙ sym q.sums_are) i, ((p.index_are ∙ sym q.index_are) i, (tt, tt))))));
  enter_one = λ κs a o u p q.
      let A = p.0.answers in
      let B = q.0.answers in λ i. (
        one_head o.0 u.0 (A.number_is ∙ sym B.number_is) (A.head_is ∙ sym B.head_is) i,
        (
          tt,
          (
            (A.keys_are ∙ sym B.keys_are) i,
            (
              (A.sums_are ∙ sym B.sums_are) i,
              (
                (A.index_are ∙ sym B.index_are) i,
                ((p.0.book_is ∙ sym q.0.book_is) i, ((p.1.numbers_are ∙ sym q.1.numbers_are) i, ((p.1.places_are ∙ sym q.1.places_are) i, (tt, (tt, tt))))),
              ),
            ),
          ),
        ),
      );
  fill = λ κs a o u p q. λ i. (o.0, (tt, (tt, (tt, ((p ∙ sym q) i, tt)))));
  pair_of = λ κs a o u p q. λ i. (one_pair _ _ _ o.0 u.0 p q i, o.1);
  blur = λ κs a o u p q. λ i. (o.0, (tt, (tt, (tt, (tt, ((p.first_is ∙ sym q.first_is) i, ((p.second_is ∙ sym q.second_is) i, tt)))))));
  reply_at = λ κs a o u p q. λ i. (one_reply o.0 u.0 (p.value_is ∙ sym q.value_is) (p.code_is ∙ sym q.code_is) i, o.1);
  reply_all = λ κs a o u p q. λ i. (o.0, (tt, (tt, (tt, (tt, (tt, ((p.values_are ∙ sym q.values_are) i, ((p.codes_are ∙ sym q.codes_are) i, tt))))))));
  row_of = λ κs a o u p q. λ i. ((p ∙ sym q) i, o.1);
  kind_of = λ κs a o u p q. λ i. ((p ∙ sym q) i, o.1);
  fours_of = λ κs a o u p q. λ i. ((p ∙ sym q) i, o.1);
  body_length = λ κs a o u p q. λ i. ((p ∙ sym q) i, o.1);
  is_listed = λ κs a o u p q. λ i. ((p ∙ sym q) i, o.1);
  is_placed = λ κs a o u p q. λ i. ((p ∙ sym q) i, o.1);
  of_dimension = λ κs a o u p q. λ i. ((p ∙ sym q) i, o.1);
  settings_of = λ κs a o u p q. λ i. ((p ∙ sym q) i, o.1);
  dimension_of = λ κs a o u p q. λ i. ((p ∙ sym q) i, o.1);
  found_at = λ κs a o u p q. λ i. (one_found o.0 u.0 (p ∙ sym q) i, o.1);
  content_at = λ κs a o u p q. λ i. ((p.means_is ∙ sym q.means_is) i, (tt, (tt, (tt, ((p.after_is ∙ sym q.after_is) i, tt)))));
  put_line = λ κs a o u p q. λ i. ((p.next_is ∙ sym q.next_is) i, ((p.after_is ∙ sym q.after_is) i, (tt, (tt, (tt, tt)))));
}
