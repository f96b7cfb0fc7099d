-- A number sought among others, and one more.
use mathlib.Core.Path.{◌≡◌, refl, sym, ap, subst, ◌∙◌}
use mathlib.Core.Bool.{true, false, not}
use mathlib.Core.List.{List, [], ◌∷◌}
use Prim.Native.Nat.{ℕ, zero, suc, ◌+◌, ◌*◌, ◌<◌}
use native.Mathlib.Numerals.{add-one}
use native.Mathlib.Omega.{arith}
use lib.Dec.{T}
use lib.IntN.{ℤ, pos}
use lib.ListN.{set, length-set}
use lib.Seq.{get_or-set_same, get_or-set_other}
use Rattle.whole.specs.Lists.{at, tab}
use Rattle.whole.proofs.Tests.{T_true, T_false}
use Rattle.lattice.specs.Limits.{most_readings}
use Rattle.index.specs.Keys.{key_at}
use Rattle.index.specs.Search.{entry_at, Searchable}
use Rattle.index.specs.Indexed.{Indexed}
use Rattle.index.proofs.Finding.{search_lt, found_low, found_key, key_found, new_point_found}
use Rattle.index.proofs.Steps.{searchable}
use Rattle.book.specs.Book.{among}
use Rattle.book.proofs.Testing.{among_at, at_among}
use Rattle.numbers.specs.Indexing.{number_room, NumberIndex, place_for, Adds}

-- a key of one coordinate
pub key_one : (l : List ℤ) (i : ℕ) → key_at 1 l i ≡ at l i ∷ []
unfolding key_at tab
key_one l i = let e : 1 * i + 0 ≡ i = omega arith in ap (λ (p : ℕ). at l p ∷ []) e

one_number : (a b : ℤ) → ◌≡◌ {A = List ℤ} (a ∷ []) (b ∷ []) → a ≡ b
one_number a b e = ap (λ (l : List ℤ). at l 0) e

-- the search ends inside the index
pub place_low : (numbers : List ℤ) (places : List ℕ) (k : ℤ) → place_for numbers places k < 2 * number_room
place_low numbers places k = search_lt number_room (key_at 1 numbers) (entry_at places) (omega arith) (k ∷ [])

module _ (n : ℕ) (numbers : List ℤ) (places : List ℕ) (X : NumberIndex n numbers places) where
  pub can_search : Searchable 1 number_room numbers places
  can_search = searchable 1 number_room n numbers places (omega arith) (omega arith) X.places_size X.numbers_size X.indexed.sparse

  -- the place names one that is among them
  pub is_among : (k : ℤ) → (entry_at places (place_for numbers places k) ≡ 0 → ⊥) → among n (at numbers) k ≡ true
  is_among k z = go (entry_at places (place_for numbers places k)) refl
    where
      go : (e : ℕ) → entry_at places (place_for numbers places k) ≡ e → among n (at numbers) k ≡ true
      go zero e = absurd (z e)
      go (suc i) e =
          let l = found_low number_room n (key_at 1 numbers) (entry_at places) (omega arith) X.indexed.sparse (k ∷ []) i e in
          let q = found_key number_room n (key_at 1 numbers) (entry_at places) (omega arith) X.indexed.sparse (k ∷ []) i e in
          T_true (among n (at numbers) k) (at_among n (at numbers) k i l (one_number (at numbers i) k (sym (key_one numbers i) ∙ q)))

  -- or it is empty, and the number is another
  pub is_new : (k : ℤ) → entry_at places (place_for numbers places k) ≡ 0 → among n (at numbers) k ≡ false
  is_new k z = T_false (among n (at numbers) k) (λ t.
      let (i, l, q) = among_at n (at numbers) k t in
      let e = key_found number_room n (key_at 1 numbers) (entry_at places) (omega arith) X.indexed (k ∷ []) i l (key_one numbers i ∙ ap (λ (z : ℤ). z ∷ []) q) in
      omega (arith, z, e))

  one_more_lem : (k : ℤ) → n < most_readings → entry_at places (place_for numbers places k) ≡ 0 → NumberIndex (n + 1) (set numbers n k) (set places (place_for numbers places k) (n + 1))
  one_more_lem k h z = record {
    numbers_size = length-set numbers n k ∙ X.numbers_size;
    places_size = length-set places (place_for numbers places k) (n + 1) ∙ X.places_size;
    few = omega arith;
    indexed = subst (λ (m : ℕ). Indexed number_room m (key_at 1 (set numbers n k)) (entry_at (set places (place_for numbers places k) m))) (sym (add-one n))
        (new_point_found number_room n (key_at 1 numbers) (entry_at places) (omega arith) X.indexed (k ∷ [])
        (key_at 1 (set numbers n k)) (entry_at (set places (place_for numbers places k) (suc n))) z (omega arith)
        (λ i l. key_one (set numbers n k) i ∙ ap (λ (z : ℤ). z ∷ []) (get_or-set_other numbers n i k (pos 0) (omega arith)) ∙ sym (key_one numbers i))
        (key_one (set numbers n k) n ∙ ap (λ (z : ℤ). z ∷ []) (get_or-set_same numbers n k (pos 0) (omega (arith, X.numbers_size))))
        (get_or-set_same places (place_for numbers places k) (suc n) 0 (omega (arith, X.places_size, place_low numbers places k)))
        (λ q w. get_or-set_other places (place_for numbers places k) q (suc n) 0 w));
  }

  -- ---- what the code answers, with the place that the search gave
  module _ (k : ℤ) {p : ℕ} (e : p ≡ place_for numbers places k) where
    pub place_in : p < 2 * number_room
    place_in = rw e (place_low numbers places k)

    pub added : {x : ℤ} → n < most_readings → entry_at places p ≡ 0 → x ≡ k → Adds n numbers places k true (set numbers n x) (set places p (n + 1))
    added {x} h z q =
        let z' : entry_at places (place_for numbers places k) ≡ 0 = sym (ap (entry_at places) e) ∙ z in
        let numbers_are = ap (set numbers n) q in
        let places_are = ap (λ (a : ℕ). set places a (n + 1)) e in
        record {
          ok_is = sym (ap not (is_new k z'));
          numbers_are = numbers_are;
          places_are = places_are;
          index_is = λ y. rw (numbers_are, places_are) (one_more_lem k h z');
        }

    pub not_added : (entry_at places p ≡ 0 → ⊥) → Adds n numbers places k false numbers places
    not_added z = record { ok_is = sym (ap not (is_among k (λ y. z (ap (entry_at places) e ∙ y)))); numbers_are = refl; places_are = refl; index_is = λ y. absurd (subst T (sym y) tt) }
