-- The numbers of entries added one after the other, up to the first that is met twice.
use mathlib.Core.Path.{◌≡◌, refl, sym, ap, ap₂, subst, ◌∙◌}
use mathlib.Core.Bool.{Bool, true, false, not, cond}
use mathlib.Core.List.{List, [], ◌∷◌}
use Prim.Native.Nat.{ℕ, zero, suc, ◌+◌, ◌*◌, ◌≤◌, ◌<◌}
use native.Mathlib.Nat.{not-suc-le-zero}
use native.Mathlib.Numerals.{add-one}
use native.Mathlib.Decide.{ℕ_discrete, dec_lt}
use native.Mathlib.Omega.{arith}
use lib.Dec.{T}
use lib.IntN.{ℤ, pos}
use lib.ListN.{length, set, take, replicate, length-replicate, get_or-replicate, get_or-eq_default}
use lib.Seq.{get_or-take, length-take-le, ext_get_or}
use Rattle.whole.specs.Sum.{all}
use Rattle.whole.specs.Lists.{at, tab, splice}
use Rattle.whole.proofs.Lists.{length_tab, get_or_tab, tab_is, get_or_splice_in, splice_none, splice_more}
use Rattle.whole.proofs.Tests.{all_stop, all_more}
use Rattle.lattice.specs.Limits.{most_readings}
use Rattle.index.specs.Keys.{eq_z, key_at, home}
use Rattle.index.specs.Search.{walk, entry_at, stops, search}
use Rattle.book.specs.Book.{among, numbers_apart}
use Rattle.book.specs.Withdraw.{afresh}
use Rattle.book.proofs.Afresh.{afresh_indexed}
use Rattle.numbers.specs.Indexing.{number_room, place_for, NumberIndex, Adds, apart_to, IndexesBook}
use Rattle.numbers.proofs.Numbering.{key_one}

-- ---- what depends on some of the numbers alone
pub among_same : (n : ℕ) (f g : ℕ → ℤ) (k : ℤ) → ((i : ℕ) → i < n → f i ≡ g i) → among n f k ≡ among n g k
unfolding among
among_same zero f g k h = refl
among_same (suc n) f g k h = ap₂ (λ (z : ℤ) (b : Bool). cond (eq_z z k) true b) (h n (omega arith)) (among_same n f g k (λ i l. h i (omega arith)))

-- a search reads no key but those that the index names
search_same : (C : ℕ) (key key' : ℕ → List ℤ) (entry : ℕ → ℕ) (k : List ℤ) → ((p i : ℕ) → entry p ≡ suc i → key i ≡ key' i) → search C key entry k ≡ search C key' entry k
unfolding search
search_same C key key' entry k h = ap (λ (stop : ℕ → Bool). walk (2 * C) stop (2 * C) (home C k)) (λ x p. at_place p (entry p) refl x)
  where
    at_place : (p e : ℕ) → entry p ≡ e → stops key k e ≡ stops key' k e
    at_place p zero q = refl
    at_place p (suc i) q = rw (h p i q)

take_tab : (n j : ℕ) (f : ℕ → ℤ) → j ≤ n → take j (tab n f) ≡ tab j f
take_tab n j f h = tab_is j f (take j (tab n f)) (pos 0) (length-take-le j (tab n f) (omega (arith, length_tab n f)))
    (λ i l. get_or-take j (tab n f) i (pos 0) l ∙ get_or_tab n f i (pos 0) (omega arith))

-- ---- how many come before the first that is met twice
module _ (f : ℕ → ℤ) where
  apart_all : (n : ℕ) → numbers_apart n f ≡ true → apart_to n f ≡ n
  unfolding apart_to
  apart_all zero e = refl
  apart_all (suc n) e = rw e

  apart_stops : (n j : ℕ) → j < n → numbers_apart j f ≡ true → not (among j f (f j)) ≡ false → apart_to n f ≡ j
  unfolding apart_to
  apart_stops zero j l a e = absurd (not-suc-le-zero l)
  apart_stops (suc n) j l a e = rw (all_stop (suc n) (λ j. not (among j f (f j))) j l e) (go (ℕ_discrete j n) (λ h. apart_stops n j h a e))
    where
      go : Dec (j ≡ n) → (j < n → apart_to n f ≡ j) → apart_to n f ≡ j
      go (yes q) ih = rw (← q) (apart_all j a)
      go (no q) ih = ih (omega arith)

-- ---- j numbers are in, and no two are the same
pub record Copied (j : ℕ) (f : ℕ → ℤ) (begin numbers : List ℤ) (places : List ℕ) : Type 0 where
  pub size : length begin ≡ number_room
  pub index : NumberIndex j numbers places
  pub numbers_are : numbers ≡ splice begin 0 (tab j f)
  pub places_are : places ≡ afresh number_room (λ i. f i ∷ []) j
  pub apart : numbers_apart j f ≡ true

copied_at : (j : ℕ) (f : ℕ → ℤ) (begin numbers : List ℤ) (places : List ℕ) → Copied j f begin numbers places → (i : ℕ) → i < j → at numbers i ≡ f i
copied_at j f begin numbers places I i l =
    let e : i ≡ 0 + i = omega arith in
    ap (λ (s : List ℤ). at s i) I.numbers_are ∙ ap (at (splice begin 0 (tab j f))) e ∙ get_or_splice_in begin 0 (tab j f) i (pos 0) (omega arith) (omega (arith, length_tab j f))
    ∙ get_or_tab j f i (pos 0) l

pub none_in : (f : ℕ → ℤ) (numbers : List ℤ) (places : List ℕ) → NumberIndex 0 numbers places → Copied 0 f numbers numbers places
unfolding all tab afresh
none_in f numbers places N = record {
  size = N.numbers_size;
  index = N;
  numbers_are = splice_none numbers 0;
  places_are = ext_get_or 0 places (replicate (2 * number_room) 0) (N.places_size ∙ sym (length-replicate {A = ℕ} (2 * number_room) 0)) (λ p l.
      let h : p < 2 * number_room = omega (arith, l, N.places_size) in
      let e : entry_at places p ≡ 0 = omega (arith, N.indexed.sparse.low p h) in
      e ∙ sym (get_or-replicate {A = ℕ} (2 * number_room) p 0 0 h));
  apart = refl;
}

module _ (n j : ℕ) (f : ℕ → ℤ) (begin numbers : List ℤ) (places : List ℕ) (I : Copied j f begin numbers places) (less : j < n) (few : n ≤ most_readings) {k : ℤ} (e : k ≡ f j)
    {ok : Bool} {numbers' : List ℤ} {places' : List ℕ} (A : Adds j numbers places k ok numbers' places') where
  test : ok ≡ not (among j f (f j))
  test = A.ok_is ∙ ap not (among_same j (at numbers) f k (copied_at j f begin numbers places I) ∙ ap (among j f) e)

  pub met_twice : ok ≡ false → IndexesBook n f begin false numbers' places'
  met_twice t =
      let m = apart_stops f n j less I.apart (sym test ∙ t) in
      record {
        ok_is = sym (all_stop n (λ j. not (among j f (f j))) j less (sym test ∙ t));
        numbers_are = A.numbers_are ∙ ap (λ (b : Bool). cond b (set numbers j k) numbers) t ∙ I.numbers_are ∙ ap (λ (m : ℕ). splice begin 0 (tab m f)) (sym m);
        places_are = A.places_are ∙ ap (λ (b : Bool). cond b (set places (place_for numbers places k) (j + 1)) places) t ∙ I.places_are ∙ ap (afresh number_room (λ i. f i ∷ [])) (sym m);
        index_is = λ y. absurd (no y);
        copied = λ y. absurd (no y);
      }
    where
      no : false ≡ true → ⊥
      no y = subst T (sym y) tt

  -- the keys that the index names are those of the numbers before
  same_key : (p i : ℕ) → entry_at places p ≡ suc i → key_at 1 numbers i ≡ f i ∷ []
  same_key p i q = go (dec_lt p (2 * number_room))
    where
      go : Dec (p < 2 * number_room) → key_at 1 numbers i ≡ f i ∷ []
      go (yes l) = key_one numbers i ∙ ap (λ (z : ℤ). z ∷ []) (copied_at j f begin numbers places I i (omega (arith, q, I.index.indexed.sparse.low p l)))
      go (no l) = absurd (omega (arith, q, get_or-eq_default places 0 {n = p} (omega (arith, I.index.places_size))))

  pub one_in : ok ≡ true → Copied (j + 1) f begin numbers' places'
  unfolding afresh
  one_in t = record {
    size = I.size;
    index = A.index_is t;
    numbers_are = A.numbers_are ∙ ap (λ (b : Bool). cond b (set numbers j k) numbers) t ∙ ap (λ (i : ℕ). set numbers i k) at_j
        ∙ splice_more begin 0 (tab (suc j) f) j (pos 0) (omega (arith, I.size)) (omega (arith, length_tab (suc j) f))
        (I.numbers_are ∙ ap (splice begin 0) (sym (take_tab (suc j) j f (omega arith)))) (e ∙ sym (get_or_tab (suc j) f j (pos 0) (omega arith)))
        ∙ ap (splice begin 0) (take_tab (suc j) (j + 1) f (omega arith));
    places_are = A.places_are ∙ ap (λ (b : Bool). cond b (set places (place_for numbers places k) (j + 1)) places) t
        ∙ ap₂ (λ (p m : ℕ). set places p m) (ap (place_for numbers places) e ∙ search_same number_room (key_at 1 numbers) (λ i. f i ∷ []) (entry_at places) (f j ∷ []) same_key) (add-one j)
        ∙ ap (λ (l : List ℕ). set l (search number_room (λ i. f i ∷ []) (entry_at l) (f j ∷ [])) (suc j)) I.places_are ∙ ap (afresh number_room (λ i. f i ∷ [])) (sym (add-one j));
    apart = all_more j (λ j. not (among j f (f j))) I.apart (sym test ∙ t);
  }
    where
      at_j : j ≡ 0 + j
      at_j = omega arith

pub all_in : (n j : ℕ) (f : ℕ → ℤ) (begin numbers : List ℤ) (places : List ℕ) → Copied j f begin numbers places → j ≡ n → IndexesBook n f begin true numbers places
all_in n j f begin numbers places I e = subst (λ (m : ℕ). IndexesBook m f begin true numbers places) e (
    let m = apart_all f j I.apart in
    record {
      ok_is = sym I.apart;
      numbers_are = I.numbers_are ∙ ap (λ (m : ℕ). splice begin 0 (tab m f)) (sym m);
      places_are = I.places_are ∙ ap (afresh number_room (λ i. f i ∷ [])) (sym m);
      index_is = λ y. I.index;
      copied = λ y. copied_at j f begin numbers places I;
    })

-- arrays that are 0 have no number
pub no_number : NumberIndex 0 (replicate number_room (pos 0)) (replicate (2 * number_room) 0)
unfolding afresh
no_number = record {
  numbers_size = length-replicate number_room (pos 0);
  places_size = length-replicate {A = ℕ} (2 * number_room) 0;
  few = omega arith;
  indexed = afresh_indexed number_room (omega arith) (key_at 1 (replicate number_room (pos 0))) 0 (omega arith) (λ i j l. absurd (not-suc-le-zero l));
}
