-- The slots of the enclosing simplex: what putting the corner of one more place makes of them, and that they hold the points of weight above 0.
use mathlib.Core.Path.{◌≡◌, refl, sym, ap, ap₂, ◌∙◌}
use mathlib.Core.Logic.{◌⊎◌, inl, inr, ◌≢◌}
use mathlib.Core.List.{List, [], ◌∷◌, map}
use Prim.Native.Nat.{ℕ, suc, ◌+◌, ◌*◌, ◌-◌, ◌/◌, ◌%◌, ◌≤◌, ◌<◌}
use native.Mathlib.Nat.{le_refl}
use native.Mathlib.Decide.{dec_lt}
use native.Mathlib.Omega.{arith}
use lib.IntN.{ℤ, pos, ◌-ℤ◌}
use lib.ListN.{length, get_or, set, take, drop}
use lib.Seq.{length-take-le, get_or-take}
use borrow.Author.Tests.{eq-eqb, ne_eqb}
use Rattle.whole.specs.Floor.{floor, remainder}
use Rattle.whole.specs.Lists.{at, tab, splice}
use Rattle.whole.proofs.Floor.{remainder_lt}
use Rattle.whole.proofs.Lists.{length_tab, get_or_tab, set_tab, tab_is, tab_cong, length_splice, get_or_splice_before, get_or_splice_in, get_or_splice_after, part_tab, collect_cong, map_collect}
use Rattle.lattice.specs.Lattice.{remainder_of}
use Rattle.lattice.specs.Weight.{W, weight}
use Rattle.lattice.specs.Points.{corner_at, corner, last_of, corner_of, points, weighed}
use Rattle.simplex.specs.Slots.{weight_in, coord_in, point_in, slot_weights, slot_coords, Encloses, slot}
use Rattle.simplex.specs.Inner.{padded, CornerIs, weights_by, coords_by}
use Rattle.simplex.specs.Theorems.{SlotsAreThePoints}
use Rattle.lattice.proofs.Grains.{spanned_remainder}
use Rattle.lattice.proofs.Points.{weight_cong, corner_at_lem, corner_point, corner_weight, found}
use Rattle.simplex.proofs.CornerWeight.{corner_weighs}
use Rattle.simplex.proofs.Leaving.{point_in_lem}
use Rattle.simplex.proofs.Padding.{padded_tab, length_padded}

-- ---- one corner more
corner_more : (d S : ℕ) (x : List ℤ) (j k : ℕ) → remainder_of d (at (corner d S x j)) ≡ k → corner_of d S x (suc j) k ≡ corner d S x j ∷ []
unfolding last_of
corner_more d S x j k e = rw (eq-eqb (remainder_of d (at (corner d S x j))) k e) refl

corner_other : (d S : ℕ) (x : List ℤ) (j k : ℕ) → (remainder_of d (at (corner d S x j)) ≡ k → ⊥) → corner_of d S x (suc j) k ≡ corner_of d S x j k
unfolding last_of
corner_other d S x j k f = rw (ne_eqb (remainder_of d (at (corner d S x j))) k f) refl

module _ (d S : ℕ) (x : List ℤ) (j : ℕ) where
  abbrev k : ℕ
  k = remainder_of d (at (corner d S x j))

  weights_more : k < 6 → set (weights_by d S x j) k (weight d S (at x) (at (corner d S x j))) ≡ weights_by d S x (suc j)
  unfolding weights_by
  weights_more h = set_tab 6 (λ k. weight_in d S x (corner_of d S x j k)) (λ k. weight_in d S x (corner_of d S x (suc j) k)) k (weight d S (at x) (at (corner d S x j))) h
      (ap (weight_in d S x) (sym (corner_more d S x j k refl)))
      (λ i l q. ap (weight_in d S x) (sym (corner_other d S x j i (λ e. q (sym e)))))

  inside : (i : ℕ) → i < 6 → at (padded (suc d) (corner_at d S (at x) j)) i ≡ at (corner d S x j) i
  unfolding corner
  inside i l = padded_tab (suc d) (corner_at d S (at x) j) i l

  coords_more : d ≤ 5 → k < 6 → splice (coords_by d S x j) (6 * k) (padded (suc d) (corner_at d S (at x) j)) ≡ coords_by d S x (suc j)
  unfolding coords_by
  coords_more hd h = tab_is 36 new (splice (tab 36 old) (6 * k) v) (pos 0) size each
    where
      old : ℕ → ℤ
      old t = coord_in (corner_of d S x j (t / 6)) (t % 6)

      new : ℕ → ℤ
      new t = coord_in (corner_of d S x (suc j) (t / 6)) (t % 6)

      v : List ℤ
      v = padded (suc d) (corner_at d S (at x) j)

      size : length (splice (tab 36 old) (6 * k) v) ≡ 36
      size = length_splice (tab 36 old) (6 * k) v (omega (arith, length_tab 36 old, length_padded (suc d) (corner_at d S (at x) j))) ∙ length_tab 36 old

      outside : (t : ℕ) → t < 36 → t / 6 ≢ k → get_or (tab 36 old) t (pos 0) ≡ new t
      outside t l q = get_or_tab 36 old t (pos 0) l ∙ ap (λ (c : List (List ℤ)). coord_in c (t % 6)) (sym (corner_other d S x j (t / 6) (λ e. q (sym e))))

      each : (t : ℕ) → t < 36 → get_or (splice (tab 36 old) (6 * k) v) t (pos 0) ≡ new t
      each t l = go (dec_lt t (6 * k)) (dec_lt t (6 * k + 6))
        where
          room : 6 * k ≤ length (tab 36 old)
          room = omega (arith, length_tab 36 old)

          go : Dec (t < 6 * k) → Dec (t < 6 * k + 6) → get_or (splice (tab 36 old) (6 * k) v) t (pos 0) ≡ new t
          go (yes a) b = get_or_splice_before (tab 36 old) (6 * k) v t (pos 0) room a ∙ outside t l (λ e. omega arith)
          go (no a) (yes b) =
              let i = t - 6 * k in
              let e : t ≡ 6 * k + i = omega arith in
              ap (λ (t : ℕ). get_or (splice (tab 36 old) (6 * k) v) t (pos 0)) e
              ∙ get_or_splice_in (tab 36 old) (6 * k) v i (pos 0) room (omega (arith, length_padded (suc d) (corner_at d S (at x) j)))
              ∙ inside i (omega arith)
              ∙ ap₂ (λ (c : List (List ℤ)) (i : ℕ). coord_in c i) (sym (corner_more d S x j (t / 6) (omega arith))) (omega arith)
          go (no a) (no b) =
              let n = length v in
              let size : n ≡ 6 = length_padded (suc d) (corner_at d S (at x) j) in
              let i = t - 6 * k - n in
              let e : t ≡ 6 * k + (n + i) = omega arith in
              let f : 6 * k + n + i ≡ t = omega arith in
              ap (λ (t : ℕ). get_or (splice (tab 36 old) (6 * k) v) t (pos 0)) e
              ∙ get_or_splice_after (tab 36 old) (6 * k) v i (pos 0) room
              ∙ ap (λ (t : ℕ). get_or (tab 36 old) t (pos 0)) f
              ∙ outside t l (λ q. omega arith)

  -- ---- the corner as the program finds it
  module _ (p : 0 < S) (q : j < suc d) {point : List ℤ} {place heft : ℕ} (C : CornerIs (W d S) (suc d) (at x) j point place heft) where
    pub place_is : place ≡ k
    place_is = C.slot_is ∙ sym (spanned_remainder (suc d) (λ i. floor (at x i -ℤ at x j) (W d S)) 0 (omega arith))
        ∙ ap (λ (z : ℤ). remainder z (suc d)) (sym (corner_at_lem d S p x j 0 (omega arith)))

    heft_is : heft ≡ weight d S (at x) (at (corner d S x j))
    heft_is = C.weight_is ∙ sym (corner_weighs d S p (at x) j q) ∙ weight_cong d S (at x) (corner_at d S (at x) j) (at (corner d S x j)) (λ i l. sym (corner_at_lem d S p x j i l))

    pub place_in : d ≤ 5 → place < 6
    place_in h = omega (arith, place_is, remainder_lt (at (corner d S x j) 0) (suc d) (omega arith))

    pub weights_turn : d ≤ 5 → {ws ws' : List ℕ} → ws ≡ weights_by d S x j → ws' ≡ set ws place heft → ws' ≡ weights_by d S x (suc j)
    weights_turn h e f = f ∙ rw (e, place_is, heft_is) (weights_more (rw place_is at (place_in h)))

    pub coords_turn : d ≤ 5 → {cs cs' : List ℤ} → cs ≡ coords_by d S x j → cs' ≡ splice cs (6 * place) point → cs' ≡ coords_by d S x (suc j)
    coords_turn h e f = f ∙ rw (e, place_is, C.point_is) (coords_more h (rw place_is at (place_in h)))

-- ---- the slots hold the points
module _ (d S : ℕ) (hd : d ≤ 5) (p : 0 < S) (x : List ℤ) (k : ℕ) (l : k < suc d) where
  g : List ℤ → List ℤ × ℕ
  g y = (y, weight d S (at x) (at y))

  weight_at : get_or (weights_by d S x (suc d)) k 0 ≡ weight_in d S x (corner_of d S x (suc d) k)
  unfolding weights_by
  weight_at = get_or_tab 6 (λ k. weight_in d S x (corner_of d S x (suc d) k)) k 0 (omega arith)

  coord_at : (i : ℕ) → i < suc d → at (coords_by d S x (suc d)) (6 * k + i) ≡ coord_in (corner_of d S x (suc d) k) i
  unfolding coords_by
  coord_at i m = get_or_tab 36 (λ t. coord_in (corner_of d S x (suc d) (t / 6)) (t % 6)) (6 * k + i) (pos 0) (omega arith)
      ∙ ap₂ (λ (t i : ℕ). coord_in (corner_of d S x (suc d) t) i) (omega arith) (omega arith)

  none_in : corner_of d S x (suc d) k ≡ [] → slot d (weights_by d S x (suc d)) (coords_by d S x (suc d)) k ≡ []
  unfolding slot
  none_in e = rw (weight_at, e) refl

  one_in : (c : ℕ) → c < suc d → corner_of d S x (suc d) k ≡ corner d S x c ∷ [] → slot d (weights_by d S x (suc d)) (coords_by d S x (suc d)) k ≡ g (corner d S x c) ∷ []
  unfolding slot g
  one_in c q e =
      let w : get_or (weights_by d S x (suc d)) k 0 ≡ weight d S (at x) (at (corner d S x c)) = weight_at ∙ ap (weight_in d S x) e in
      let y : tab (suc d) (λ i. at (coords_by d S x (suc d)) (6 * k + i)) ≡ corner d S x c =
      sym (tab_is (suc d) (λ i. at (coords_by d S x (suc d)) (6 * k + i)) (corner d S x c) (pos 0) (corner_point d S p x c).size
      (λ i m. sym (coord_at i m ∙ ap (λ (t : List (List ℤ)). coord_in t i) e))) in
      rw (w, ne_eqb (weight d S (at x) (at (corner d S x c))) 0 (λ z. omega (arith, corner_weight d S p x c q)), y) refl

  slot_is : slot d (weights_by d S x (suc d)) (coords_by d S x (suc d)) k ≡ map g (corner_of d S x (suc d) k)
  slot_is = go (found d S p x k (suc d) (le_refl (suc d)))
    where
      go : ((corner_of d S x (suc d) k ≡ []) × ((j : ℕ) → j < suc d → remainder_of d (at (corner d S x j)) ≡ k → ⊥))
          ⊎ ((c : ℕ) × (c < suc d) × (remainder_of d (at (corner d S x c)) ≡ k) × (corner_of d S x (suc d) k ≡ corner d S x c ∷ []))
          → slot d (weights_by d S x (suc d)) (coords_by d S x (suc d)) k ≡ map g (corner_of d S x (suc d) k)
      go (inl n) = none_in n.0 ∙ sym (ap (map g) n.0)
      go (inr c) = one_in c.0 c.1 c.3 ∙ sym (ap (map g) c.3)

-- when the corners of all places are in, each slot has the point of its remainder
pub weights_all : (d S : ℕ) (x : List ℤ) → 0 < S → weights_by d S x (suc d) ≡ slot_weights d S x
unfolding weights_by slot_weights
weights_all d S x p = tab_cong 6 (λ k. weight_in d S x (corner_of d S x (suc d) k)) (λ k. weight_in d S x (point_in d S x k)) (λ k l. ap (weight_in d S x) (sym (point_in_lem d S p x k)))

pub coords_all : (d S : ℕ) (x : List ℤ) → 0 < S → coords_by d S x (suc d) ≡ slot_coords d S x
unfolding coords_by slot_coords
coords_all d S x p = tab_cong 36 (λ t. coord_in (corner_of d S x (suc d) (t / 6)) (t % 6)) (λ t. coord_in (point_in d S x (t / 6)) (t % 6))
    (λ t l. ap (λ (c : List (List ℤ)). coord_in c (t % 6)) (sym (point_in_lem d S p x (t / 6))))

pub slots_are_the_points : SlotsAreThePoints
unfolding weighed points g
slots_are_the_points d S hd p x ws cs E = rw (E.weights_are ∙ sym (weights_all d S x p), E.coords_are ∙ sym (coords_all d S x p))
    (collect_cong (suc d) (slot d (weights_by d S x (suc d)) (coords_by d S x (suc d))) (λ k. map (λ y. (y, weight d S (at x) (at y))) (corner_of d S x (suc d) k)) (λ k l. slot_is d S hd p x k l)
    ∙ sym (map_collect (λ y. (y, weight d S (at x) (at y))) (suc d) (corner_of d S x (suc d))))

-- what a caller needs to read them
pub weights_length : {d S : ℕ} {x : List ℤ} {ws : List ℕ} {cs : List ℤ} → Encloses d S x ws cs → length ws ≡ 6
unfolding slot_weights
weights_length E = rw E.weights_are (length_tab 6 _)

pub coords_length : {d S : ℕ} {x : List ℤ} {ws : List ℕ} {cs : List ℤ} → Encloses d S x ws cs → length cs ≡ 36
unfolding slot_coords
coords_length E = rw E.coords_are (length_tab 36 _)

weight_most : (d S : ℕ) (x : List ℤ) (l : List (List ℤ)) → weight_in d S x l ≤ W d S
unfolding weight
weight_most d S x [] = omega arith
weight_most d S x (y ∷ l) = omega arith

pub weights_most : {d S : ℕ} {x : List ℤ} {ws : List ℕ} {cs : List ℤ} → Encloses d S x ws cs → (k : ℕ) → k < 6 → get_or ws k 0 ≤ W d S
unfolding slot_weights
weights_most {d} {S} {x} E k l = rw (E.weights_are, get_or_tab 6 (λ k. weight_in d S x (point_in d S x k)) k 0 l) (weight_most d S x (point_in d S x k))

-- the coordinates of slot k that are kept, as they are lent
pub kept_part : (d : ℕ) (cs : List ℤ) (k : ℕ) → d ≤ 5 → k < suc d → length cs ≡ 36 → take d (drop (6 * k) cs) ≡ take d (tab (suc d) (λ i. at cs (6 * k + i)))
kept_part d cs k h l e = ap (λ (n : ℕ). take n (drop (6 * k) cs)) size ∙ part_tab cs (6 * k) d (pos 0) (omega arith)
    ∙ sym (tab_is d f (take d (tab (suc d) f)) (pos 0) (length-take-le d (tab (suc d) f) (omega (arith, length_tab (suc d) f)))
    (λ i q. get_or-take d (tab (suc d) f) i (pos 0) q ∙ get_or_tab (suc d) f i (pos 0) (omega arith)))
  where
    f : ℕ → ℤ
    f i = at cs (6 * k + i)

    size : d ≡ 6 * k + d - 6 * k
    size = omega arith
