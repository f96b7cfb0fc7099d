-- The loop of `enclose`, over plain numbers: what its calls ask and give, from what is asked of a position.
use borrow.Rule.Slice.PartMut.{put_mid}
use mathlib.Core.Path.{◌≡◌, refl, sym, ap, ap₂, ◌∙◌}
use mathlib.Core.List.{List}
use Prim.Native.Nat.{ℕ, suc, ◌+◌, ◌*◌, ◌-◌, ◌≤◌, ◌<◌}
use native.Mathlib.Nat.{mul-le-mul, mul-pos}
use native.Mathlib.Numerals.{add-one}
use native.Mathlib.Omega.{arith}
use lib.IntN.{ℤ, pos, neg_ℤ, ◌-ℤ◌, ◌*ℤ◌}
use lib.ListN.{length, replicate}
use Rattle.whole.specs.Floor.{floor, remainder}
use Rattle.whole.specs.Sum.{sum}
use Rattle.whole.specs.Lists.{at, tab, splice}
use Rattle.whole.proofs.Sum.{sum_cong}
use Rattle.whole.proofs.Lists.{back}
use Rattle.lattice.specs.Weight.{W}
use Rattle.lattice.specs.Points.{spanned, last_of}
use Rattle.simplex.specs.Slots.{Placed}
use Rattle.simplex.specs.Inner.{Total, Near, Parts, coordinate, SplitsOf, point_of, CornerIs, weights_by, coords_by}
use Rattle.simplex.proofs.Splits.{part_of, join_split}
use Rattle.simplex.proofs.Peak.{peak_cong}
use Rattle.simplex.proofs.Padding.{padded_cong, length_padded}

-- ---- a corner depends on the first n coordinates only
corner_cong : (w n : ℕ) (x y : ℕ → ℤ) (j : ℕ) {point : List ℤ} {slot weight : ℕ} → ((i : ℕ) → i < n → x i ≡ y i) → j < n → CornerIs w n x j point slot weight → CornerIs w n y j point slot weight
corner_cong w n x y j e q C = record {
  point_is = C.point_is ∙ padded_cong n (spanned n (λ i. floor (x i -ℤ x j) w)) (spanned n (λ i. floor (y i -ℤ y j) w)) (λ i l. ap₂ (λ (a b : ℤ). pos n *ℤ a -ℤ b) (each i l) whole);
  slot_is = C.slot_is ∙ ap (λ (z : ℤ). remainder (neg_ℤ z) n) whole;
  weight_is = C.weight_is ∙ ap (λ (k : ℕ). w - k) (peak_cong n (λ i. remainder (x i -ℤ x j) w) (λ i. remainder (y i -ℤ y j) w) (λ i l. ap (λ (z : ℤ). remainder z w) (gap i l)));
}
  where
    gap : (i : ℕ) → i < n → x i -ℤ x j ≡ y i -ℤ y j
    gap i l = ap₂ ◌-ℤ◌ (e i l) (e j q)

    each : (i : ℕ) → i < n → floor (x i -ℤ x j) w ≡ floor (y i -ℤ y j) w
    each i l = ap (λ (z : ℤ). floor z w) (gap i l)

    whole : sum n (λ i. floor (x i -ℤ x j) w) ≡ sum n (λ i. floor (y i -ℤ y j) w)
    whole = sum_cong n (λ i. floor (x i -ℤ x j) w) (λ i. floor (y i -ℤ y j) w) each

-- ---- the numbers of the call
module _ (d S : ℕ) (x : List ℤ) (Q : Placed d S x) where
  total_of : Total ((d + 1) * S)
  total_of = let a : d + 1 ≤ 6 = omega (arith, Q.d_most) in record {
    some = mul-pos {m = d + 1} (omega arith) Q.S_least;
    most = omega (arith, mul-le-mul a Q.S_most);
  }

  pub near_of : Near ((d + 1) * S) x (length x)
  near_of = record { total = total_of; few = omega (arith, Q.size, Q.d_most); near = λ i l. Q.near i (omega (arith, Q.size)) }

  module _ {floors rests : List ℤ} (R : SplitsOf ((d + 1) * S) (length x) x floors rests) where
    floor_at : (i : ℕ) → i < d + 1 → at floors i ≡ floor (at x i) ((d + 1) * S)
    floor_at i l = R.floor_at i (omega (arith, Q.size))

    rest_at : (i : ℕ) → i < d + 1 → at rests i ≡ pos (remainder (at x i) ((d + 1) * S))
    rest_at i l = R.rest_at i (omega (arith, Q.size))

    pub parts_of : Parts ((d + 1) * S) (d + 1) floors rests
    parts_of = record {
      total = total_of;
      few = omega (arith, Q.d_most);
      six = R.six;
      part = λ i l. rw (floor_at i l, rest_at i l) (part_of ((d + 1) * S) (at x i) total_of.some (Q.near i (omega arith)));
    }

    own : (i : ℕ) → i < d + 1 → coordinate ((d + 1) * S) floors rests i ≡ at x i
    own i l = rw (floor_at i l, rest_at i l) (join_split ((d + 1) * S) (at x i) total_of.some)

    pub corner_is : (j : ℕ) → j < d + 1 → {point : List ℤ} {slot weight : ℕ} → CornerIs ((d + 1) * S) (d + 1) (coordinate ((d + 1) * S) floors rests) j point slot weight
        → CornerIs (W d S) (suc d) (at x) j point slot weight
    corner_is j q C = rw (← (add-one d)) (corner_cong ((d + 1) * S) (d + 1) (coordinate ((d + 1) * S) floors rests) (at x) j own q C)

-- ---- the slots before the first corner
pub no_weights : (d S : ℕ) (x : List ℤ) → replicate 6 0 ≡ weights_by d S x 0
unfolding weights_by tab last_of
no_weights d S x = refl

pub no_coords : (d S : ℕ) (x : List ℤ) → replicate 36 (pos 0) ≡ coords_by d S x 0
unfolding coords_by tab last_of
no_coords d S x = refl

-- ---- a turn: the stretch of a slot, with the point in it
pub put_back : (a n : ℕ) (l z : List ℤ) (t : ℤ) {w : List ℤ} → w ≡ point_of n z t → put_mid a (a + 6 - a) l w ≡ splice l a (point_of n z t)
put_back a n l z t {w} e = ap (λ (m : ℕ). put_mid a (a + m - a) l w) (sym (length_padded n (λ i. pos n *ℤ at z i -ℤ t))) ∙ back a l (point_of n z t) w e
