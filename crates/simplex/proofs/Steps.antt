-- The differences from a place, one at a time: what a turn adds, and that each floor stays small.
use mathlib.Core.Path.{◌≡◌, refl, sym, ap, ap₂, ◌∙◌}
use mathlib.Core.Logic.{◌⊎◌, inl, inr}
use mathlib.Core.List.{List}
use Prim.Native.Nat.{ℕ, ◌+◌, ◌-◌, ◌≤◌, ◌<◌, max}
use native.Mathlib.Numerals.{add-one}
use native.Mathlib.Omega.{arith}
use lib.IntN.{ℤ, pos, neg_ℤ, ◌+ℤ◌, ◌-ℤ◌, ◌*ℤ◌}
use lib.Signed.{◌≤ℤ◌, ◌<ℤ◌}
use lib.ListN.{length, set, length-set}
use Rattle.whole.specs.Size.{P, Abs≤, Within}
use Rattle.whole.specs.Floor.{floor, remainder}
use Rattle.whole.specs.Sum.{sum}
use Rattle.whole.specs.Lists.{at}
use Rattle.whole.proofs.Parts.{zin, zout}
use Rattle.whole.proofs.Signed.{zlin}
use Rattle.whole.proofs.Ring.{le_or_lt}
use Rattle.whole.proofs.Size.{zabs}
use Rattle.whole.proofs.Lists.{place_more}
use Rattle.whole.proofs.Floor.{remainder_lt}
use Rattle.whole.proofs.Sum.{sum_more, sum_abs}
use Rattle.lattice.specs.Points.{spanned}
use Rattle.simplex.specs.Inner.{peak, Total, SplitOf, joined, Part, Parts, coordinate, StepsFrom, Span, CornerFrom}
use Rattle.simplex.proofs.Splits.{minus_low, minus_high}
use Rattle.simplex.proofs.Peak.{peak_le}
use Rattle.simplex.proofs.Padding.{padded_cong}

pub steps_none : (w : ℕ) (x : ℕ → ℤ) (j : ℕ) {z : List ℤ} → length z ≡ 6 → StepsFrom w 0 x j z (pos 0) (pos 0)
unfolding sum peak
steps_none w x j e = record { z_six = e; z_is = λ i l. absurd (omega arith); total_is = refl; spread_is = refl }

pub steps_more : (w i : ℕ) (x : ℕ → ℤ) (j : ℕ) {z : List ℤ} {t v t' : ℤ} {s s' : ℕ} → i < 6 → StepsFrom w i x j z t (pos s)
    → v ≡ floor (x i -ℤ x j) w → t' ≡ t +ℤ v → s' ≡ max s (remainder (x i -ℤ x j) w) → StepsFrom w (i + 1) x j (set z i v) t' (pos s')
unfolding peak
steps_more w i x j {z} {t} {v} {s} h S e f g = record {
  z_six = length-set z i v ∙ S.z_six;
  z_is = place_more (λ i. floor (x i -ℤ x j) w) z (pos 0) i v (omega (arith, S.z_six)) e S.z_is;
  total_is = f ∙ ap₂ ◌+ℤ◌ S.total_is e ∙ sym (sum_more i (λ i. floor (x i -ℤ x j) w));
  spread_is = ap pos (g ∙ ap (λ (k : ℕ). max k (remainder (x i -ℤ x j) w)) (pos_same S.spread_is)) ∙ rw add-one refl;
}
  where
    pos_same : {m n : ℕ} → pos m ≡ pos n → m ≡ n
    pos_same e = ap P e

-- the floor of a difference of two coordinates is small
pub floor_near : (w : ℕ) (q r q' r' : ℤ) → Part w q r → Part w q' r' → Abs≤ (floor (joined w q r -ℤ joined w q' r') w) 2000001
floor_near w q r q' r' A B = go (le_or_lt (pos 0) (r -ℤ r'))
  where
    go : (pos 0 ≤ℤ (r -ℤ r')) ⊎ ((r -ℤ r') <ℤ pos 0) → Abs≤ (floor (joined w q r -ℤ joined w q' r') w) 2000001
    go (inl h) = rw (← (minus_high w q r q' r' A B h).floor_is) (zabs (search zlin depth 14) (omega (arith, zin)))
    go (inr h) = rw (← (minus_low w q r q' r' A B h).floor_is) (zabs (search zlin depth 14) (omega (arith, zin)))

-- the same of two of the splits
pub step_near : {w n i j : ℕ} {floors rests : List ℤ} {q r : ℤ} → Parts w n floors rests → i < n → j < n
    → SplitOf w (coordinate w floors rests i -ℤ coordinate w floors rests j) q r → Abs≤ q 2000001
step_near Q l k S = rw S.floor_is (floor_near _ _ _ _ _ (Q.part _ l) (Q.part _ k))

-- and so is its remainder
pub rest_within : {w : ℕ} {z q r : ℤ} → SplitOf w z q r → Total w → Within (pos 0) (pos 383) r
rest_within {w} {z} S t = let l = remainder_lt z w t.some in rw S.rest_is (record { low = omega (arith, zout); high = omega (arith, zout) })

-- ---- the corner that the steps make
module _ (w n : ℕ) (floors rests : List ℤ) (j : ℕ) (Q : Parts w n floors rests) (q : j < n) {z : List ℤ} {t : ℤ} {s : ℕ} (F : StepsFrom w n (coordinate w floors rests) j z t (pos s)) where
  abbrev x : ℕ → ℤ
  x = coordinate w floors rests

  each_near : (i : ℕ) → i < n → Abs≤ (floor (x i -ℤ x j) w) 2000001
  each_near i l = floor_near w (at floors i) (at rests i) (at floors j) (at rests j) (Q.part i l) (Q.part j q)

  pub span_of : Span n z t
  span_of = record {
    few = Q.few;
    z_six = F.z_six;
    total_near = let b = sum_abs n (λ i. floor (x i -ℤ x j) w) 2000001 each_near in let k = Q.few in rw F.total_is (record { abs = omega arith });
    z_near = λ i l. rw (F.z_is i l) (each_near i l);
  }

  pub spread_le : s ≤ w
  spread_le = let k = ap P F.spread_is in
      omega (arith, k, peak_le n (λ i. remainder (x i -ℤ x j) w) w (λ i l. let r = remainder_lt (x i -ℤ x j) w Q.total.some in omega arith))

  pub corner_made : {slot weight : ℕ} → slot ≡ remainder (neg_ℤ t) n → weight ≡ w - s → CornerFrom w n x j z t slot weight
  corner_made f g = record {
    span = span_of;
    slot_in = omega (arith, f, remainder_lt (neg_ℤ t) n (omega arith), Q.few);
    corner = record {
      point_is = padded_cong n (λ i. pos n *ℤ at z i -ℤ t) (spanned n (λ i. floor (x i -ℤ x j) w)) (λ i l. ap₂ (λ (a b : ℤ). pos n *ℤ a -ℤ b) (F.z_is i l) F.total_is);
      slot_is = f ∙ ap (λ (y : ℤ). remainder (neg_ℤ y) n) F.total_is;
      weight_is = g ∙ ap (λ (k : ℕ). w - k) (ap P F.spread_is);
    };
  }
