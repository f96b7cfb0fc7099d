-- The steps of the blur move lattice points to lattice points: a step is one itself, and lattice points can be added and taken away. The key of
-- a moved point is that of the point with the step added at each of its d+1 places.
use mathlib.Core.Path.{◌≡◌, refl, sym, ap, ap₂, ◌∙◌}
use mathlib.Core.Logic.{◌⊎◌, inl, inr}
use mathlib.Core.Bool.{Bool, true, false, cond}
use mathlib.Core.List.{List}
use Prim.Native.Nat.{ℕ, suc, ◌<◌}
use native.Mathlib.Nat.{eq-or-lt_of_le, le_of_suc-le-suc}
use native.Mathlib.Omega.{arith}
use lib.IntN.{ℤ, pos, negsuc, neg_ℤ, ◌+ℤ◌, ◌-ℤ◌, ◌*ℤ◌}
use lib.Dec.{eqb, eqb→eq, eqb_refl}
use lib.ListN.{length}
use Rattle.whole.specs.Floor.{floor, remainder}
use Rattle.whole.specs.Sum.{sum}
use Rattle.whole.specs.Lists.{at, tab}
use Rattle.whole.proofs.Linear.{on, difs, ints}
use Rattle.whole.proofs.Floor.{div_rem, remainder_shift}
use Rattle.whole.proofs.Sum.{sum_cong, sum_add, sum_neg, sum_const, pick, one_hit}
use Rattle.whole.proofs.Lists.{length_tab, get_or_tab}
use Rattle.whole.proofs.Ring.{minus_plus}
use Rattle.lattice.specs.Lattice.{Lattice, Point}
use Rattle.lattice.proofs.Points.{lattice_cong}
use Rattle.table.specs.Table.{whole}
use Rattle.table.proofs.Good.{whole_size, whole_sum, kept_at}
use Rattle.blur.specs.Blur.{step, plus_step, minus_step}
use Rattle.blur.specs.Theorems.{StepsAreLattice}

-- ---- lattice points added and taken away
-- numbers of one remainder are a multiple of the divisor apart
apart : (m : ℕ) (a b : ℤ) → 0 < m → remainder a m ≡ remainder b m → a ≡ b +ℤ pos m *ℤ (floor a m -ℤ floor b m)
apart m a b h e = lin m a b (floor a m) (floor b m) (pos (remainder b m)) (div_rem a m h ∙ ap (λ (r : ℕ). pos m *ℤ floor a m +ℤ pos r) e) (div_rem b m h)
  where
    lin : (m : ℕ) (a b p q r : ℤ) → a ≡ pos m *ℤ p +ℤ r → b ≡ pos m *ℤ q +ℤ r → a ≡ b +ℤ pos m *ℤ (p -ℤ q)
    lin m = on _ λ a b. on _ λ c d. on _ λ e f. on _ λ g h. on _ λ i j. simp difs (omega ints)

lattice_add : (n : ℕ) (y z : ℕ → ℤ) → 0 < n → Lattice n y → Lattice n z → Lattice n (λ i. y i +ℤ z i)
lattice_add n y z p Y Z = record {
  total = sum_add n y z ∙ ap₂ ◌+ℤ◌ Y.total Z.total;
  same = λ i l.
      let j = floor (y i) n -ℤ floor (y 0) n in
      let k = floor (z i) n -ℤ floor (z 0) n in
      ap (λ (a : ℤ). remainder a n) (lin n (y i) (z i) (y 0) (z 0) j k (apart n (y i) (y 0) p (Y.same i l)) (apart n (z i) (z 0) p (Z.same i l)))
      ∙ remainder_shift (y 0 +ℤ z 0) (j +ℤ k) n p;
}
  where
    lin : (n : ℕ) (a b a' b' j k : ℤ) → a ≡ a' +ℤ pos n *ℤ j → b ≡ b' +ℤ pos n *ℤ k → a +ℤ b ≡ a' +ℤ b' +ℤ pos n *ℤ (j +ℤ k)
    lin n = on _ λ a b. on _ λ c d. on _ λ e f. on _ λ g h. on _ λ i j. on _ λ k l. simp difs (omega ints)

lattice_neg : (n : ℕ) (y : ℕ → ℤ) → 0 < n → Lattice n y → Lattice n (λ i. neg_ℤ (y i))
lattice_neg n y p Y = record {
  total = sum_neg n y ∙ ap neg_ℤ Y.total;
  same = λ i l.
      let j = floor (y i) n -ℤ floor (y 0) n in
      ap (λ (a : ℤ). remainder a n) (lin n (y i) (y 0) j (apart n (y i) (y 0) p (Y.same i l))) ∙ remainder_shift (neg_ℤ (y 0)) (neg_ℤ j) n p;
}
  where
    lin : (n : ℕ) (a b j : ℤ) → a ≡ b +ℤ pos n *ℤ j → neg_ℤ a ≡ neg_ℤ b +ℤ pos n *ℤ neg_ℤ j
    lin n = on _ λ a b. on _ λ c d. on _ λ e f. simp difs (omega ints)

-- ---- a step is 1 everywhere, less d+1 at one place
step_is : (d k i : ℕ) → step d k i ≡ pos 1 +ℤ pick (eqb i k) (neg_ℤ (pos (suc d)))
unfolding step
step_is d k i = go (eqb i k)
  where
    lin : (a b : ℤ) → b ≡ a +ℤ pos 1 → neg_ℤ a ≡ pos 1 +ℤ neg_ℤ b
    lin = on _ λ a b. on _ λ c d. simp difs (omega ints)

    go : (s : Bool) → cond s (neg_ℤ (pos d)) (pos 1) ≡ pos 1 +ℤ pick s (neg_ℤ (pos (suc d)))
    go true = lin (pos d) (pos (suc d)) (ap pos (omega arith))
    go false = refl

step_lattice : (d k : ℕ) → k < suc d → Lattice (suc d) (step d k)
step_lattice d k h = lattice_cong d (λ i. pos 1 +ℤ pick (eqb i k) less) (step d k) (λ i l. sym (step_is d k i)) (record {
  total = sum_add (suc d) (λ i. pos 1) (λ i. pick (eqb i k) less)
      ∙ ap₂ ◌+ℤ◌ (sum_const (suc d) (pos 1)) (one_hit (suc d) (λ i. eqb i k) (λ i. less) k h (eqb_refl k) (λ i l t. eqb→eq i k t)) ∙ lin (pos (suc d));
  same = λ i l. one (eqb i k) ∙ sym (one (eqb 0 k));
})
  where
    less : ℤ
    less = neg_ℤ (pos (suc d))

    lin : (a : ℤ) → a *ℤ pos 1 +ℤ neg_ℤ a ≡ pos 0
    lin = on _ λ a b. simp difs (omega ints)

    lin' : (a b : ℤ) → b +ℤ neg_ℤ a ≡ b +ℤ a *ℤ negsuc 0
    lin' = on _ λ a b. on _ λ c d. simp difs (omega ints)

    -- 1 and 1 - (d+1) leave one remainder
    one : (s : Bool) → remainder (pos 1 +ℤ pick s less) (suc d) ≡ remainder (pos 1) (suc d)
    one true = ap (λ (a : ℤ). remainder a (suc d)) (lin' (pos (suc d)) (pos 1)) ∙ remainder_shift (pos 1) (negsuc 0) (suc d) (omega arith)
    one false = refl

-- ---- the point of a moved key
-- d+1 numbers of sum 0 are told by the first d
first_tell : (d : ℕ) (f g : ℕ → ℤ) → sum (suc d) f ≡ pos 0 → sum (suc d) g ≡ pos 0 → ((i : ℕ) → i < d → f i ≡ g i) → (i : ℕ) → i < suc d → f i ≡ g i
unfolding sum
first_tell d f g F G e i l = go (eq-or-lt_of_le (le_of_suc-le-suc l))
  where
    lin : (a b x y : ℤ) → a +ℤ x ≡ pos 0 → b +ℤ y ≡ pos 0 → a ≡ b → x ≡ y
    lin = on _ λ a b. on _ λ c d. on _ λ e f. on _ λ g h. simp difs (omega ints)

    go : (i ≡ d) ⊎ (i < d) → f i ≡ g i
    go (inl q) = rw q (lin (sum d f) (sum d g) (f d) (g d) F G (sum_cong d f g e))
    go (inr q) = e i q

module _ (d : ℕ) (y : List ℤ) (size : length y ≡ d) (Y : Point d (whole y)) (g : ℕ → ℤ) (G : Lattice (suc d) g) where
  abbrev moved : List ℤ
  moved = tab d (λ i. at y i +ℤ g i)

  together : Lattice (suc d) (λ i. at (whole y) i +ℤ g i)
  together = lattice_add (suc d) (at (whole y)) g (omega arith) Y.lattice G

  moved_size : length moved ≡ d
  moved_size = length_tab d (λ i. at y i +ℤ g i)

  moved_at : (i : ℕ) → i < suc d → at (whole moved) i ≡ at (whole y) i +ℤ g i
  moved_at = first_tell d (at (whole moved)) (λ i. at (whole y) i +ℤ g i) (whole_sum d moved moved_size) together.total
      (λ i l. kept_at moved i (rw moved_size l) ∙ get_or_tab d (λ i. at y i +ℤ g i) i (pos 0) l ∙ ap (λ (a : ℤ). a +ℤ g i) (sym (kept_at y i (rw size l))))

  moved_point : Point d (whole moved)
  moved_point = record { size = whole_size moved ∙ ap suc moved_size; lattice = lattice_cong d (λ i. at (whole y) i +ℤ g i) (at (whole moved)) (λ i l. sym (moved_at i l)) together }

pub steps_are_lattice : StepsAreLattice
unfolding plus_step minus_step
steps_are_lattice d k h y size Y =
    let up = step_lattice d k h in
    let down = lattice_neg (suc d) (step d k) (omega arith) up in
    record {
      plus_point = moved_point d y size Y (step d k) up;
      plus_at = moved_at d y size Y (step d k) up;
      minus_point = moved_point d y size Y (λ i. neg_ℤ (step d k i)) down;
      minus_at = λ i l. ap (λ (a : ℤ). a +ℤ step d k i) (moved_at d y size Y (λ i. neg_ℤ (step d k i)) down i l) ∙ minus_plus (at (whole y) i) (step d k i);
    }
