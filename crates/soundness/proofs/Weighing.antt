-- The pairs of a table: no mass is more than all masses together, so one that is more can be refused before it is multiplied or added.
use mathlib.Core.Path.{◌≡◌, refl, ap, sym, subst, ◌∙◌}
use mathlib.Core.Bool.{Bool, true, false, ◌&&◌}
use mathlib.Core.List.{List}
use Prim.Native.Nat.{ℕ, ◌+◌, ◌*◌, ◌≤◌, ◌<◌}
use native.Mathlib.Nat.{mul-le-mul_left}
use native.Mathlib.Omega.{arith}
use lib.Dec.{T, eqb, eqb→eq}
use lib.IntN.{ℤ, pos, ◌*ℤ◌}
use lib.ListN.{length}
use lib.Signed.{le_z, ◌≤ℤ◌}
use mir.Syntax.{w64}
use mir.Val.{to_z, of_z, SFits}
use mir.Facts.{to_z-of_z}
use Rattle.whole.specs.Size.{Within}
use Rattle.whole.specs.Sum.{sum, all}
use Rattle.whole.specs.Lists.{at}
use Rattle.whole.proofs.Tests.{and_l, and_r, and_i, all_at, all_of, T_true, T_false, T_ext, and_true}
use Rattle.lattice.specs.Limits.{most_value}
use Rattle.index.specs.Keys.{eq_z, key_at}
use Rattle.index.proofs.Equality.{eq-eqb, eq_z_eq, eq_z_refl, key_at_length}
use Rattle.table.specs.Sound.{good, good_key, good_pair, within_plus_minus}
use Rattle.table.proofs.Refusals.{T_of}
use Rattle.table.proofs.Soundness.{sum_one}
use Rattle.soundness.specs.Inner.{light_pair, Rows, row_at, light_row, good_rows}

-- ---- one pair
module _ (total : ℕ) (m v : ℤ) {r : Bool} (r-is : r ≡ (le_z (pos 1) m && le_z m (pos total))) where
  pub pair_out : r ≡ false → false ≡ light_pair total m v
  unfolding light_pair good_pair
  pair_out f =
      let some = le_z (pos 1) m in
      let w = within_plus_minus (pos most_value *ℤ m) v in
      let light = le_z m (pos total) in
      sym (T_false (light_pair total m v) (λ t. subst T (sym r-is ∙ f) (and_i some light (and_l some w (and_l (some && w) light t)) (and_r (some && w) light t))))

  pub pair_in : {s : Bool} → r ≡ true → s ≡ within_plus_minus (pos most_value *ℤ m) v → s ≡ light_pair total m v
  unfolding light_pair good_pair
  pair_in f g =
      let some = le_z (pos 1) m in
      let light = le_z m (pos total) in
      let t = T_of (sym r-is ∙ f) in
      g ∙ and_true (within_plus_minus (pos most_value *ℤ m) v) ∙ sym (rw (T_true some (and_l some light t), T_true light (and_r some light t)) refl)

-- ---- one key, lent as a part of the keys
pub key_of : {r : Bool} {k : List ℤ} (d : ℕ) (keys : List ℤ) (i : ℕ) → k ≡ key_at d keys i → r ≡ good_key (length k) k → r ≡ good_key d (key_at d keys i)
key_of {r} {k} d keys i e f = f ∙ ap (λ (n : ℕ). good_key n k) (ap length e ∙ key_at_length d keys i) ∙ ap (good_key d) e

-- ---- all of them
pub rows_fewer : {d m n : ℕ} {keys sums : List ℤ} → Rows d m keys sums → n ≤ m → Rows d n keys sums
rows_fewer {d} R h = record {
  d_least = R.d_least;
  d_most = R.d_most;
  few = omega (arith, R.few);
  stretches = omega (arith, R.stretches, mul-le-mul_left d h);
  pairs = omega (arith, R.pairs);
}

module _ (total d : ℕ) (keys sums : List ℤ) where
  abbrev mass_at : ℕ → ℤ
  mass_at i = at sums (2 * i)

  abbrev value_at : ℕ → ℤ
  value_at i = at sums (2 * i + 1)

  abbrev light : ℕ → Bool
  light = light_row total d keys sums

  pub row_key : (i : ℕ) → good_key d (key_at d keys i) ≡ false → false ≡ light i
  unfolding light_row
  row_key i e = sym (rw e refl)

  pub row_pair : {r : Bool} (i : ℕ) → good_key d (key_at d keys i) ≡ true → r ≡ light_pair total (mass_at i) (value_at i) → r ≡ light i
  unfolding light_row
  row_pair i e f = f ∙ sym (rw e refl)

  -- what a good point of no more mass than all has, in one and in two
  light_good : (i : ℕ) → T (light i) → T (good d (row_at d keys sums i))
  unfolding light_row light_pair
  light_good i t =
      let k = good_key d (key_at d keys i) in
      let p = good_pair (mass_at i) (value_at i) in
      let l = le_z (mass_at i) (pos total) in
      and_i k p (and_l k (p && l) t) (and_l p l (and_r k (p && l) t))

  light_least : (i : ℕ) → T (light i) → mass_at i ≤ℤ pos total
  unfolding light_row light_pair
  light_least i t =
      let k = good_key d (key_at d keys i) in
      let p = good_pair (mass_at i) (value_at i) in
      let l = le_z (mass_at i) (pos total) in
      record { le = and_r p l (and_r k (p && l) t) }

  good_some : (i : ℕ) → T (good d (row_at d keys sums i)) → pos 1 ≤ℤ mass_at i
  unfolding good_pair
  good_some i t =
      let k = good_key d (key_at d keys i) in
      let w = within_plus_minus (pos most_value *ℤ mass_at i) (value_at i) in
      record { le = and_l (le_z (pos 1) (mass_at i)) w (and_r k (le_z (pos 1) (mass_at i) && w) t) }

  good_light : (i : ℕ) → T (good d (row_at d keys sums i)) → mass_at i ≤ℤ pos total → T (light i)
  unfolding light_row light_pair
  good_light i t h =
      let k = good_key d (key_at d keys i) in
      let p = good_pair (mass_at i) (value_at i) in
      and_i k (p && le_z (mass_at i) (pos total)) (and_l k p t) (and_i p (le_z (mass_at i) (pos total)) (and_r k p t) h.le)

  pub row_mass : (i : ℕ) → light i ≡ true → Within (pos 1) (pos total) (mass_at i)
  row_mass i e = let t = subst T (sym e) tt in record { low = good_some i (light_good i t); high = light_least i t }

  -- where all is well no mass is above the total
  all_light : (m : ℕ) → T (good_rows total d m keys sums) → (i : ℕ) → i < m → T (light i)
  unfolding good_rows
  all_light m t i l =
      let a = all m (λ i. good d (row_at d keys sums i)) in
      let b = eq_z (sum m mass_at) (pos total) in
      let g = all_at m (λ i. good d (row_at d keys sums i)) (and_l a b t) in
      let e = eq_z_eq (sum m mass_at) (pos total) (and_r a b t) in
      good_light i (g i l) (subst (λ (z : ℤ). mass_at i ≤ℤ z) e (sum_one m mass_at (λ i l. good_some i (g i l)) i l))

  pub rows_stop : {r : Bool} (m i : ℕ) → i < m → r ≡ light i → r ≡ false → false ≡ good_rows total d m keys sums
  rows_stop m i l e f = sym (T_false (good_rows total d m keys sums) (λ t. subst T (sym e ∙ f) (all_light m t i l)))

  pub rows_done : {z : ℤ} (m i : ℕ) → i ≡ m → all i light ≡ true → z ≡ sum i mass_at → eq_z z (pos total) ≡ good_rows total d m keys sums
  unfolding good_rows
  rows_done m i q a e =
      let g = T_true (all i (λ i. good d (row_at d keys sums i))) (all_of i (λ i. good d (row_at d keys sums i)) (λ j l. light_good j (all_at i light (subst T (sym a) tt) j l))) in
      rw (← q, e, g) refl

-- the comparison of two sums by their bits
pub bits_same : {b : ℕ} {y z : ℤ} (total : ℕ) → SFits w64 (pos total) → y ≡ pos total → b ≡ of_z w64 z → to_z w64 b ≡ z → eqb b (of_z w64 y) ≡ eq_z z (pos total)
bits_same {b} {y} {z} total f o e g = rw o (T_ext (eqb b (of_z w64 (pos total))) (eq_z z (pos total))
    (λ t. subst (λ (x : ℤ). T (eq_z z x)) (sym g ∙ ap (to_z w64) (eqb→eq b (of_z w64 (pos total)) t) ∙ to_z-of_z f) (eq_z_refl z))
    (λ t. eq-eqb b (of_z w64 (pos total)) (e ∙ ap (of_z w64) (eq_z_eq z (pos total) t))))
