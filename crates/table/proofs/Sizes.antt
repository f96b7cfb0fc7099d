-- "These limits keep every sum in 64 bits": the sizes of the pairs of a table to which a row may be added, before and after.
use Prim.Native.Nat.{ℕ, ◌*◌, ◌<◌}
use lib.IntN.{ℤ, pos, neg_ℤ, negsuc, ◌+ℤ◌, ◌*ℤ◌}
use lib.Signed.{◌≤ℤ◌}
use Rattle.whole.specs.Size.{Abs≤}
use Rattle.whole.specs.Sum.{over}
use Rattle.whole.proofs.Linear.{on, difs, ints}
use Rattle.whole.proofs.Size.{abs_pair}
use Rattle.lattice.specs.Limits.{most_value, most_W, most_readings}
use Rattle.table.specs.Table.{Settings, Table, Row, mass, value, row, rows, mass_of}
use Rattle.table.specs.Sound.{Good}
use Rattle.table.specs.Inner.{Addable}
use Rattle.table.proofs.Lists.{all_tab}
use Rattle.table.proofs.Soundness.{mass_over}
use Rattle.table.proofs.Pouring.{masses_low}

pub record PairSmall (m v : ℤ) : Type 0 where
  pub mass_small : Abs≤ m (most_W * most_readings)
  pub value_small : Abs≤ v (most_value * (most_W * most_readings))

-- a pair of no more mass than 4,096 readings have
pub good_small : (d : ℕ) (r : Row) → Good d r → r.mass ≤ℤ pos (most_W * most_readings) → PairSmall r.mass r.value
good_small d r G h = record {
  mass_small = abs_pair (lin₁ r.mass G.some) h;
  value_small = abs_pair (lin₂ r.mass r.value h G.low) (lin₃ r.mass r.value h G.high);
}
  where
    lin₁ : (m : ℤ) → pos 1 ≤ℤ m → negsuc 1572863 ≤ℤ m
    lin₁ = on _ λ a b. simp difs (omega ints)

    lin₂ : (m v : ℤ) → m ≤ℤ pos 1572864 → neg_ℤ (pos most_value *ℤ m) ≤ℤ v → negsuc 1572863999999 ≤ℤ v
    lin₂ = on _ λ a b. on _ λ c d. simp difs (omega ints)

    lin₃ : (m v : ℤ) → m ≤ℤ pos 1572864 → v ≤ℤ (pos most_value *ℤ m) → v ≤ℤ pos 1572864000000
    lin₃ = on _ λ a b. on _ λ c d. simp difs (omega ints)

module _ (c : Settings) (t : Table) (r : Row) (A : Addable c t r) where
  low : pos 0 ≤ℤ over (rows c t) mass_of
  unfolding rows
  low = masses_low c.d (rows c t) (all_tab (Good c.d) t.m (row c t) A.kept.good)

  -- the row itself
  pub row_small : PairSmall r.mass r.value
  row_small = good_small c.d r A.good (lin (over (rows c t) mass_of) r.mass (pos (most_W * most_readings)) low A.light)
    where
      lin : (o m w : ℤ) → pos 0 ≤ℤ o → (o +ℤ m) ≤ℤ w → m ≤ℤ w
      lin = on _ λ a b. on _ λ c d. on _ λ e f. simp difs (omega ints)

  -- a stored pair
  pub old_small : (i : ℕ) → i < t.m → PairSmall (mass t i) (value t i)
  old_small i l = good_small c.d (row c t i) (A.kept.good i l)
      (lin (mass t i) (over (rows c t) mass_of) r.mass (pos (most_W * most_readings)) (mass_over c t A.kept i l) A.good.some A.light)
    where
      lin : (x o m w : ℤ) → x ≤ℤ o → pos 1 ≤ℤ m → (o +ℤ m) ≤ℤ w → x ≤ℤ w
      lin = on _ λ a b. on _ λ c d. on _ λ e f. on _ λ g h. simp difs (omega ints)
