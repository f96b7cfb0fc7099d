-- The slots of a simplex on a sheet, one after the other.
use mathlib.Core.Path.{◌≡◌}
use mathlib.Core.List.{List}
use Prim.Native.Nat.{ℕ, suc, ◌+◌, ◌*◌, ◌≤◌, ◌<◌}
use native.Mathlib.Omega.{arith}
use lib.IntN.{ℤ, pos, ◌*ℤ◌}
use lib.ListN.{get_or, take, drop}
use Rattle.whole.proofs.Size.{abs_of}
use Rattle.lattice.specs.Limits.{most_coords, most_value}
use Rattle.table.specs.Table.{Settings}
use Rattle.shares.specs.Slots.{slot_rows, rows_to}
use Rattle.shares.proofs.Slots.{kept_size, rows_more}
use Rattle.spread.specs.Spreading.{Lifts}
use Rattle.spread.specs.Inner.{RowToLift, SlotsToLift}
use Rattle.spread.proofs.Few.{slot_few, missing_few}
use Rattle.spread.proofs.Light.{light_row_lem, slot_light}
use Rattle.spread.proofs.Sheets.{lifts_more, after_collected}

-- the row of a slot, as the machine has its numbers
pub slot_row : {d C : ℕ} {keys : List ℤ} {index : List ℕ} {sheet : List ℤ} {v : ℤ} {key : List ℤ} (ws : List ℕ) (cs : List ℤ) (k : ℕ) (mass value : ℤ)
    → SlotsToLift d C keys index sheet ws cs v 1 → k < suc d → key ≡ take d (drop (most_coords * k) cs) → mass ≡ pos (get_or ws k 0) → value ≡ pos (get_or ws k 0) *ℤ v
    → RowToLift d C keys index sheet (record { key = key; mass = mass; value = value })
slot_row {d} {v = v} {key = key} ws cs k mass value Q l e p q = record {
  rows = Q.rows;
  few = Q.few;
  ready = Q.ready;
  size = kept_size d cs k Q.d_most l Q.arrays.coords_size e;
  light = rw (p, q) (light_row_lem key (get_or ws k 0) v (Q.arrays.light k) (abs_of v most_value Q.fair));
}

-- after the slots before k
module _ (c : Settings) (keys : List ℤ) (index : List ℕ) (sheet : List ℤ) (ws : List ℕ) (cs : List ℤ) (v : ℤ) (n : ℕ) (Q : SlotsToLift c.d c.C keys index sheet ws cs v n) (k : ℕ) where
  pub slot_ready : k < n → {left : List ℤ} {x : ℕ} → Lifts c keys index sheet (rows_to c.d ws cs v k) x left → SlotsToLift c.d c.C keys index left ws cs v 1
  unfolding rows_to
  slot_ready h L = record {
    d_most = Q.d_most;
    rows = Q.rows + 1 * k;
    few = omega (arith, Q.few);
    ready = rw L.left_is (after_collected c keys index (slot_rows c.d ws cs v) 1 n (λ i l. slot_light c.d ws cs v i Q.arrays Q.fair) (λ i l. slot_few c.d ws cs v i) Q.rows sheet Q.ready k (omega arith));
    arrays = Q.arrays;
    fair = Q.fair;
  }

-- no more points are missing than there are slots
pub slots_missing : (c : Settings) (keys : List ℤ) (index : List ℕ) (ws : List ℕ) (cs : List ℤ) (v : ℤ) (k : ℕ) {sheet left : List ℤ} {x : ℕ} → Lifts c keys index sheet (rows_to c.d ws cs v k) x left → x ≤ k
unfolding rows_to
slots_missing c keys index ws cs v k L = omega (arith, missing_few c keys index 1 k (slot_rows c.d ws cs v) (slot_few c.d ws cs v) L)

-- one slot more
pub slots_more : (c : Settings) (keys : List ℤ) (index : List ℕ) (ws : List ℕ) (cs : List ℤ) (v : ℤ) (k : ℕ) {sheet mid left : List ℤ} {x y : ℕ}
    → Lifts c keys index sheet (rows_to c.d ws cs v k) x mid → Lifts c keys index mid (slot_rows c.d ws cs v k) y left → Lifts c keys index sheet (rows_to c.d ws cs v (k + 1)) (x + y) left
slots_more c keys index ws cs v k P Q = lifts_more c keys index (rows_to c.d ws cs v k) (slot_rows c.d ws cs v k) (rows_to c.d ws cs v (k + 1)) P Q (rows_more c.d ws cs v k)
