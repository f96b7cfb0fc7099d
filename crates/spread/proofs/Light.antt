-- What a share adds is small: its weight is at most W, and its value within the limits.
use mathlib.Core.Bool.{Bool, true, false, cond}
use mathlib.Core.List.{List, [], ◌∷◌, map}
use Prim.Native.Nat.{ℕ, suc, ◌+◌, ◌*◌, ◌≤◌}
use native.Mathlib.Omega.{arith}
use lib.Dec.{eqb}
use lib.IntN.{ℤ, pos, nat_abs, ◌*ℤ◌}
use lib.ListN.{get_or}
use Rattle.whole.specs.Size.{Abs≤}
use Rattle.whole.specs.Lists.{at, tab, All}
use Rattle.whole.proofs.Size.{abs_times, abs_of}
use Rattle.lattice.specs.Limits.{most_coords, most_W, most_value}
use Rattle.lattice.specs.Weight.{weight}
use Rattle.lattice.specs.Points.{points}
use Rattle.simplex.specs.Slots.{slot}
use Rattle.table.specs.Table.{Settings}
use Rattle.table.specs.Reading.{Reading, share, shares}
use Rattle.table.specs.Sound.{Ranged}
use Rattle.table.specs.Inner.{weighed_row}
use Rattle.table.proofs.Lists.{all_map, all_list}
use Rattle.table.proofs.Soundness.{W_most}
use Rattle.shares.specs.Slots.{slot_rows, Arrays}
use Rattle.spread.specs.Inner.{Light}

pub light_row_lem : (key : List ℤ) (w : ℕ) (v : ℤ) → w ≤ most_W → Abs≤ v most_value → Light (record { key = key; mass = pos w; value = pos w *ℤ v })
light_row_lem key w v h f =
    let m : Abs≤ (pos w) most_W = record { abs = omega arith } in
    record { mass_small = record { abs = omega arith }; value_small = abs_times (pos w) v m f (omega arith) }

pub slot_light : (d : ℕ) (ws : List ℕ) (cs : List ℤ) (v : ℤ) (k : ℕ) → Arrays ws cs → nat_abs v ≤ most_value → All Light (slot_rows d ws cs v k)
unfolding slot_rows slot
slot_light d ws cs v k A f = go (eqb (get_or ws k 0) 0)
  where
    p : List ℤ × ℕ
    p = (tab (suc d) (λ i. at cs (most_coords * k + i)), get_or ws k 0)

    go : (b : Bool) → All Light (map (weighed_row d v) (cond b [] (p ∷ [])))
    go true = tt
    go false = (light_row_lem (weighed_row d v p).key (get_or ws k 0) v (A.light k) (abs_of v most_value f), tt)

pub shares_light : (c : Settings) (r : Reading) → Ranged c → Abs≤ r.value most_value → All Light (shares c.d c.S r)
unfolding shares weight
shares_light c r R f = let ps = points c.d c.S r.position in
    all_map Light (share c.d c.S r) ps (all_list (λ y. Light (share c.d c.S r y)) ps [] (λ i l. let y = get_or ps i [] in
    light_row_lem (share c.d c.S r y).key (weight c.d c.S (at r.position) (at y)) r.value (omega (arith, W_most c R)) f))
