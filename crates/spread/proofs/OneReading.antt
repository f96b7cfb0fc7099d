-- A reading on a sheet: from what `enclose` answers to what the slots of its simplex ask, and from what they leave to its shares.
use mathlib.Core.Path.{◌≡◌, sym, ap, ◌∙◌}
use mathlib.Core.List.{List}
use Prim.Native.Nat.{ℕ, suc, ◌+◌, ◌-◌}
use native.Mathlib.Omega.{arith}
use lib.IntN.{ℤ}
use lib.ListN.{take, drop}
use Rattle.whole.specs.Lists.{at}
use Rattle.whole.proofs.Size.{of_abs}
use Rattle.lattice.specs.Limits.{most_value}
use Rattle.simplex.specs.Slots.{Placed, Encloses}
use Rattle.table.specs.Table.{Settings}
use Rattle.table.specs.Reading.{reading_of, shares}
use Rattle.table.proofs.Limits.{value_is, of_lawful}
use Rattle.shares.specs.Slots.{rows_to}
use Rattle.shares.proofs.Simplex.{enclosable, arrays, slots_shares}
use Rattle.spread.specs.Spreading.{Lifts, ToSpread}
use Rattle.spread.specs.Inner.{SlotsToLift}
use Rattle.spread.proofs.Sheets.{lifts_as}

module _ (c : Settings) (keys : List ℤ) (index : List ℕ) (sheet l : List ℤ) (Q : ToSpread c keys index sheet l) where
  pub placed : Placed c.d c.S (take (c.d + 1 - 0) (drop 0 l))
  placed = enclosable c l Q.ranged Q.size (of_lawful (reading_of c.d l) c.d Q.lawful)

  -- v is the value as the machine has it
  module _ (ws : List ℕ) (cs : List ℤ) (E : Encloses c.d c.S (take (c.d + 1 - 0) (drop 0 l)) ws cs) (v : ℤ) (q : v ≡ at l (c.d + 1)) where
    is_value : (reading_of c.d l).value ≡ v
    is_value = value_is c.d l v q

    pub slots_ready : SlotsToLift c.d c.C keys index sheet ws cs v (suc c.d)
    slots_ready = record {
      d_most = Q.ranged.d_most;
      rows = Q.rows;
      few = omega (arith, Q.few, Q.ranged.d_most);
      ready = Q.ready;
      arrays = arrays c (take (c.d + 1 - 0) (drop 0 l)) ws cs Q.ranged E;
      fair = of_abs v most_value (rw is_value at Q.lawful.fair);
    }

    pub spread_done : {x : ℕ} {left : List ℤ} → Lifts c keys index sheet (rows_to c.d ws cs v (suc c.d)) x left → Lifts c keys index sheet (shares c.d c.S (reading_of c.d l)) x left
    spread_done L = lifts_as c keys index _ _ L (ap (λ (v : ℤ). rows_to c.d ws cs v (suc c.d)) (sym is_value) ∙ slots_shares c l ws cs Q.ranged Q.size E)
