-- The row of the slot, as the call has it.
use mathlib.Core.Path.{◌≡◌, sym, ap, ◌∙◌}
use lib.IntN.{ℤ, pos, ◌*ℤ◌}
use lib.ListN.{get_or}
use mir.Syntax.{w64}
use mir.Val.{SFits, to_z, of_z}
use mir.Facts.{to_z-of_z}
use Rattle.shares.proofs.Slots.{slot_none, slot_one}
use Rattle.spread.proofs.Sheets.{lifts_none, lifts_as}
use Rattle.spread.proofs.Slots.{slot_row}
use Rattle.spread.proofs.lifting.lift_slot.Goals as goal
use Rattle.spread.proofs.lifting.lift_slot.Goals.{After-times-sum}

pub returns-in_default : goal.returns-in_default
returns-in_default c = let a = c.args in
    lifts_none _ _ _ _ _ (slot_none a.head.d a.simplex.now.weights a.simplex.now.coords a.value a.slot c.in_default.ensures)

abbrev product : After-times-sum → ℤ
product c = to_z w64 (of_z w64 c.times-sum.result)

mass_is : (c : After-times-sum) → let a = c.args in to_z w64 (of_z w64 c.from-mass.result) ≡ pos (get_or a.simplex.now.weights a.slot 0)
mass_is c = to_z-of_z {w = w64} (record { sfits = c.from-mass.type_inv }) ∙ c.from-mass.ensures

value_is : (c : After-times-sum) → let a = c.args in product c ≡ pos (get_or a.simplex.now.weights a.slot 0) *ℤ a.value
value_is c =
    let a = c.args in
    let f : SFits w64 c.times-sum.result = record { sfits = c.times-sum.type_inv } in
    to_z-of_z f ∙ c.times-sum.ensures ∙ ap (λ (z : ℤ). pos (get_or a.simplex.now.weights a.slot 0) *ℤ z) (to_z-of_z c.ranges.value)

pub lift_row-requires : goal.lift_row-requires
lift_row-requires c = let a = c.args in let s = (goal.at.lift_row-requires c).After-times-sum in
    slot_row a.simplex.now.weights a.simplex.now.coords a.slot _ _ c.requires.slots_to_lift c.requires.slot_bound c.in-Some.ensures.1 (mass_is s) (value_is s)

pub returns : goal.returns
returns c =
    let a = c.args in
    let p = c.requires.slots_to_lift in
    lifts_as _ _ _ _ _ c.lift_row.ensures
    (sym (slot_one a.head.d a.simplex.now.weights a.simplex.now.coords a.value a.slot _ _ _ p.d_most c.requires.slot_bound p.arrays.coords_size
    c.in-Some.ensures.0 c.in-Some.ensures.1 (mass_is (goal.at.returns c).After-times-sum) (value_is (goal.at.returns c).After-times-sum)))
