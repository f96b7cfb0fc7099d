use mathlib.Core.Path.{◌≡◌, ap, ◌∙◌}
use lib.IntN.{ℤ, pos, ◌*ℤ◌}
use lib.ListN.{get_or}
use mathlib.Core.List.{[], ◌∷◌}
use mir.Syntax.{w64}
use mir.Val.{SFits, to_z, of_z}
use mir.Facts.{to_z-of_z}
use Rattle.shares.specs.Slots.{slot_rows}
use Rattle.table.proofs.Turns.{holds_at, holds_same}
use Rattle.shares.proofs.Slots.{slot_none, slot_one, pour_none, pour_one, one_addable}
use Rattle.shares.proofs.pour_slot.Goals as goal
use Rattle.shares.proofs.pour_slot.Goals.{After-times-sum}

pub returns-in_default : goal.returns-in_default
returns-in_default c = let a = c.args in
    holds_same _ (pour_none _ _ _ (slot_none a.head.d a.simplex.now.weights a.simplex.now.coords a.value a.slot c.in_default.ensures))

-- the row of the slot, as the call has it
one : (c : After-times-sum) → slot_rows c.args.head.d c.args.simplex.now.weights c.args.simplex.now.coords c.args.value c.args.slot
    ≡ record {
      key = c.in-Some.key.now;
      mass = to_z w64 (of_z w64 c.from-mass.result);
      value = to_z w64 (of_z w64 c.times-sum.result);
    } ∷ []
one c =
    let a = c.args in
    let p = c.requires in
    let l = p.fact.arrays.light a.slot in
    let f : SFits w64 c.times-sum.result = record { sfits = c.times-sum.type_inv } in
    slot_one a.head.d a.simplex.now.weights a.simplex.now.coords a.value a.slot _ _ _ p.fact.ranged.d_most p.slot_bound p.fact.arrays.coords_size
    c.in-Some.ensures.0 c.in-Some.ensures.1 (to_z-of_z {w = w64} (record { sfits = c.from-mass.type_inv }) ∙ c.from-mass.ensures)
    (to_z-of_z f ∙ c.times-sum.ensures ∙ ap (λ (z : ℤ). pos (get_or a.simplex.now.weights a.slot 0) *ℤ z) (to_z-of_z c.ranges.value))

pub add_row-requires : goal.add_row-requires
add_row-requires c = one_addable _ _ _ _ c.requires.fact.turns (one (goal.at.add_row-requires c).After-times-sum)

pub returns : goal.returns
returns c = holds_at c.add_row.ensures (pour_one _ _ _ _ (one (goal.at.returns c).After-times-sum))
