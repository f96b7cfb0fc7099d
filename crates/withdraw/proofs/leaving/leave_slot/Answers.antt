-- The slot has no point, or none that is stored, or one with a mass; or its point leaves.
use Rattle.std.proofs.Common.{rules, ◌≡◌, [], ◌∷◌, pos, sym, ap, ◌∙◌, w64, to_z, of_z, to_z-of_z}
use Rattle.table.specs.Table.{mass}
use Rattle.table.specs.Heads.{settings}
use Rattle.shares.specs.Slots.{slot_keys}
use Rattle.shares.proofs.Slots.{slot_no_key, slot_key}
use Rattle.withdraw.specs.Inner.{unindexed}
use Rattle.withdraw.proofs.Going.{leave_none, stays_unstored, stays_heavy, goes}
use Rattle.withdraw.proofs.leaving.leave_slot.Goals as goal
use Rattle.withdraw.proofs.leaving.leave_slot.Goals.{In-Some}

pub returns-in_default : goal.returns-in_default
returns-in_default c = let a = c.args in leave_none (settings a.head) _ _ (slot_no_key a.head.d a.simplex.now.weights a.simplex.now.coords a.slot c.in_default.ensures)

-- the slot's one key, as the code lends it
one : (c : In-Some) → let a = c.args in
    slot_keys a.head.d a.simplex.now.weights a.simplex.now.coords a.slot ≡ c.in-Some.key.now ∷ []
one c = let a = c.args in let r = c.requires in slot_key a.head.d a.simplex.now.weights a.simplex.now.coords a.slot r.points_in.d_most r.slot_bound r.arrays.coords_size c.in-Some.ensures

pub returns-in_default-point_of : goal.returns-in_default-point_of
returns-in_default-point_of c = let a = c.args in stays_unstored (settings a.head) a.points a.keys.now a.sums.now _ _ (one (goal.at.returns-in_default-point_of c).In-Some) c.in_default-point_of.ensures.which

pub returns-then-mass-ne0 : goal.returns-then-mass-ne0
returns-then-mass-ne0 c = let a = c.args in
    stays_heavy (settings a.head) a.points a.keys.now a.sums.now _ _ (one (goal.at.returns-then-mass-ne0 c).In-Some) c.in-Some-point_of.ensures.which (λ z. c.if-mass-ne0.true (ap (of_z w64) z))

pub returns : goal.returns
returns c =
    let a = c.args in
    let none : mass (unindexed a.points a.keys.now a.sums.now) c.in-Some-point_of.i ≡ pos 0 = sym (to_z-of_z {w = w64} (search rules)) ∙ ap (to_z w64) c.if-mass-ne0.false in
    goes (settings a.head) a.points a.keys.now a.sums.now _ _ (one (goal.at.returns c).In-Some) c.in-Some-point_of.ensures.which none c.vacate_key.ensures c.vacate_pair.ensures
