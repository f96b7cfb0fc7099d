use borrow.Author.Rules.{rules}
use native.Mathlib.Omega.{arith}
use mathlib.Core.Path.{refl}
use Rattle.shares.proofs.Slots.{count_none, count_more, count_few}
use Rattle.shares.proofs.new_in_slots.Goals as goal

pub loop-slot-init : goal.loop-slot-init
loop-slot-init c = (search rules, refl, search rules, count_none _ _ _ _ _ _)

pub overflow_add-count : goal.overflow_add-count
overflow_add-count c = let l = c.loop-slot in
    let r = c.requires.d_most in
    let f = count_few _ _ _ _ _ _ l.slot _ c.new_in_slot-count.ensures in
    record { fits = omega (arith, l.invariant) }

pub loop-slot-preserved : goal.loop-slot-preserved
loop-slot-preserved c = let l = c.loop-slot in
    let f = count_few _ _ _ _ _ _ l.slot _ c.new_in_slot-count.ensures in
    (search rules, l.invariant.1, omega (arith, l.invariant), count_more _ _ _ _ _ _ l.slot l.count _ l.invariant.3 c.new_in_slot-count.ensures)
