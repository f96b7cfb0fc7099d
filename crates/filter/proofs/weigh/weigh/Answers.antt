use native.Mathlib.Omega.{arith}
use Rattle.filter.proofs.Slots.{weighed_none, weighed_at, slot_more}
use Rattle.filter.proofs.weigh.weigh.Goals as goal

pub loop-k-init : goal.loop-k-init
loop-k-init c = weighed_none _ _ _

-- the new sums fit
pub overflow_add-sums : goal.overflow_add-sums
overflow_add-sums c = (slot_more _ _ _ _ c.requires _ c.loop-k-test.true c.loop-k.invariant c.weigh_slot-more.ensures).0.weight_fits

pub overflow_add-sums-in-loop-k : goal.overflow_add-sums-in-loop-k
overflow_add-sums-in-loop-k c = (slot_more _ _ _ _ c.requires _ c.loop-k-test.true c.loop-k.invariant c.weigh_slot-more.ensures).0.mass_fits

pub overflow_add-sums-in-loop-k-2 : goal.overflow_add-sums-in-loop-k-2
overflow_add-sums-in-loop-k-2 c = (slot_more _ _ _ _ c.requires _ c.loop-k-test.true c.loop-k.invariant c.weigh_slot-more.ensures).0.value_fits

pub loop-k-preserved : goal.loop-k-preserved
loop-k-preserved c = (slot_more _ _ _ _ c.requires _ c.loop-k-test.true c.loop-k.invariant c.weigh_slot-more.ensures).1

pub returns : goal.returns
returns c = let l = c.loop-k in weighed_at _ _ _ l.k _ (omega (arith, c.loop-k-test.false)) l.invariant
