use Rattle.filter.proofs.Slots.{slot_empty, slot_absent, mass_fits, value_fits, slot_present}
use Rattle.filter.proofs.weigh.weigh_slot.Goals as goal

pub returns-in_default : goal.returns-in_default
returns-in_default c = slot_empty _ _ _ _ c.args.k c.in_default.ensures

pub returns-in_default-pair_of : goal.returns-in_default-pair_of
returns-in_default-pair_of c = slot_absent _ _ _ _ c.requires.weighable c.args.k c.requires.k_bound c.in-Some.ensures.1 c.in_default-pair_of.ensures

pub overflow_mul-result : goal.overflow_mul-result
overflow_mul-result c = mass_fits _ _ _ _ c.requires.weighable c.args.k c.requires.k_bound c.in-Some.ensures.1 c.in-Some-pair_of.ensures c.from-weight.ensures

pub overflow_mul-result-2 : goal.overflow_mul-result-2
overflow_mul-result-2 c = value_fits _ _ _ _ c.requires.weighable c.args.k c.requires.k_bound c.in-Some.ensures.1 c.in-Some-pair_of.ensures c.from-weight.ensures

pub returns : goal.returns
returns c = slot_present _ _ _ _ c.requires.weighable c.args.k c.requires.k_bound c.in-Some.ensures.1 c.in-Some-pair_of.ensures c.from-weight.ensures
