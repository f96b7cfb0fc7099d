use Rattle.shares.proofs.Slots.{slot_no_key, slot_key, news_none, news_one}
use Rattle.shares.proofs.new_in_slot.Goals as goal

pub returns-in_default : goal.returns-in_default
returns-in_default c = let a = c.args in
    news_none _ _ _ _ (slot_no_key a.head.d a.simplex.now.weights a.simplex.now.coords a.slot c.in_default.ensures)

pub returns : goal.returns
returns c =
    let a = c.args in
    let p = c.requires in
    news_one _ _ _ _ _ c.is_new.ensures
    (slot_key a.head.d a.simplex.now.weights a.simplex.now.coords a.slot p.counting.d_most p.slot_bound p.counting.arrays.coords_size c.in-Some.ensures)
