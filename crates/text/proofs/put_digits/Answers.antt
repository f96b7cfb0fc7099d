use Rattle.std.proofs.Common.{rules, sym}
use Rattle.text.proofs.Decimal.{left_all, left_before, left_none}
use Rattle.text.proofs.put_digits.Goals as goal

pub loop-next-init : goal.loop-next-init
loop-next-init c = left_all _ _ _ (search rules)

pub loop-next-preserved : goal.loop-next-preserved
loop-next-preserved c = left_before _ _ _ _ c.loop-next-test.true (search rules) c.loop-next.invariant

pub returns : goal.returns
returns c = record { next_is = search rules; after_is = sym (left_none _ _ _ _ (search rules) c.loop-next.invariant) }
