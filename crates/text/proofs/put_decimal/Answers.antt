use native.Mathlib.Omega.{arith}
use lib.ListN.{length-set}
use Rattle.text.specs.Text.{minus_sign}
use Rattle.text.proofs.Lines.{written_cons}
use Rattle.text.proofs.Decimal.{tested_above, tested_below}
use Rattle.text.proofs.put_decimal.Goals as goal

pub bounds-out-at : goal.bounds-out-at
bounds-out-at c = omega (arith, rw (tested_below c.args.number c.ranges.number c.unsigned_abs-size.ensures.value c.if-number-lt0.true) at c.requires)

pub put_digits-requires : goal.put_digits-requires
put_digits-requires c = rw length-set (omega (arith, rw (tested_below c.args.number c.ranges.number c.unsigned_abs-size.ensures.value c.if-number-lt0.true) at c.requires))

pub returns-then-number-lt0 : goal.returns-then-number-lt0
returns-then-number-lt0 c =
    let e = tested_below c.args.number c.ranges.number c.unsigned_abs-size.ensures.value c.if-number-lt0.true in
    rw e (written_cons minus_sign (rw e at c.requires) c.put_digits.ensures)

pub put_digits-requires-2 : goal.put_digits-requires-2
put_digits-requires-2 c = rw (tested_above c.args.number c.ranges.number c.unsigned_abs-size.ensures.value c.if-number-lt0.false) at c.requires

pub returns : goal.returns
returns c = rw (tested_above c.args.number c.ranges.number c.unsigned_abs-size.ensures.value c.if-number-lt0.false) c.put_digits-2.ensures
