use Rattle.std.proofs.Common.{◌*◌, ℤ, sym, subst, arith}
use Rattle.whole.specs.Size.{Abs≤}
use Rattle.whole.specs.Lists.{at}
use Rattle.whole.proofs.Parts.{zin}
use Rattle.whole.proofs.Signed.{zlin, zeq, zfits}
use Rattle.pour.specs.Inner.{most_share, most_rows}
use Rattle.withdraw.proofs.Off.{off_none, off_more, off_all}
use Rattle.withdraw.proofs.lowering.take_off.Goals as goal

pub loop-i-init : goal.loop-i-init
loop-i-init c = off_none c.args.sums.now c.args.sheet.now

pub overflow_sub-sums : goal.overflow_sub-sums
overflow_sub-sums c =
    let l = c.loop-i in
    let a : Abs≤ (at l.sums l.i) (most_share * most_rows) = subst (λ (z : ℤ). Abs≤ z (most_share * most_rows)) (sym (l.invariant.high l.i (omega arith))) (c.requires.1 l.i c.loop-i-test.true) in
    let b : Abs≤ (at c.args.sheet.now l.i) (most_share * most_rows) = c.requires.2 l.i c.loop-i-test.true in
    zfits (search zlin depth 14) (omega (arith, zin))

pub loop-i-preserved : goal.loop-i-preserved
loop-i-preserved c =
    let l = c.loop-i in
    let a : Abs≤ (at l.sums l.i) (most_share * most_rows) = subst (λ (z : ℤ). Abs≤ z (most_share * most_rows)) (sym (l.invariant.high l.i (omega arith))) (c.requires.1 l.i c.loop-i-test.true) in
    let b : Abs≤ (at c.args.sheet.now l.i) (most_share * most_rows) = c.requires.2 l.i c.loop-i-test.true in
    off_more c.args.sums.now c.args.sheet.now l.sums l.i _ l.invariant (omega (arith, c.requires.0)) (zeq (search zlin depth 14) (omega (arith, zin)))

pub returns : goal.returns
returns c = let l = c.loop-i in off_all _ c.args.sums.now c.args.sheet.now l.sums l.i l.invariant (omega arith)
