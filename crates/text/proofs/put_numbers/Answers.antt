use borrow.Author.Rules.{rules}
use mir.Facts.{to_z-of_z}
use mir.Syntax.{w64}
use mir.Val.{SFits}
use Rattle.whole.specs.Lists.{at}
use Rattle.text.specs.Text.{spaced}
use Rattle.text.proofs.Lines.{written_nothing}
use Rattle.text.proofs.Numbers.{numbers_room, numbers_more}
use Rattle.text.proofs.put_numbers.Goals as goal

pub loop-number-init : goal.loop-number-init
unfolding spaced
loop-number-init c = written_nothing c.args.out.now c.args.at

pub put_spaced-next-requires : goal.put_spaced-next-requires
put_spaced-next-requires c =
    let l = c.loop-number in
    let f : SFits w64 (at c.args.numbers.now l.number-index) = search rules in
    rw (to_z-of_z f) (numbers_room c.args.numbers.now l.number-index l.invariant c.loop-number-test.true c.requires)

pub loop-number-preserved : goal.loop-number-preserved
loop-number-preserved c =
    let l = c.loop-number in
    let f : SFits w64 (at c.args.numbers.now l.number-index) = search rules in
    numbers_more c.args.numbers.now l.number-index l.invariant c.loop-number-test.true c.requires (rw (to_z-of_z f) at c.put_spaced-next.ensures)
