use borrow.Author.Rules.{rules}
use mathlib.Core.Path.{refl}
use mir.Syntax.{w64}
use mir.Val.{SFits}
use Rattle.blur.proofs.Passing.{passed_more}
use Rattle.blur.proofs.pass.pass.Goals as goal

pub loop-i-preserved : goal.loop-i-preserved
loop-i-preserved c =
    let l = c.loop-i in
    let mass_fits : SFits w64 c.new_pair-pair.result.mass = search rules in
    let value_fits : SFits w64 c.new_pair-pair.result.value = search rules in
    (search rules, refl, passed_more _ _ c.requires.passable l.i (search rules) c.args.k mass_fits value_fits l.invariant.2 c.new_pair-pair.ensures c.set_pair.ensures)
