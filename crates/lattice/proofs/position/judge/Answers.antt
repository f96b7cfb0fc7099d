-- Each return is the first test that fails.
use borrow.Author.Rules.{rules}
use mathlib.Core.Path.{◌≡◌, ap, sym, ◌∙◌}
use mathlib.Core.Bool.{true}
use lib.IntN.{pos}
use mir.Syntax.{w64}
use mir.Val.{SFits, of_z}
use Rattle.whole.proofs.Signed.{bits_eq}
use Rattle.lattice.specs.Position.{all_near}
use Rattle.lattice.proofs.Judging.{judged_four, judged_five, judged_none, sum_zero, sum_other}
use Rattle.lattice.proofs.position.judge.Goals as goal

pub returns-then-not-all_near : goal.returns-then-not-all_near
returns-then-not-all_near c = sym (judged_four c.args.x.now (sym c.all_near.ensures ∙ c.if-not-all_near.true))

pub returns-then-coordinate_sum-ne0 : goal.returns-then-coordinate_sum-ne0
returns-then-coordinate_sum-ne0 c =
    let x = c.args.x.now in
    let near : all_near x ≡ true = sym c.all_near.ensures ∙ c.if-not-all_near.false in
    sym (judged_five x near (sum_other x (λ e. c.if-coordinate_sum-ne0.true (ap (of_z w64) (c.coordinate_sum.ensures ∙ e)))))

pub returns : goal.returns
returns c =
    let x = c.args.x.now in
    let near : all_near x ≡ true = sym c.all_near.ensures ∙ c.if-not-all_near.false in
    let f : SFits w64 c.coordinate_sum.result = record { sfits = c.coordinate_sum.type_inv } in
    let z : SFits w64 (pos 0) = search rules in
    sym (judged_none x near (sum_zero x (sym c.coordinate_sum.ensures ∙ bits_eq f z c.if-coordinate_sum-ne0.false)))
