use borrow.Author.Rules.{rules}
use mathlib.Core.Path.{◌∙◌}
use Rattle.blur.proofs.Moving.{can_move, neighbour_tab, filled_all}
use Rattle.blur.proofs.step.put_neighbour.Goals as goal

pub moved-requires-clause-abs_2 : goal.moved-requires-clause-abs_2
moved-requires-clause-abs_2 c = (can_move _ c.requires.movable c.args.k c.loop-i.i (search rules) c.step_at.ensures).1

pub returns : goal.returns
returns c = filled_all _ _ _ c.loop-i-test.false c.loop-i.invariant ∙ neighbour_tab c.args.plus _ c.args.k c.args.key.now
