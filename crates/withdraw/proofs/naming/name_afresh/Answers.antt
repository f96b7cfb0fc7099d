use borrow.Author.Rules.{rules}
use native.Mathlib.Omega.{arith}
use Rattle.withdraw.proofs.Named.{nameable, named_none, named_more}
use Rattle.withdraw.proofs.naming.name_afresh.Goals as goal

pub loop-i-init : goal.loop-i-init
loop-i-init c = (search rules, named_none _ _ _ _ c.args.index.now c.requires (c.fill.ensures.after (λ y e. e)))

pub name_point-requires : goal.name_point-requires
name_point-requires c = let l = c.loop-i in nameable _ _ _ _ c.args.index.now c.requires l.i (omega arith) l.invariant.1

pub loop-i-preserved : goal.loop-i-preserved
loop-i-preserved c =
    let l = c.loop-i in
    (search rules, named_more _ _ _ _ c.args.index.now c.requires l.i l.invariant.1 c.name_point.ensures)
