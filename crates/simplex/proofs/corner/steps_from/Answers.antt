use Rattle.std.proofs.Common.{◌≡◌, ap, ◌∙◌, max, nat_abs, arith, rules}
use lib.Dec.{lit<}
use mir.Syntax.{w32}
use mir.Val.{SFits}
use mir.Facts.{to_z-of_z}
use Rattle.whole.specs.Lists.{at}
use Rattle.whole.proofs.Parts.{zin}
use Rattle.whole.proofs.Signed.{zlin, zeq, zfits, W32}
use Rattle.whole.proofs.Size.{zabs, back32}
use Rattle.simplex.proofs.Steps.{steps_none, steps_more, step_near, rest_within}
use Rattle.simplex.proofs.corner.steps_from.Goals as goal

pub loop-i-init : goal.loop-i-init
loop-i-init c = (steps_none _ _ _ c.requires.z_len, zabs (search zlin depth 14) (omega arith))

pub overflow_add-total : goal.overflow_add-total
overflow_add-total c =
    let f : SFits w32 (at c.args.splits.now.floors c.loop-i.i) = search rules in
    let g : SFits w32 (at c.args.splits.now.rests c.loop-i.i) = search rules in
    let h : SFits w32 (at c.args.splits.now.floors c.args.j) = search rules in
    let k : SFits w32 (at c.args.splits.now.rests c.args.j) = search rules in
    let S = rw (to_z-of_z f, to_z-of_z g, to_z-of_z h, to_z-of_z k) at c.minus-s.ensures in
    let q = step_near c.requires.parts (search rules) c.requires.j_lt_n S in
    let few = c.requires.parts.few in
    zfits (search zlin depth 14) (omega (arith, zin))

pub loop-i-preserved : goal.loop-i-preserved
loop-i-preserved c =
    let f : SFits w32 (at c.args.splits.now.floors c.loop-i.i) = search rules in
    let g : SFits w32 (at c.args.splits.now.rests c.loop-i.i) = search rules in
    let h : SFits w32 (at c.args.splits.now.floors c.args.j) = search rules in
    let k : SFits w32 (at c.args.splits.now.rests c.args.j) = search rules in
    let S = rw (to_z-of_z f, to_z-of_z g, to_z-of_z h, to_z-of_z k) at c.minus-s.ensures in
    let q = step_near c.requires.parts (search rules) c.requires.j_lt_n S in
    let few = c.requires.parts.few in
    let r = rest_within S c.requires.parts.total in
    let own : W32 c.minus-s.result.rest ≡ c.minus-s.result.rest = zeq (search zlin depth 14) (omega (arith, zin)) in (
      steps_more _ c.loop-i.i _ _ (omega arith) c.loop-i.invariant.0 (back32 q (lit< tt) ∙ S.floor_is) (zeq (search zlin depth 14) (omega (arith, zin)))
          (c.max-spread.ensures ∙ ap (max c.loop-i.spread) (ap nat_abs (own ∙ S.rest_is))),
      zabs (search zlin depth 14) (omega (arith, zin)),
    )
