use Rattle.std.proofs.Common.{◌≡◌, refl, ap, sym, ◌∙◌, suc, ◌<◌, add-one, arith, rules}
use lib.Dec.{lit<}
use Rattle.whole.proofs.Signed.{W32}
use Rattle.whole.proofs.Size.{back32}
use Rattle.simplex.specs.Inner.{weights_by, coords_by}
use Rattle.simplex.proofs.Slots.{weights_turn, coords_turn, weights_all, coords_all}
use Rattle.simplex.proofs.Enclosing.{parts_of, corner_is, no_weights, no_coords, put_back}
use Rattle.simplex.proofs.enclose.Goals as goal

pub loop-j-init : goal.loop-j-init
loop-j-init c = let a = c.args in (search rules, refl, no_weights a.d a.fineness a.x.now, no_coords a.d a.fineness a.x.now)

pub corner_of-c-requires-clause-parts : goal.corner_of-c-requires-clause-parts
corner_of-c-requires-clause-parts c = parts_of _ _ _ c.requires c.put_splits.ensures

pub loop-j-preserved : goal.loop-j-preserved
loop-j-preserved c =
    let own : W32 c.corner_of-c.result.total ≡ c.corner_of-c.result.total = back32 c.corner_of-c.ensures.span.total_near (lit< tt) in
    let p = c.requires in
    let q : c.loop-j.j < suc c.args.d = omega arith in
    let e = sym (add-one c.loop-j.j) in
    let here = corner_is _ _ _ p c.put_splits.ensures c.loop-j.j (search rules) c.corner_of-c.ensures.corner in (
      search rules,
      c.corner_of-c.ensures.span.z_six,
      weights_turn _ _ _ c.loop-j.j p.S_least q here p.d_most c.loop-j.invariant.2 refl ∙ ap (weights_by _ _ _) e,
      coords_turn _ _ _ c.loop-j.j p.S_least q here p.d_most c.loop-j.invariant.3 (put_back _ _ _ _ _ (rw own at c.put_point.ensures)) ∙ ap (coords_by _ _ _) e,
    )

pub returns : goal.returns
returns c =
    let l = c.loop-j in
    let p = c.requires in
    let e : l.j ≡ suc c.args.d = omega arith in
    record { weights_are = l.invariant.2 ∙ ap (weights_by _ _ _) e ∙ weights_all _ _ _ p.S_least; coords_are = l.invariant.3 ∙ ap (coords_by _ _ _) e ∙ coords_all _ _ _ p.S_least }
