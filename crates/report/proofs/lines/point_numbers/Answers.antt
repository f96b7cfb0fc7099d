use borrow.Author.Rules.{rules}
use native.Mathlib.Omega.{arith}
use mathlib.Core.Path.{◌≡◌, refl, subst, ◌∙◌}
use Prim.Native.Nat.{◌+◌, ◌*◌}
use mir.Syntax.{w32, w64}
use mir.Val.{SFits}
use mir.Facts.{to_z-of_z}
use Rattle.whole.specs.Sum.{sum}
use Rattle.whole.specs.Lists.{at, tab}
use Rattle.whole.proofs.Lists.{part_length}
use Rattle.whole.proofs.Parts.{zin}
use Rattle.whole.proofs.Signed.{zlin, zeq, eq_plus}
use Rattle.whole.proofs.Size.{zabs}
use Rattle.whole.proofs.Sum.{sum_more}
use Rattle.report.proofs.Numbers.{kept, kept_in, one_more_lem, point_done}
use Rattle.report.proofs.lines.point_numbers.Goals as goal

pub loop-j-init : goal.loop-j-init
unfolding sum tab
loop-j-init c = (search rules, refl, zeq (search zlin depth 14) (omega arith), zabs (search zlin depth 14) (omega arith))

pub loop-j-preserved : goal.loop-j-preserved
loop-j-preserved c =
    let a = c.args in
    let start = a.head.d * a.i in
    let g = kept a.keys.now start in
    let j = c.loop-j.j in
    let long = part_length a.keys.now start a.head.d c.requires.stretch in
    let is = kept_in a.keys.now start a.head.d j (omega (arith, long)) in
    let f : SFits w32 (g j) = subst (SFits w32) is (search rules) in
    let v : c.from-kept.result ≡ g j = c.from-kept.ensures ∙ to_z-of_z {w = w32} (search rules) ∙ is in
    let q = eq_plus (sum (j + 1) g) (sum j g) (g j) (sum_more j g) in
    rw v (
      omega (arith, long),
      one_more_lem g j (omega arith) c.loop-j.invariant.1 (zeq (search zlin depth 14) (omega (arith, zin))),
      zeq (search zlin depth 14) (omega (arith, zin)),
      zabs (search zlin depth 14) (omega (arith, zin)),
    )

pub returns : goal.returns
returns c =
    let a = c.args in
    let long = part_length a.keys.now (a.head.d * a.i) a.head.d c.requires.stretch in
    let m : SFits w64 (at a.sums.now (2 * a.i)) = search rules in
    let v : SFits w64 (at a.sums.now (2 * a.i + 1)) = search rules in
    point_done a.head.d a.keys.now a.sums.now a.i c.loop-j.j (omega (arith, long)) c.requires.d_most
    c.loop-j.invariant.1 (zeq (search zlin depth 14) (omega (arith, zin))) (to_z-of_z m) (to_z-of_z v)
