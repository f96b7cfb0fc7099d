-- The sum so far; i numbers of 32 bits stay within i times 2^31.
use borrow.Author.Rules.{rules}
use native.Mathlib.Omega.{arith}
use mathlib.Core.Path.{◌≡◌, ◌∙◌}
use Prim.Native.Nat.{◌+◌}
use mir.Syntax.{w32}
use mir.Val.{SFits}
use mir.Facts.{to_z-of_z}
use Rattle.whole.specs.Sum.{sum}
use Rattle.whole.specs.Lists.{at}
use Rattle.whole.proofs.Parts.{zin}
use Rattle.whole.proofs.Signed.{zlin, zeq, eq_plus}
use Rattle.whole.proofs.Size.{zabs}
use Rattle.whole.proofs.Sum.{sum_more}
use Rattle.lattice.proofs.position.coordinate_sum.Goals as goal

pub loop-c-init : goal.loop-c-init
unfolding sum
loop-c-init c = (zeq (search zlin depth 14) (omega arith), zabs (search zlin depth 14) (omega arith))

pub loop-c-preserved : goal.loop-c-preserved
loop-c-preserved c =
    let x = c.args.x.now in
    let i = c.loop-c.c-index in
    let f : SFits w32 (at x i) = search rules in
    let e : c.from-total.result ≡ at x i = c.from-total.ensures ∙ to_z-of_z f in
    let p = eq_plus (sum (i + 1) (at x)) (sum i (at x)) (at x i) (sum_more i (at x)) in
    (zeq (search zlin depth 14) (omega (arith, zin)), zabs (search zlin depth 14) (omega (arith, zin)))
