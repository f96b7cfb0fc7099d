-- The loop has passed the coordinates before this one, all of them near; the first that is not ends it.
use borrow.Author.Rules.{rules}
use native.Mathlib.Omega.{arith}
use mathlib.Core.Path.{◌≡◌, refl, ap, sym, ◌∙◌}
use Prim.Native.Nat.{ℕ}
use lib.ListN.{length}
use lib.IntN.{nat_abs}
use lib.Dec.{leb}
use borrow.Author.Tests.{le-leb, lt-leb}
use mir.Syntax.{w32}
use mir.Val.{SFits}
use mir.Facts.{to_z-of_z}
use Rattle.whole.specs.Sum.{all}
use Rattle.whole.specs.Lists.{at}
use Rattle.lattice.specs.Limits.{farthest}
use Rattle.lattice.specs.Position.{all_near}
use Rattle.whole.proofs.Tests.{all_more, all_stop}
use Rattle.lattice.proofs.position.all_near.Goals as goal

pub loop-c-init : goal.loop-c-init
unfolding all
loop-c-init c = refl

pub returns-then-unsigned_abs-gt-FARTHEST : goal.returns-then-unsigned_abs-gt-FARTHEST
unfolding all_near
returns-then-unsigned_abs-gt-FARTHEST c =
    let x = c.args.x.now in
    let i = c.loop-c.c-index in
    let f : SFits w32 (at x i) = search rules in
    let e : c.unsigned_abs.result ≡ nat_abs (at x i) = c.unsigned_abs.ensures.value ∙ ap nat_abs (to_z-of_z f) in
    sym (all_stop (length x) (λ t. leb (nat_abs (at x t)) farthest) i (search rules) (lt-leb (nat_abs (at x i)) farthest (omega arith)))

pub loop-c-preserved : goal.loop-c-preserved
loop-c-preserved c =
    let x = c.args.x.now in
    let i = c.loop-c.c-index in
    let f : SFits w32 (at x i) = search rules in
    let e : c.unsigned_abs.result ≡ nat_abs (at x i) = c.unsigned_abs.ensures.value ∙ ap nat_abs (to_z-of_z f) in
    all_more i (λ t. leb (nat_abs (at x t)) farthest) c.loop-c.invariant (le-leb (nat_abs (at x i)) farthest (omega arith))

pub returns : goal.returns
unfolding all_near
returns c =
    let x = c.args.x.now in
    let e : c.loop-c.c-index ≡ length x = omega arith in
    sym (ap (λ (n : ℕ). all n (λ t. leb (nat_abs (at x t)) farthest)) (sym e) ∙ c.loop-c.invariant)
