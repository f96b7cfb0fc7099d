use borrow.Author.Rules.{rules}
use native.Mathlib.Numerals.{add-one}
use native.Mathlib.Omega.{arith}
use mathlib.Core.Path.{◌≡◌, refl, ap, sym, ◌∙◌}
use mathlib.Core.Bool.{true}
use Prim.Native.Nat.{◌+◌}
use lib.IntN.{ℤ, pos, neg_ℤ, ◌-ℤ◌}
use lib.ListN.{length}
use mir.Syntax.{w32}
use mir.Val.{to_z, SFits}
use mir.Facts.{to_z-of_z}
use Rattle.whole.specs.Size.{Abs≤}
use Rattle.whole.specs.Floor.{remainder}
use Rattle.whole.specs.Sum.{sum, all}
use Rattle.whole.specs.Lists.{at}
use Rattle.whole.proofs.Parts.{zin}
use Rattle.whole.proofs.Signed.{zlin, zeq, eq_plus, W32}
use Rattle.whole.proofs.Size.{zabs}
use Rattle.whole.proofs.Sum.{sum_more}
use Rattle.whole.proofs.Tests.{all_more}
use Rattle.lattice.specs.Limits.{farthest_point}
use Rattle.soundness.specs.Inner.{good_coordinate}
use Rattle.soundness.proofs.Coordinates.{coordinate_near, key_stop, key_done}
use Rattle.soundness.proofs.points.good_key.Goals as goal
use Rattle.soundness.proofs.points.good_key.Goals.{After-good_coordinate, After-remainder_of-remainder, Else-not-good_coordinate}

pub loop-c-init : goal.loop-c-init
unfolding sum all
loop-c-init c = (refl, zeq (search zlin depth 14) (omega arith), zabs (search zlin depth 14) (omega arith))

-- the remainder that all are held to is that of coordinate 0
own : (c : After-remainder_of-remainder) → c.remainder_of-remainder.result ≡ remainder (at c.args.key.now 0) (length c.args.key.now + 1)
own c =
    let key = c.args.key.now in
    let f : SFits w32 (at key 0) = search rules in
    c.remainder_of-remainder.ensures ∙ ap (λ (z : ℤ). remainder z (length key + 1)) (to_z-of_z f)

-- what is tested is the coordinate
tested : (c : After-good_coordinate) → c.good_coordinate.result ≡ good_coordinate (length c.args.key.now + 1) c.remainder_of-remainder.result (at c.args.key.now c.loop-c.c-index)
tested c =
    let f : SFits w32 (at c.args.key.now c.loop-c.c-index) = search rules in
    c.good_coordinate.ensures ∙ ap (good_coordinate _ _) (to_z-of_z f)

pub returns-then-not-good_coordinate : goal.returns-then-not-good_coordinate
returns-then-not-good_coordinate c =
    key_stop c.args.key.now c.requires.0 (add-one _) (own (goal.at.returns-then-not-good_coordinate c).After-remainder_of-remainder) c.loop-c.c-index (search rules)
    (tested (goal.at.returns-then-not-good_coordinate c).After-good_coordinate) c.if-not-good_coordinate.true

here : (c : Else-not-good_coordinate) → good_coordinate (length c.args.key.now + 1) c.remainder_of-remainder.result (at c.args.key.now c.loop-c.c-index) ≡ true
here c = sym (tested c.before) ∙ c.if-not-good_coordinate.false

pub loop-c-preserved : goal.loop-c-preserved
loop-c-preserved c =
    let i = c.loop-c.c-index in
    let key = c.args.key.now in
    let h = here (goal.at.loop-c-preserved c).Else-not-good_coordinate in
    let n : Abs≤ (at key i) farthest_point = coordinate_near _ _ _ h in
    let p = c.requires in
    let q = eq_plus (sum (i + 1) (at key)) (sum i (at key)) (at key i) (sum_more i (at key)) in
    (all_more i (λ i. good_coordinate _ _ (at key i)) c.loop-c.invariant.0 h, zeq (search zlin depth 14) (omega (arith, zin, p.1)), zabs (search zlin depth 14) (omega (arith, zin, p.1)))

pub returns : goal.returns
returns c =
    let key = c.args.key.now in
    let e : c.loop-c.c-index ≡ length key = search rules in
    let z : W32 (pos 0 -ℤ to_z w32 c.loop-c.total-bits) ≡ neg_ℤ (sum c.loop-c.c-index (at key)) = zeq (search zlin depth 14) (omega (arith, zin, c.requires.1)) in
    key_done key c.requires.0 (add-one _) (own (goal.at.returns c).After-remainder_of-remainder) c.loop-c.c-index e c.loop-c.invariant.0 z c.good_coordinate-2.ensures
