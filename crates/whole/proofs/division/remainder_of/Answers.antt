-- The machine's remainder, plus the divisor where it is negative, is the remainder that is never negative.
use mathlib.Core.Path.{◌≡◌, ap, ◌∙◌}
use native.Mathlib.Omega.{arith}
use lib.IntN.{ℤ, pos, nat_abs, ◌+ℤ◌}
use lib.Signed.{rem_z, ◌<ℤ◌, ◌≤ℤ◌}
use mir.Val.{to_z}
use mir.Syntax.{w32}
use Rattle.whole.proofs.Parts.{zin, zout}
use Rattle.whole.proofs.Signed.{zlow, zeq, W32, Sizes, sizes}
use Rattle.whole.proofs.Floor.{floor_neg, floor_pos}
use Rattle.whole.proofs.division.remainder_of.Goals as goal
use Rattle.whole.proofs.division.remainder_of.Goals.{Start}

one : (c : Start) → pos 1 ≤ℤ pos c.args.m
one c = omega (arith, zout)

size : (c : Start) → Sizes c.args.x (pos c.args.m)
size c = sizes c.args.x (pos c.args.m) (one c)

-- the remainder as the machine has it
abbrev left : Start → ℤ
left c = W32 (rem_z (W32 c.args.x) (to_z w32 c.args.m))

own : (c : Start) → left c ≡ rem_z c.args.x (pos c.args.m)
own c = let s = size c in zeq (search zlow depth 14) (omega (arith, zin))

below : (c : goal.Then-r-lt0) → rem_z c.args.x (pos c.args.m) <ℤ pos 0
below c = let e = own c.before in omega (arith, zin, zout)

above : (c : goal.Else-r-lt0) → pos 0 ≤ℤ rem_z c.args.x (pos c.args.m)
above c = let e = own c.before in omega (arith, zin, zout)

pub returns-then-r-lt0 : goal.returns-then-r-lt0
returns-then-r-lt0 c = let b = below c in let s = size c.before in
    ap nat_abs {x = W32 (left c.before +ℤ to_z w32 c.args.m)} (zeq (search zlow depth 14) (omega (arith, zin)) ∙ (floor_neg c.args.x (pos c.args.m) (one c.before) b).rem_is)

pub returns-else-r-lt0 : goal.returns-else-r-lt0
returns-else-r-lt0 c = let b = above c in let s = size c.before in
    ap nat_abs {x = left c.before} (zeq (search zlow depth 14) (omega (arith, zin)) ∙ (floor_pos c.args.x (pos c.args.m) (one c.before) b).1)
