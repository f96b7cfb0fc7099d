-- The machine's quotient, less 1 where its remainder is negative, is the floor.
use mathlib.Core.Path.{◌≡◌, ◌∙◌}
use native.Mathlib.Omega.{arith}
use lib.IntN.{ℤ, pos}
use lib.Signed.{rem_z, ◌≤ℤ◌}
use mir.Val.{to_z}
use mir.Syntax.{w32}
use Rattle.whole.proofs.Parts.{zin, zout}
use Rattle.whole.proofs.Signed.{zlow, zeq, W32, Sizes, sizes}
use Rattle.whole.proofs.Floor.{FloorNeg, floor_neg, floor_pos}
use Rattle.whole.proofs.division.floor_of.Goals as goal
use Rattle.whole.proofs.division.floor_of.Goals.{Start}

one : (c : Start) → pos 1 ≤ℤ pos c.args.m
one c = omega (arith, zout)

size : (c : Start) → Sizes c.args.x (pos c.args.m)
size c = sizes c.args.x (pos c.args.m) (one c)

-- the remainder as the machine has it
abbrev left : Start → ℤ
left c = W32 (rem_z (W32 c.args.x) (to_z w32 c.args.m))

own : (c : Start) → left c ≡ rem_z c.args.x (pos c.args.m)
own c = let s = size c in zeq (search zlow depth 14) (omega (arith, zin))

below : (c : goal.Then-x-n-lt0) → FloorNeg c.args.x (pos c.args.m)
below c = let e = own c.before in floor_neg c.args.x (pos c.args.m) (one c.before) (omega (arith, zin, zout))

pub returns-then-x-n-lt0 : goal.returns-then-x-n-lt0
returns-then-x-n-lt0 c = let b = below c in let s = size c.before in zeq (search zlow depth 14) (omega (arith, zin)) ∙ b.quot_is

pub returns-else-x-n-lt0 : goal.returns-else-x-n-lt0
returns-else-x-n-lt0 c = let s = size c.before in let e = own c.before in
    zeq (search zlow depth 14) (omega (arith, zin)) ∙ (floor_pos c.args.x (pos c.args.m) (one c.before) (omega (arith, zin, zout))).0
