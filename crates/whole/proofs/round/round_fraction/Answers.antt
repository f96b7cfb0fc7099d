-- Three times 2.5·10^18 fits 64 bits, so neither the double nor the sum wraps; the quotient is the rounded one by `rounded_pos` and `rounded_neg`.
use native.Mathlib.Omega.{arith}
use mathlib.Core.Path.{◌∙◌}
use lib.IntN.{pos, ◌-ℤ◌, ◌+ℤ◌}
use lib.Signed.{quot_z, ◌≤ℤ◌}
use Rattle.whole.specs.Size.{Abs≤}
use Rattle.whole.proofs.Parts.{zin}
use Rattle.whole.proofs.Signed.{zlin, zle, zeq, t<, t≥, W64}
use Rattle.whole.proofs.Size.{zabs}
use Rattle.whole.proofs.Floor.{quot_abs}
use Rattle.whole.proofs.Rounding.{rounded_pos, rounded_neg}
use Rattle.whole.proofs.round.round_fraction.Goals as goal
use Rattle.whole.proofs.round.round_fraction.Goals.{Start}

two : (c : Start) → pos 1 ≤ℤ (c.args.den +ℤ c.args.den)
two c = zle (search zlin depth 14) (omega (arith, zin))

-- the quotient is no larger than what is divided
low : (c : Start) → Abs≤ (quot_z (c.args.num +ℤ c.args.num -ℤ c.args.den) (c.args.den +ℤ c.args.den)) 7500000000000000000
low c = quot_abs {a = c.args.num +ℤ c.args.num -ℤ c.args.den} (zabs (search zlin depth 14) (omega (arith, zin))) (two c)

high : (c : Start) → Abs≤ (quot_z (c.args.num +ℤ c.args.num +ℤ c.args.den) (c.args.den +ℤ c.args.den)) 7500000000000000000
high c = quot_abs {a = c.args.num +ℤ c.args.num +ℤ c.args.den} (zabs (search zlin depth 14) (omega (arith, zin))) (two c)

pub returns-then-num-lt0 : goal.returns-then-num-lt0
returns-then-num-lt0 c = let q = low c.before in let num = c.args.num in
    zeq (search zlin depth 14) (omega (arith, zin)) ∙ rounded_neg (t< {a = W64 num} c.if-num-lt0.true (search zlin depth 14) (omega (arith, zin))) c.requires.den_small.low

pub returns-else-num-lt0 : goal.returns-else-num-lt0
returns-else-num-lt0 c = let q = high c.before in let num = c.args.num in
    zeq (search zlin depth 14) (omega (arith, zin)) ∙ rounded_pos (t≥ {a = W64 num} c.if-num-lt0.false (search zlin depth 14) (omega (arith, zin))) c.requires.den_small.low
