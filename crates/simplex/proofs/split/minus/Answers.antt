-- Floors and remainders are subtracted; where the remainder comes out negative one W is borrowed (`minus_low`), else not (`minus_high`).
use mathlib.Core.Path.{◌∙◌}
use native.Mathlib.Omega.{arith}
use lib.IntN.{ℤ, pos, ◌-ℤ◌}
use lib.Signed.{◌<ℤ◌, ◌≤ℤ◌}
use Rattle.whole.proofs.Parts.{zin}
use Rattle.whole.proofs.Signed.{zlow, zeq, t<, t≥, W32}
use Rattle.simplex.proofs.Splits.{minus_low, minus_high}
use Rattle.simplex.proofs.split.minus.Goals as goal

pub returns-then-r-lt0 : goal.returns-then-r-lt0
returns-then-r-lt0 c =
    let left : ℤ = W32 (W32 c.args.a.rest -ℤ W32 c.args.b.rest) in
    let below : (c.args.a.rest -ℤ c.args.b.rest) <ℤ pos 0 = let p = c.requires in t< {a = left} c.if-r-lt0.true (search zlow depth 14) (omega (arith, zin)) in
    let p = c.requires in
    let a = c.args.a in
    let b = c.args.b in
    let s = minus_low c.args.w a.floor a.rest b.floor b.rest p.part p.part_2 below in
    record { floor_is = zeq (search zlow depth 14) (omega (arith, zin)) ∙ s.floor_is; rest_is = zeq (search zlow depth 14) (omega (arith, zin)) ∙ s.rest_is }

pub returns-else-r-lt0 : goal.returns-else-r-lt0
returns-else-r-lt0 c =
    let left : ℤ = W32 (W32 c.args.a.rest -ℤ W32 c.args.b.rest) in
    let above : pos 0 ≤ℤ (c.args.a.rest -ℤ c.args.b.rest) = let p = c.requires in t≥ {a = left} c.if-r-lt0.false (search zlow depth 14) (omega (arith, zin)) in
    let p = c.requires in
    let a = c.args.a in
    let b = c.args.b in
    let s = minus_high c.args.w a.floor a.rest b.floor b.rest p.part p.part_2 above in
    record { floor_is = zeq (search zlow depth 14) (omega (arith, zin)) ∙ s.floor_is; rest_is = zeq (search zlow depth 14) (omega (arith, zin)) ∙ s.rest_is }
