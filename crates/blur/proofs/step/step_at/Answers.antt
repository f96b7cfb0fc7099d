-- Minus d at place k, and 1 elsewhere.
use native.Mathlib.Omega.{arith}
use mathlib.Core.Path.{sym, ◌∙◌}
use Rattle.whole.proofs.Parts.{zin}
use Rattle.whole.proofs.Signed.{zlow, zeq}
use Rattle.blur.proofs.Moving.{step_here, step_else}
use Rattle.blur.proofs.step.step_at.Goals as goal

pub returns-then-i-k : goal.returns-then-i-k
returns-then-i-k c =
    let p = c.requires in
    zeq (search zlow depth 14) (omega (arith, zin)) ∙ sym (step_here c.args.d c.args.k c.args.i (let z = c.if-i-k.true in omega arith))

pub returns : goal.returns
returns c = sym (step_else c.args.d c.args.k c.args.i (λ y. let z = c.if-i-k.false in omega arith))
