-- Each of the two sums is small, so it is the sum of the numbers that the machine has; and the value is read where the new mass is not.
use native.Mathlib.Omega.{arith}
use mathlib.Core.Path.{ap₂}
use Prim.Native.Nat.{◌+◌, ◌*◌}
use lib.IntN.{pos}
use lib.Seq.{get_or-set_other}
use Rattle.whole.proofs.Parts.{zin}
use Rattle.whole.proofs.Signed.{zlin, zeq}
use Rattle.table.specs.Pour.{set_pair}
use Rattle.pour.proofs.pair.raise_pair.Goals as goal

pub returns : goal.returns
unfolding set_pair
returns c =
    let p = c.requires in
    rw (get_or-set_other c.args.sums.now (2 * c.args.point) (2 * c.args.point + 1) _ (pos 0) (λ e. omega (arith, e)))
    (ap₂ (set_pair c.args.sums.now c.args.point) (zeq (search zlin depth 14) (omega (arith, zin))) (zeq (search zlin depth 14) (omega (arith, zin))))
