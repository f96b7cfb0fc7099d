-- Below n the machine's number is n·z_i less the sum, each within 12,000,006.
use native.Mathlib.Omega.{arith}
use mathlib.Core.Path.{◌≡◌}
use Prim.Native.Nat.{ℕ, ◌+◌, ◌*◌}
use lib.IntN.{ℤ, pos, ◌*ℤ◌}
use lib.Dec.{lit≤}
use borrow.Author.Tests.{lt-ltb}
use Rattle.whole.specs.Size.{P, N, Abs≤}
use Rattle.whole.specs.Lists.{at}
use Rattle.whole.proofs.Parts.{mul_is, zin}
use Rattle.whole.proofs.Signed.{zlow, zeq}
use Rattle.whole.proofs.Size.{abs_times}
use Rattle.simplex.proofs.corner.point_at.Goals as goal

record Here (n : ℕ) (z : ℤ) : Type 0 where
  near : Abs≤ z 2000001
  product : Abs≤ (pos n *ℤ z) 12000006
  parts : P (pos n *ℤ z) + (n * N z + 0 * P z) ≡ (n * P z + 0 * N z) + N (pos n *ℤ z)

pub returns-then-i-n : goal.returns-then-i-n
returns-then-i-n c =
    let here : Here c.args.n (at c.args.z.now c.args.i) = let z = at c.args.z.now c.args.i in let m = c.requires.z_near c.args.i c.if-i-n.true in let k : Abs≤ (pos c.args.n) 6 = record { abs = omega (arith, c.requires.few) } in record { near = m; product = abs_times (pos c.args.n) z k m (lit≤ tt); parts = mul_is (pos c.args.n) z } in
    let h = here in let p = c.requires in rw (lt-ltb _ _ c.if-i-n.true) (zeq (search zlow depth 14) (omega (arith, zin)))
