-- The places before j have the kept coordinates, and the others 0; j numbers of 32 bits sum up to at most j times 2^31 in size.
use mathlib.Core.Path.{◌≡◌}
use Prim.Native.Nat.{◌*◌, ◌≤◌}
use Rattle.whole.specs.Size.{Abs≤}
use Rattle.whole.specs.Sum.{sum}
use Rattle.whole.specs.Lists.{tab}
use Rattle.report.proofs.Numbers.{filled, kept}
use Rattle.report.proofs.lines.point_numbers.Given as goal

abbrev pub invariant-loop-j : goal.invariant-loop-j
invariant-loop-j l =
    (l.j ≤ l.d) × (l.numbers ≡ filled (tab l.j (kept l.keys (l.d * l.i)))) × (l.total ≡ sum l.j (kept l.keys (l.d * l.i))) × Abs≤ l.total (l.j * 2147483648)
