-- The digits of what is left have yet to be written, before the place that was written last. Assumes nothing.
use Prim.Native.Nat.{◌-◌}
use Rattle.whole.specs.Lists.{splice}
use Rattle.text.specs.Text.{digits}
use Rattle.text.proofs.Decimal.{Left}
use Rattle.text.proofs.put_digits.Given as goal

abbrev pub invariant-loop-next : goal.invariant-loop-next
invariant-loop-next l = Left (splice l.initial.out l.at (digits l.n)) l.at (l.next - l.at) l.left l.out
