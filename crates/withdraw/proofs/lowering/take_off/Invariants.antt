-- The first i numbers are subtracted.
use Rattle.withdraw.specs.Inner.{TakenOff}
use Rattle.withdraw.proofs.lowering.take_off.Given as goal

abbrev pub invariant-loop-i : goal.invariant-loop-i
invariant-loop-i l = TakenOff l.i l.initial.sums l.sheet l.sums
