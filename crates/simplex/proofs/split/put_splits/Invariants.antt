-- The splits are filled from the front, one a turn.
use Rattle.simplex.specs.Inner.{SplitsOf}
use Rattle.simplex.proofs.split.put_splits.Given as goal

abbrev pub invariant-loop-i : goal.invariant-loop-i
invariant-loop-i l = SplitsOf l.w l.i l.x l.splits.floors l.splits.rests
