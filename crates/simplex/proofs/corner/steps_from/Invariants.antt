-- A turn adds the difference of place i from place j (`steps_more`); floors within 2,000,001 each keep their sum in 32 bits.
use Rattle.std.proofs.Common.{◌*◌, pos}
use Rattle.whole.specs.Size.{Abs≤}
use Rattle.simplex.specs.Inner.{StepsFrom, coordinate}
use Rattle.simplex.proofs.corner.steps_from.Given as goal

abbrev pub invariant-loop-i : goal.invariant-loop-i
invariant-loop-i l = StepsFrom l.w l.i (coordinate l.w l.splits.floors l.splits.rests) l.j l.z l.total (pos l.spread) × Abs≤ l.total (l.i * 2000001)
