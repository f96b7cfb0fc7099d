-- The slots before k are weighed.
use Rattle.whole.specs.Lists.{collect}
use Rattle.simplex.specs.Slots.{slot}
use Rattle.table.specs.Heads.{settings, table}
use Rattle.filter.specs.Inner.{WeighedIs}
use Rattle.filter.proofs.weigh.weigh.Given as goal

abbrev pub invariant-loop-k : goal.invariant-loop-k
invariant-loop-k l = WeighedIs (settings l.head) (table l.head l.keys l.sheet l.index) (collect l.k (slot l.head.d l.simplex.weights l.simplex.coords)) l.sums.weight l.sums.mass l.sums.value
