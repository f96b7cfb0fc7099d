-- The starred weights, computed by the checker.
use mathlib.Core.Path.{refl}
use Rattle.whole.specs.Floor.{floor, remainder}
use Rattle.whole.specs.Sum.{sum}
use Rattle.whole.specs.Lists.{tab, collect}
use Rattle.lattice.specs.Weight.{best, spread, weight}
use Rattle.lattice.specs.Points.{corner, last_of, points, weighed}
use Rattle.lattice.specs.Starred.{WeightCases}

pub weight_cases : WeightCases
unfolding weighed points corner collect last_of tab sum weight spread best floor remainder
weight_cases = record { inside = refl; middle = refl; edge = refl; edge_zero = refl; vertex = refl }
