-- From each place that the loop comes to, the walk ends where the walk from the home place does. An empty place lies ahead, and each
-- turn is one place nearer to the end of the walk.
use Rattle.std.proofs.Common.{◌≡◌, ◌<◌, length}
use Rattle.index.proofs.Ring.{ahead}
use Rattle.index.proofs.Steps.{stop, walked, sought}
use Rattle.index.proofs.search.search.Given as goal

abbrev pub invariant-loop-e : goal.invariant-loop-e
invariant-loop-e l = (l.at < l.places) × (l.places ≡ length l.index) × (l.d ≡ length l.key) × (sought l.capacity l.keys l.index l.key ≡ walked l.keys l.index l.key l.places l.at)

abbrev pub decreases-loop-e : goal.decreases-loop-e
decreases-loop-e l = ahead l.places (stop l.keys l.index l.key) l.places l.at
