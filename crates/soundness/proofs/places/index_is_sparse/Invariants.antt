-- The entries before e are low, and those of them that name a point are counted.
use mathlib.Core.Path.{◌≡◌}
use mathlib.Core.Bool.{true}
use Prim.Native.Nat.{◌≤◌}
use lib.Dec.{leb}
use Rattle.whole.specs.Sum.{all}
use Rattle.index.specs.Search.{entry_at}
use Rattle.index.specs.Indexed.{count, used}
use Rattle.soundness.proofs.places.index_is_sparse.Given as goal

abbrev pub invariant-loop-e : goal.invariant-loop-e
invariant-loop-e l =
    (all l.e-index (λ p. leb (entry_at l.index p) l.points) ≡ true) × (l.named ≡ count l.e-index (used (entry_at l.index))) × (l.named ≤ l.e-index)
