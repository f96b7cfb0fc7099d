-- The places are filled from the front, a moved coordinate a turn.
use lib.ListN.{length}
use Rattle.blur.proofs.Moving.{moved_at, Filled}
use Rattle.blur.proofs.step.put_neighbour.Given as goal

abbrev pub invariant-loop-i : goal.invariant-loop-i
invariant-loop-i l = Filled (length l.key) l.i (moved_at l.plus (length l.key) l.k l.key) l.neighbour
