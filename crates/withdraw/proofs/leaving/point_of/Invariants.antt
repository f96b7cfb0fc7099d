-- None of the points from i on has the key.
use Rattle.std.proofs.Common.{◌≡◌}
use Rattle.index.specs.Keys.{key_at}
use Rattle.book.specs.Withdraw.{point_of}
use Rattle.withdraw.proofs.leaving.point_of.Given as goal

abbrev pub invariant-loop-i : goal.invariant-loop-i
invariant-loop-i l = point_of l.points (key_at l.d l.keys) l.key ≡ point_of l.i (key_at l.d l.keys) l.key
