-- The point's part of the keys, moved, and the pair found for it.
use Rattle.blur.proofs.Passing.{part_movable, neighbour_is}
use Rattle.blur.proofs.pass.neighbour_pair.Goals as goal

pub put_neighbour-requires-clause-movable : goal.put_neighbour-requires-clause-movable
put_neighbour-requires-clause-movable c = part_movable _ _ c.requires.passable _ c.requires.point_lt_points

pub returns : goal.returns
returns c =
    neighbour_is _ _ c.requires.passable _ c.requires.point_lt_points c.args.plus c.args.k c.put_neighbour.ensures _ c.pair_of.ensures c.unwrap_or.ensures
