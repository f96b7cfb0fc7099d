-- The pairs of the two neighbours; then mass and value sum, each from three numbers.
use Rattle.blur.proofs.Passing.{value_blendable, new_pair}
use Rattle.blur.proofs.pass.new_pair.Goals as goal

pub blend-requires-2 : goal.blend-requires-2
blend-requires-2 c =
    let b = value_blendable _ _ c.requires.passable _ c.requires.point_lt_points c.args.k c.neighbour_pair-plus.ensures c.neighbour_pair-minus.ensures in
    record { abs = b.0; abs_2 = b.1.0; abs_3 = b.1.1 }

pub returns : goal.returns
returns c =
    new_pair _ _ c.requires.passable _ c.requires.point_lt_points c.args.k c.neighbour_pair-plus.ensures c.neighbour_pair-minus.ensures (record { sfits = c.blend.type_inv }) (record { sfits = c.blend-2.type_inv }) c.blend.ensures c.blend-2.ensures
