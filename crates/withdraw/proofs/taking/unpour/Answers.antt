-- Lowered, then without the points that have no mass.
use Rattle.table.specs.Table.{Table}
use Rattle.table.specs.Heads.{settings, table}
use Rattle.withdraw.proofs.Unpoured.{can_enclose, points_in, the_arrays, unpoured}
use Rattle.withdraw.proofs.taking.unpour.Goals as goal
use Rattle.withdraw.proofs.taking.unpour.Goals.{Start}

abbrev the : Start → Table
the s = table s.args.head s.args.keys.now s.args.sums.now s.args.index.now

pub enclose-simplex-requires : goal.enclose-simplex-requires
enclose-simplex-requires c = can_enclose (settings c.args.head) (the (goal.at.enclose-simplex-requires c).Start) c.args.reading.now c.requires

pub leave_all-requires : goal.leave_all-requires
leave_all-requires c =
    let s = (goal.at.leave_all-requires c).Start in record {
      points_in = points_in (settings c.args.head) (the s) c.args.reading.now c.requires c.lower.ensures;
      arrays = the_arrays (settings c.args.head) (the s) c.args.reading.now c.requires c.lower.ensures c.enclose-simplex.ensures;
    }

pub returns : goal.returns
returns c = unpoured (settings c.args.head) (the (goal.at.returns c).Start) c.args.reading.now c.requires c.lower.ensures c.enclose-simplex.ensures c.leave_all.ensures
