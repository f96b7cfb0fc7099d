use Rattle.std.proofs.Common.{rules, refl}
use Rattle.table.specs.Table.{Table}
use Rattle.table.specs.Heads.{settings}
use Rattle.withdraw.specs.Inner.{unindexed}
use Rattle.withdraw.proofs.Going.{slots_none, slots_in, slots_more}
use Rattle.withdraw.proofs.leaving.leave_all.Goals as goal
use Rattle.withdraw.proofs.leaving.leave_all.Goals.{Start}

abbrev the : Start → Table
the s = unindexed s.args.head.points s.args.keys.now s.args.sums.now

pub loop-slot-init : goal.loop-slot-init
loop-slot-init c = (search rules, refl, slots_none (settings c.args.head) (the (goal.at.loop-slot-init c).Start) c.args.head.d c.args.simplex.now.weights c.args.simplex.now.coords)

pub leave_slot-points-requires : goal.leave_slot-points-requires
leave_slot-points-requires c =
    let l = c.loop-slot in record {
      points_in = slots_in (settings c.args.head) (the (goal.at.leave_slot-points-requires c).Start) c.args.head.d c.args.simplex.now.weights c.args.simplex.now.coords l.slot l.points l.keys l.sums l.invariant.2 c.requires.points_in;
      arrays = c.requires.arrays;
      slot_bound = search rules;
    }

pub loop-slot-preserved : goal.loop-slot-preserved
loop-slot-preserved c =
    let l = c.loop-slot in
    (search rules, refl, slots_more (settings c.args.head) (the (goal.at.loop-slot-preserved c).Start) c.args.head.d c.args.simplex.now.weights c.args.simplex.now.coords l.slot l.points l.keys l.sums l.invariant.2 c.leave_slot-points.ensures)
