-- The sheet has what the reading gave, and it is subtracted.
use Rattle.table.specs.Table.{Table}
use Rattle.table.specs.Heads.{settings, table}
use Rattle.withdraw.proofs.Lowered.{can_spread, can_take_off, now_lowered}
use Rattle.withdraw.proofs.lowering.lower.Goals as goal
use Rattle.withdraw.proofs.lowering.lower.Goals.{Start}

abbrev the : Start → Table
the s = table s.args.head s.args.keys.now s.args.sums.now s.args.index.now

pub spread_reading-requires : goal.spread_reading-requires
spread_reading-requires c = can_spread (settings c.args.head) (the (goal.at.spread_reading-requires c).Start) c.args.reading.now c.requires

pub take_off-requires : goal.take_off-requires
take_off-requires c = can_take_off (settings c.args.head) (the (goal.at.take_off-requires c).Start) c.args.reading.now c.requires c.spread_reading.ensures

pub returns : goal.returns
returns c = now_lowered (settings c.args.head) (the (goal.at.returns c).Start) c.args.reading.now c.requires c.spread_reading.ensures c.take_off.ensures
