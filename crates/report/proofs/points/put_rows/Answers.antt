use borrow.Author.Rules.{rules}
use Rattle.report.proofs.Rows.{rows_start, row_room, row_more, rows_done}
use Rattle.report.proofs.points.put_rows.Goals as goal

pub loop-i-init : goal.loop-i-init
loop-i-init c = rows_start _ _ _ _ _ _

pub put_point_line-next-requires : goal.put_point_line-next-requires
put_point_line-next-requires c = row_room c.requires c.loop-i.invariant c.loop-i-test.true c.from.ensures

pub loop-i-preserved : goal.loop-i-preserved
loop-i-preserved c = row_more c.requires c.loop-i.invariant c.loop-i-test.true c.from.ensures c.put_point_line-next.ensures

pub returns : goal.returns
returns c = rows_done c.requires c.loop-i.invariant (search rules) (search rules)
