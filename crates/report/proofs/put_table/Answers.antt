use Rattle.report.proofs.Printing.{table_written}
use Rattle.report.proofs.put_table.Goals as goal

pub returns : goal.returns
returns c =
    table_written _ _ _ c.requires c.put_head-after_head.ensures c.put_points-after_points.ensures c.put_answers.ensures
