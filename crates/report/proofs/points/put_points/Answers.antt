use lib.Seq.{length-take-le}
use Rattle.report.proofs.Rows.{listed_rows, listed_written}
use Rattle.report.proofs.points.put_points.Goals as goal

pub put_rows-requires : goal.put_rows-requires
put_rows-requires c =
    listed_rows _ c.requires (length-take-le _ _ c.requires.printable.few) c.fill.ensures

pub returns : goal.returns
returns c =
    listed_written _ c.requires (length-take-le _ _ c.requires.printable.few) c.fill.ensures c.put_rows.ensures
