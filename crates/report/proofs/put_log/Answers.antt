-- The program's own memory is cut to the lengths that the settings and the room of the book give.
use Rattle.report.proofs.Printing.{lent_room, log_written}
use Rattle.report.proofs.put_log.Goals as goal

pub put_loaded-requires : goal.put_loaded-requires
put_loaded-requires c = lent_room _ _ _ _ c.requires

pub returns : goal.returns
returns c =
    log_written _ _ _ _ c.requires c.put_loaded.ensures
