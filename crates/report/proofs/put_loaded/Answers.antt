-- The log is loaded, and its refusal or its table is what is printed.
use mathlib.Core.Path.{ap}
use Rattle.lattice.specs.Refusals.{told}
use Rattle.lattice.proofs.Refusing.{number_not_0}
use Rattle.report.proofs.Printing.{refused_room, table_room}
use Rattle.report.proofs.put_loaded.Goals as goal

pub put_refused-requires : goal.put_refused-requires
put_refused-requires c =
    refused_room _ _ (rw c.in-Err.is at c.load-loaded.ensures) (number_not_0 c.in-Err.refusal) c.requires

pub put_table-requires : goal.put_table-requires
put_table-requires c =
    table_room _ _ c.load-loaded.ensures (ap told c.in-Ok.is) c.requires
