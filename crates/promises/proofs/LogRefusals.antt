-- The refusals of the log and of the program, all together.
use Rattle.promises.specs.LogRefusals.{LogRefusalsExact}
use Rattle.promises.proofs.Items.{items_refused}
use Rattle.promises.proofs.Stopping.{load_refuses}
use Rattle.promises.proofs.Program.{prints}

pub log_refusals_exact : LogRefusalsExact
log_refusals_exact = record { item = items_refused; load_call = load_refuses; program = prints }
