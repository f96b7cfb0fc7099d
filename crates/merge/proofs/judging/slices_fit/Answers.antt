-- The lengths are compared with those that the head gives.
use Rattle.table.specs.Calls.{fits}
use Rattle.merge.proofs.judging.slices_fit.Goals as goal

pub returns : goal.returns
unfolding fits
returns c = c.lengths_fit.ensures
