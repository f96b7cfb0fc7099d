-- Two stores, of the numbers as they were passed.
use borrow.Author.Rules.{rules}
use Rattle.table.specs.Pour.{set_pair}
use Rattle.pour.proofs.pair.set_pair.Goals as goal

pub returns : goal.returns
unfolding set_pair
returns c = search rules
