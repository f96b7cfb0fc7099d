-- The starred home places, computed by the checker.
use Rattle.std.proofs.Common.{refl}
use Rattle.whole.specs.Word.{word}
use Rattle.index.specs.Keys.{hash, home}
use Rattle.index.specs.Starred.{HomeCases}

pub home_cases : HomeCases
unfolding home hash word
home_cases = record { of_one = refl; of_two = refl; of_minus_one = refl }
