-- The starred cases of "Small numbers to check by hand", all in one: each number is the one computed in the crate whose definition it is of.
use Rattle.whole.proofs.Rounding.{rounding_cases}
use Rattle.lattice.proofs.Starred.{weight_cases}
use Rattle.index.proofs.Starred.{home_cases}
use Rattle.blur.proofs.Passes.{blur_cases}
use Rattle.filter.proofs.Weighing.{answer_cases}
use Rattle.promises.specs.Starred.{StarredRight}

-- a case, and those after it
infixr 5 ◌then◌
◌then◌ : {A B : Type 0} → A → B → A × B
a then b = (a, b)

pub starred_right : StarredRight
starred_right =
    weight_cases.inside
    then weight_cases.middle
    then weight_cases.edge
    then weight_cases.edge_zero
    then weight_cases.vertex
    then home_cases.of_one
    then home_cases.of_two
    then home_cases.of_minus_one
    then rounding_cases.three_halves
    then rounding_cases.minus_three_halves
    then rounding_cases.minus_half
    then rounding_cases.third
    then rounding_cases.minus_two_thirds
    then (blur_cases.mass_at_one, blur_cases.value_at_one)
    then (blur_cases.mass_at_two, blur_cases.value_at_two)
    then (answer_cases.value_sum, answer_cases.mass_sum, answer_cases.answer_between)
    then tt
