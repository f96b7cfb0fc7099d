-- The search for each key is asked, in order, up to the first that does not find its point.
use Rattle.std.proofs.Common.{rules, tests}
use Rattle.std.proofs.lemmas.Iterator.{YieldsList-from_range}
use Rattle.std.proofs.lemmas.Iterator.Search.{all_from_yields_List}
use native.Mathlib.Omega.{arith}
use mathlib.Core.Path.{refl, ◌∙◌}
use Rattle.whole.proofs.Tests.{all_range}
use Rattle.index.specs.Indexed.{finding}
use Rattle.soundness.specs.Inner.{is_found}
use Rattle.soundness.proofs.places.finds_all.Goals as goal

pub returns : goal.returns
unfolding finding
returns c =
    let a = c.args in
    all_from_yields_List (is_found a.d a.capacity a.keys.now a.index.now) _ _ c.all.result c.all.ensures.ran (YieldsList-from_range 0 a.points a.points refl (omega arith)) (λ x b q k. search (rules, tests))
    ∙ all_range (is_found a.d a.capacity a.keys.now a.index.now) a.points
