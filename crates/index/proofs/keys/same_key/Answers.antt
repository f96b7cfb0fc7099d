-- Of the same length, and equal pair by pair.
use Rattle.std.proofs.Common.{◌≡◌, length, ◌∙◌, rules, tests}
use borrow.Author.Tests.{ne_eqb}
use Rattle.std.proofs.lemmas.Iterator.{YieldsList-from_slice, YieldsList-from_zip, same_from_all}
use Rattle.std.specs.Bool.{one_answer}
use Rattle.index.proofs.Equality.{same_decides, same_lengths}
use Rattle.index.proofs.keys.same_key.Goals as goal

pub returns-then-a-b : goal.returns-then-a-b
returns-then-a-b c =
    let a = c.args.a.now in
    let b = c.args.b.now in
    one_answer _ _ (same_from_all c.all.new.self _ c.all.result a b c.all.ensures.ran (YieldsList-from_zip (YieldsList-from_slice a cc) (YieldsList-from_slice b cc)) (search rules) (λ x q k. search (rules, tests)) (λ x q k. search (rules, tests)))
    (same_decides a b)

pub returns-else-a-b : goal.returns-else-a-b
returns-else-a-b c =
    let a = c.args.a.now in
    let b = c.args.b.now in
    let other : length a ≡ length b → ⊥ = search rules in
    ne_eqb (length a) (length b) other ∙ same_lengths a b other
