-- The first from `from` up whose search ends at a place that names no entry; the index tells that it is not among the numbers.
use Rattle.std.proofs.Common.{rules, tests}
use Rattle.std.proofs.lemmas.Iterator.{serves_from_Range, first_from_Range}
use mathlib.Core.Path.{◌≡◌, ap, ◌∙◌}
use mathlib.Core.Bool.{Bool, true, false}
use Prim.Native.Nat.{ℕ, ◌<◌}
use lib.IntN.{pos}
use mir.Syntax.{w32}
use mir.Val.{to_z, of_z, SFits}
use mir.Facts.{to_z-of_z}
use Rattle.whole.specs.Lists.{at}
use Rattle.book.specs.Book.{among}
use Rattle.numbers.specs.Indexing.{is_named}
use Rattle.numbers.proofs.Numbering.{can_search}
use Rattle.numbers.proofs.Held.{named_among, first_lowest}
use Rattle.numbers.proofs.lowest_from.Goals as goal
use Rattle.numbers.proofs.lowest_from.Goals.{Start}

-- whether the number is held, as the code asks
abbrev asked : Start → ℕ → Bool
asked s k = is_named s.args.numbers.now s.args.places.now (to_z w32 (of_z w32 (pos k)))

pub find-requires-clause-callable : goal.find-requires-clause-callable
find-requires-clause-callable c =
    let searchable = can_search _ _ _ c.requires.number_index in
    let few = c.requires.number_index.few in
    serves_from_Range (λ x q e. search (rules, tests)) (λ x lo hi. search (rules, tests))

pub returns : goal.returns
returns c =
    let s = (goal.at.returns c).Start in
    let few = c.requires.number_index.few in
    let told : (k : ℕ) → k < c.args.n → asked s k ≡ among c.args.n (at c.args.numbers.now) (pos k) = λ k l.
    let f : SFits w32 (pos k) = search rules in
    ap (is_named c.args.numbers.now c.args.places.now) (to_z-of_z f) ∙ named_among _ _ _ c.requires.number_index (pos k) in
    c.unwrap_or.ensures ∙ first_lowest c.args.n (at c.args.numbers.now) c.args.from (asked s) told c.requires.from_le_n.1 c.find.result
    (first_from_Range _ _ _ c.find.result (λ k. asked s k ≡ false) (λ k. asked s k ≡ true) c.find.ensures.ran (λ x q e. search (rules, tests)) (λ x q e. search (rules, tests)))
