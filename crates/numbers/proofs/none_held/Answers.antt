-- Each entry is asked for by its first number.
use Rattle.std.proofs.Common.{rules, tests, ◌≡◌, ◌+◌, pos, ap, ◌∙◌, arith}
use mathlib.Core.Bool.{not}
use Rattle.whole.specs.Lists.{at}
use Rattle.whole.proofs.Pieces.{all_pieces, piece_first}
use Rattle.book.specs.Book.{number_at}
use Rattle.numbers.specs.Indexing.{is_named}
use Rattle.numbers.proofs.none_held.Goals as goal

pub returns : goal.returns
returns c =
    let d = c.args.d in
    let l = c.args.source.now in
    let named = is_named c.args.numbers.now c.args.places.now in
    all_pieces (d + 3) c.args.count l (omega arith) c.requires.d_le_most_d.2 _ (λ j. not (named (number_at d l j)))
    (λ j h x e b q k. let t : (q ≡ _) × (b ≡ not (named (at x.now 0))) = search (rules, tests) in
    (t.0, t.1 ∙ ap (λ n. not (named n)) (piece_first (d + 3) j l e (pos 0) (omega arith))))
    _ (search rules) (search rules) c.all.ensures.ran
