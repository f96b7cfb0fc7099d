-- Each entry is judged by the numbers behind its first.
use Rattle.std.proofs.Common.{rules, ◌≡◌, ◌+◌, ◌-◌, eqb, length, take, drop, refl, ap, ◌∙◌, arith, tests}
use Rattle.lattice.proofs.Refusing.{ok_is}
use Rattle.table.specs.Reading.{reading_of, own_refusal}
use Rattle.book.specs.Book.{entry_of, keeps_limits}
use Rattle.book.proofs.Entries.{part_reading}
use Rattle.whole.proofs.Pieces.{all_pieces, piece_rest}
use Rattle.carried.proofs.limits.keeps_limits.Goals as goal

pub returns : goal.returns
returns c =
    let d = c.args.d in
    let l = c.args.book.now in
    all_pieces (d + 3) c.args.n l (omega arith) c.requires.2 _ (λ j. keeps_limits (entry_of d l j).reading)
    (λ j h x e b q k. let t : (q ≡ _) × (b ≡ eqb (own_refusal (reading_of d (take (length x.now - 1) (drop 1 x.now)))) 0) = search (rules, tests, ok_is) in
    (t.0, t.1 ∙ ap (λ r. eqb (own_refusal r) 0) (ap (reading_of d) (piece_rest (d + 3) j l e (omega arith)) ∙ part_reading d l j _ _ refl refl)))
    _ (search rules) (search rules) c.all.ensures.ran
