-- The numbers of the entries come one after the other, as many as there are entries.
use Rattle.std.proofs.Common.{rules, ◌≡◌, ◌+◌, ◌*◌, ◌<◌, length, take, drop, pos, ◌∙◌, refl, arith}
use mir.Syntax.{w32}
use mir.Val.{to_z, of_z, SFits}
use mir.Facts.{to_z-of_z}
use Rattle.std.proofs.lemmas.List.{length_push}
use Rattle.whole.specs.Lists.{at}
use Rattle.whole.proofs.Pieces.{Pieces, pieces_none, piece_met, pieces_met, piece_first}
use Rattle.book.specs.Book.{number_at}
use Rattle.numbers.specs.Indexing.{Adds}
use Rattle.numbers.proofs.Apart.{none_in, met_twice, one_in, all_in}
use Rattle.numbers.proofs.index_book.Goals as goal
use Rattle.numbers.proofs.index_book.Goals.{After-add_number, In-Some}

pub loop-j-init : goal.loop-j-init
loop-j-init c = (search rules, search rules, search rules, pieces_none _ _ _ (omega arith) c.requires.d_le_most_d.2 (search rules) (search rules), search rules, search rules, none_in _ _ _ c.requires.number_index)

-- the piece that is met is entry j
met : (c : In-Some) → let a = c.args in let w = a.d + 3 in let k = length c.loop-j.yielded in
    (k < a.n) × (c.in-Some.entry.now ≡ take w (drop (w * k) a.book.now)) × Pieces w a.n a.book.now (k + 1) c.next.new.self.iter
met c = piece_met c.loop-j.invariant.3 c.in-Some.entry refl c.in-Some.ensures.steps.0

counted : (c : In-Some) → c.in-Some.j ≡ length c.loop-j.yielded
counted c = c.in-Some.ensures.steps.1 ∙ c.loop-j.invariant.2

-- its first number, that of the entry, is added
number_is : (c : After-add_number) → let x = at c.in-Some.entry.now 0 in to_z w32 (of_z w32 x) ≡ number_at c.args.d c.args.book.now (length c.loop-j.yielded)
number_is c =
    let f : SFits w32 (at c.in-Some.entry.now 0) = search rules in
    to_z-of_z f ∙ piece_first (c.args.d + 3) (length c.loop-j.yielded) c.args.book.now (met (goal.at.After-add_number c).In-Some).1 (pos 0) (omega arith)

-- at the place that the loop counts, how many were met
added : (c : After-add_number) → Adds (length c.loop-j.yielded) c.loop-j.numbers c.loop-j.places (to_z w32 (of_z w32 (at c.in-Some.entry.now 0))) c.add_number.result c.add_number.new.numbers c.add_number.new.places
added c = rw (← counted (goal.at.After-add_number c).In-Some) c.add_number.ensures

pub add_number-requires-clause-number_index : goal.add_number-requires-clause-number_index
add_number-requires-clause-number_index c = rw (counted (goal.at.add_number-requires-clause-number_index c).In-Some) c.loop-j.invariant.6.index

pub returns-then-not-add_number : goal.returns-then-not-add_number
returns-then-not-add_number c =
    let g = goal.at.returns-then-not-add_number c in
    met_twice c.args.n (length c.loop-j.yielded) (number_at c.args.d c.args.book.now) c.args.numbers.now c.loop-j.numbers c.loop-j.places c.loop-j.invariant.6 (met g.In-Some).0 c.requires.d_le_most_d.1
    (number_is g.After-add_number) (added g.After-add_number) c.if-not-add_number.true

pub loop-j-preserved : goal.loop-j-preserved
loop-j-preserved c =
    let g = goal.at.loop-j-preserved c in
    rw (length_push c.loop-j.yielded _) (
      search rules,
      search rules,
      search rules,
      (met g.In-Some).2,
      search rules,
      search rules,
      one_in c.args.n (length c.loop-j.yielded) (number_at c.args.d c.args.book.now) c.args.numbers.now c.loop-j.numbers c.loop-j.places c.loop-j.invariant.6 (met g.In-Some).0 c.requires.d_le_most_d.1
          (number_is g.After-add_number) (added g.After-add_number) c.if-not-add_number.false,
    )

pub returns : goal.returns
returns c =
    all_in c.args.n (length c.loop-j.yielded) (number_at c.args.d c.args.book.now) c.args.numbers.now c.loop-j.numbers c.loop-j.places c.loop-j.invariant.6 (pieces_met c.loop-j.invariant.3 c.next.new.self.iter refl c.in-None.ensures.steps.0)
