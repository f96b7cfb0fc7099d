use Rattle.std.proofs.Common.{rules, ◌≡◌, refl, ◌∙◌, arith, ◌+◌, ◌*◌, ◌-◌, ◌<◌, length, take, drop}
use Rattle.std.proofs.lemmas.List.{length_push}
use Rattle.table.specs.Heads.{settings}
use Rattle.spread.specs.Spreading.{Lifts}
use Rattle.spread.specs.Inner.{shares_to}
use Rattle.whole.proofs.Pieces.{Pieces, pieces_none, piece_met, pieces_met, piece_rest}
use Rattle.spread.proofs.Books.{book_none, book_missing, reading_ready, book_more}
use Rattle.spread.proofs.spread_book.Goals as goal
use Rattle.spread.proofs.spread_book.Goals.{In-Some, After-spread_reading-missing}

pub loop-entry-init : goal.loop-entry-init
loop-entry-init c = (search rules, tt, pieces_none _ _ _ (omega arith) c.requires.fit (search rules) (search rules), refl, book_none (settings c.args.head) c.args.head.readings _ _ _ c.args.book.now c.requires)

-- the piece that is met is entry j
met : (c : In-Some) → let a = c.args in let w = a.head.d + 3 in let j = length c.loop-entry.yielded in
    (j < a.head.readings) × (c.in-Some.entry.now ≡ take w (drop (w * j) a.book.now)) × Pieces w a.head.readings a.book.now (j + 1) c.next.new.self
met c = piece_met c.loop-entry.invariant.2 c.in-Some.entry c.in-Some.is c.next.ensures.steps

its : (c : In-Some) → let w = c.args.head.d + 3 in let j = length c.loop-entry.yielded in let x = c.in-Some.entry.now in
    take (length x - 1) (drop 1 x) ≡ take (w * j + w - (w * j + 1)) (drop (w * j + 1) c.args.book.now)
its c = piece_rest (c.args.head.d + 3) (length c.loop-entry.yielded) _ (met c).1 (omega arith)

pub spread_reading-missing-requires : goal.spread_reading-missing-requires
spread_reading-missing-requires c = let i = (goal.at.spread_reading-missing-requires c).In-Some in
    reading_ready (settings c.args.head) c.args.head.readings _ _ _ c.args.book.now c.requires (length c.loop-entry.yielded) (its i) c.loop-entry.invariant.4 (met i).0

-- what is left after one reading more
more : (c : After-spread_reading-missing) → let a = c.args in
    Lifts (settings a.head) a.keys.now a.index.now a.sheet.now (shares_to a.head.d a.head.fineness a.book.now (length c.loop-entry.yielded + 1)) (c.loop-entry.missing + c.spread_reading-missing.result) c.spread_reading-missing.new.sheet
more c = book_more (settings c.args.head) c.args.head.readings _ _ _ c.args.book.now c.requires (length c.loop-entry.yielded) (its (goal.at.After-spread_reading-missing c).In-Some) c.loop-entry.invariant.4 c.spread_reading-missing.ensures

pub overflow_add-missing : goal.overflow_add-missing
overflow_add-missing c =
    let a = goal.at.overflow_add-missing c in
    let f = book_missing (settings c.args.head) c.args.head.readings _ _ _ c.args.book.now c.requires (length c.loop-entry.yielded + 1) (more a.After-spread_reading-missing) in
    record { fits = omega (arith, (met a.In-Some).0, c.requires.few) }

pub loop-entry-preserved : goal.loop-entry-preserved
loop-entry-preserved c =
    let a = goal.at.loop-entry-preserved c in
    let i = c.loop-entry.invariant in
    rw (length_push c.loop-entry.yielded c.in-Some.entry) (search rules, tt, (met a.In-Some).2, c.spread_reading-missing.auto.sheet ∙ i.3, more a.After-spread_reading-missing)

pub returns : goal.returns
returns c = rw (← pieces_met c.loop-entry.invariant.2 _ c.in-None.is c.next.ensures.steps) c.loop-entry.invariant.4
