use Rattle.std.proofs.Common.{rules, ◌≡◌, Err, refl, ap, ◌∙◌}
use Rattle.lattice.proofs.Refusing.{number_not_0}
use Rattle.table.specs.Heads.{settings}
use Rattle.book.specs.Book.{Booked}
use Rattle.book.specs.Calls.{call_refusal}
use Rattle.book.specs.Heads.{booked}
use Rattle.filter.specs.Filter.{Lent}
use Rattle.filter.proofs.Calling.{lengths_fit, call_refused, call_open, call_answers, call_done}
use Rattle.filter.proofs.filter.Goals.{After-refusal_of, In_ok-refusal_of}
use Rattle.filter.proofs.filter.Goals as goal

-- the table with its book, and what is lent to be written
abbrev book_of : After-refusal_of → Booked
book_of c = booked c.args.head c.args.keys.now c.args.sums.now c.args.index.now c.args.book.now

abbrev lent_of : After-refusal_of → Lent
lent_of c = record { first = c.args.first.now; second = c.args.second.now; values = c.args.values.now; codes = c.args.codes.now }

-- no refusal is met
none : (c : In_ok-refusal_of) → let n = (goal.at.In_ok-refusal_of c).After-refusal_of in 0 ≡ call_refusal (settings n.args.head) (book_of n) (lengths_fit (settings n.args.head) n.args.queries.now (lent_of n))
none c = let n = (goal.at.In_ok-refusal_of c).After-refusal_of in c.in_ok-refusal_of.ensures ∙ ap (call_refusal (settings n.args.head) (book_of n)) n.lent_fits-more.ensures

pub returns-in_err-refusal_of : goal.returns-in_err-refusal_of
returns-in_err-refusal_of c =
    let n = (goal.at.returns-in_err-refusal_of c).After-refusal_of in
    let why = c.in_err-refusal_of.field-0.0 in
    let e : c.from_residual.result ≡ Err why = search rules in
    rw e (call_refused (settings c.args.head) (book_of n) c.args.queries.now (lent_of n) _ (c.in_err-refusal_of.ensures ∙ ap (call_refusal (settings n.args.head) (book_of n)) n.lent_fits-more.ensures) (number_not_0 why))

pub blur-requires : goal.blur-requires
blur-requires c =
    let n = (goal.at.blur-requires c).After-refusal_of in
    call_open (settings c.args.head) (book_of n) c.args.queries.now (lent_of n) _ (none (goal.at.blur-requires c).In_ok-refusal_of) refl

pub reply_all-requires : goal.reply_all-requires
reply_all-requires c =
    let n = (goal.at.reply_all-requires c).After-refusal_of in
    call_answers (settings c.args.head) (book_of n) c.args.queries.now (lent_of n) _ (none (goal.at.reply_all-requires c).In_ok-refusal_of) refl c.blur.ensures

pub returns : goal.returns
returns c =
    let n = (goal.at.returns c).After-refusal_of in
    call_done (settings c.args.head) (book_of n) c.args.queries.now (lent_of n) _ (none (goal.at.returns c).In_ok-refusal_of) refl c.blur.ensures c.reply_all.ensures
