-- Refused, the list is as it was; else no refusal is met, which is what `fill` asks, and the list is filled. Assumes nothing.
use Rattle.std.proofs.Common.{rules, ◌≡◌, refl, Err}
use Rattle.lattice.proofs.Refusing.{number_not_0}
use Rattle.table.specs.Heads.{settings}
use Rattle.book.specs.Heads.{booked}
use Rattle.listing.proofs.Answers.{refused, listable, done}
use Rattle.listing.proofs.list.Goals as goal

pub returns-in_err-refusal_of : goal.returns-in_err-refusal_of
returns-in_err-refusal_of c =
    let s = c.args in
    let b = booked s.head s.keys.now s.sums.now s.index.now s.book.now in
    let why = c.in_err-refusal_of.field-0.0 in
    let e : c.from_residual.result ≡ Err why = search rules in
    rw e (refused (settings s.head) b s.list.now c.in_err-refusal_of.ensures (number_not_0 why))

pub fill-requires : goal.fill-requires
fill-requires c =
    let s = c.args in
    let b = booked s.head s.keys.now s.sums.now s.index.now s.book.now in
    listable (settings s.head) b s.list.now c.in_ok-refusal_of.ensures refl

pub returns : goal.returns
returns c =
    let s = c.args in
    let b = booked s.head s.keys.now s.sums.now s.index.now s.book.now in
    done (settings s.head) b s.list.now c.in_ok-refusal_of.ensures refl c.fill.ensures
