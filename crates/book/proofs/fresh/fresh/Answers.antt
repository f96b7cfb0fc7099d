-- Each return is what a fresh call answers by the tests that were made before it.
use mathlib.Core.Path.{◌≡◌}
use mathlib.Core.Bool.{true}
use lib.Dec.{leb, leb→le}
use Rattle.whole.proofs.Tests.{and_l, and_r}
use Rattle.lattice.specs.Limits.{most_readings}
use Rattle.table.specs.Table.{Settings}
use Rattle.table.specs.Calls.{ranged, fits, lent}
use Rattle.table.proofs.Refusals.{passed, failed, T_of}
use Rattle.table.proofs.Soundness.{to_ranged}
use Rattle.book.specs.Book.{Booked}
use Rattle.book.specs.Calls.{room_ranged, in_range, all_fit}
use Rattle.book.proofs.Answering.{fresh_one, fresh_two, fresh_made}
use Rattle.book.proofs.fresh.fresh.Goals as goal
use Rattle.book.proofs.fresh.fresh.Goals.{Else-not-in_range, Start}

abbrev of : Start → Settings
of s = record { d = s.args.d; S = s.args.fineness; C = s.args.capacity }

abbrev the : Start → Booked
the s = record { table = lent s.args.keys.now s.args.sums.now s.args.index.now; room = s.args.room; book = s.args.book.now }

pub returns-then-not-in_range : goal.returns-then-not-in_range
returns-then-not-in_range c = fresh_one (of (goal.at.returns-then-not-in_range c).Start) c.args.room _ _ _ _ (failed (in_range (of (goal.at.returns-then-not-in_range c).Start) (the (goal.at.returns-then-not-in_range c).Start)) c.in_range.ensures c.if-not-in_range.true-raw)

inside : (c : Else-not-in_range) → in_range (of c.before.before.before.before) (the c.before.before.before.before) ≡ true
inside c = passed (in_range (of c.before.before.before.before) (the c.before.before.before.before)) c.in_range.ensures c.if-not-in_range.false-raw

pub lengths_fit-requires : goal.lengths_fit-requires
lengths_fit-requires c =
    let B = c.args.room in
    let R = to_ranged (of (goal.at.lengths_fit-requires c).Start) (and_l (ranged (of (goal.at.lengths_fit-requires c).Start)) (room_ranged B) (T_of (inside c))) in
    (R.d_most, R.C_most, leb→le B most_readings (and_r (leb 1 B) (leb B most_readings) (and_r (ranged (of (goal.at.lengths_fit-requires c).Start)) (room_ranged B) (T_of (inside c)))))

pub returns-then-not-lengths_fit : goal.returns-then-not-lengths_fit
unfolding fits
returns-then-not-lengths_fit c =
    fresh_two (of (goal.at.returns-then-not-lengths_fit c).Start) c.args.room _ _ _ _ (inside (goal.at.returns-then-not-lengths_fit c).Else-not-in_range) (failed (all_fit (of (goal.at.returns-then-not-lengths_fit c).Start) (the (goal.at.returns-then-not-lengths_fit c).Start)) c.lengths_fit.ensures c.if-not-lengths_fit.true-raw)

pub returns : goal.returns
unfolding fits
returns c =
    fresh_made (of (goal.at.returns c).Start) c.args.room _ _ _ _ (inside (goal.at.returns c).Else-not-in_range) (passed (all_fit (of (goal.at.returns c).Start) (the (goal.at.returns c).Start)) c.lengths_fit.ensures c.if-not-lengths_fit.false-raw)
    (c.fill.ensures.after (λ y e. e))
    (c.fill-2.ensures.after (λ y e. e))
    (c.fill-3.ensures.after (λ y e. e))
    (c.fill-4.ensures.after (λ y e. e))
