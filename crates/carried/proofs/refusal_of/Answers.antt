-- Each return is the first of the tests that fails.
use borrow.Author.Tests.{not-true, not-false}
use mathlib.Core.Path.{◌≡◌}
use mathlib.Core.Bool.{true}
use Prim.Native.Nat.{◌+◌, ◌*◌, ◌≤◌}
use lib.Dec.{eqb, eqb→eq, leb, leb→le}
use lib.ListN.{length}
use Rattle.whole.proofs.Tests.{and_l, and_r}
use Rattle.lattice.specs.Limits.{most_readings}
use Rattle.table.specs.Table.{Settings}
use Rattle.table.specs.Calls.{ranged, fits}
use Rattle.table.specs.Heads.{settings}
use Rattle.table.proofs.Refusals.{passed, failed, T_of}
use Rattle.table.proofs.Soundness.{to_ranged, to_shape}
use Rattle.book.specs.Book.{Booked, sound_with_book}
use Rattle.book.specs.Calls.{room_ranged, in_range, all_fit}
use Rattle.book.specs.Heads.{booked}
use Rattle.carried.proofs.Deciding.{call_one, call_two, call_more, call_three, call_none}
use Rattle.carried.proofs.refusal_of.Goals as goal
use Rattle.carried.proofs.refusal_of.Goals.{Else-not-in_range, Else-not-lengths_fit, Start}

abbrev of : Start → Settings
of s = settings s.args.head

abbrev the : Start → Booked
the s = booked s.args.head s.args.keys.now s.args.sums.now s.args.index.now s.args.book.now

pub returns-then-not-in_range : goal.returns-then-not-in_range
returns-then-not-in_range c = call_one (of (goal.at.returns-then-not-in_range c).Start) (the (goal.at.returns-then-not-in_range c).Start) c.args.more (failed (in_range (of (goal.at.returns-then-not-in_range c).Start) (the (goal.at.returns-then-not-in_range c).Start)) c.in_range.ensures c.if-not-in_range.true-raw)

one : (c : Else-not-in_range) → in_range (of c.before.before.before.before) (the c.before.before.before.before) ≡ true
one c = passed (in_range (of c.before.before.before.before) (the c.before.before.before.before)) c.in_range.ensures c.if-not-in_range.false-raw

few : (c : Else-not-in_range) → c.args.head.room ≤ most_readings
few c = let B = c.args.head.room in
    leb→le B most_readings (and_r (leb 1 B) (leb B most_readings) (and_r (ranged (of c.before.before.before.before)) (room_ranged B) (T_of (one c))))

pub lengths_fit-requires : goal.lengths_fit-requires
lengths_fit-requires c =
    let R = to_ranged (of (goal.at.lengths_fit-requires c).Start) (and_l (ranged (of (goal.at.lengths_fit-requires c).Start)) (room_ranged c.args.head.room) (T_of (one c))) in
    (R.d_most, R.C_most, few c)

pub returns-then-not-lengths_fit : goal.returns-then-not-lengths_fit
unfolding fits
returns-then-not-lengths_fit c =
    call_two (of (goal.at.returns-then-not-lengths_fit c).Start) (the (goal.at.returns-then-not-lengths_fit c).Start) c.args.more (one (goal.at.returns-then-not-lengths_fit c).Else-not-in_range) (failed (all_fit (of (goal.at.returns-then-not-lengths_fit c).Start) (the (goal.at.returns-then-not-lengths_fit c).Start)) c.lengths_fit.ensures c.if-not-lengths_fit.true-raw)

two : (c : Else-not-lengths_fit) → all_fit (of c.before.before.before.before.before.before) (the c.before.before.before.before.before.before) ≡ true
unfolding fits
two c = passed (all_fit (of c.before.before.before.before.before.before) (the c.before.before.before.before.before.before)) c.lengths_fit.ensures c.if-not-lengths_fit.false-raw

pub returns-then-not-more : goal.returns-then-not-more
returns-then-not-more c =
    call_more (of (goal.at.returns-then-not-more c).Start) (the (goal.at.returns-then-not-more c).Start) c.args.more (one (goal.at.returns-then-not-more c).Else-not-in_range) (two (goal.at.returns-then-not-more c).Else-not-lengths_fit) (not-true _ c.if-not-more.true-raw)

pub is_carried-requires : goal.is_carried-requires
is_carried-requires c =
    let fit = fits (of (goal.at.is_carried-requires c).Start) (the (goal.at.is_carried-requires c).Start).table in
    let size = eqb (length c.args.book.now) ((c.args.head.d + 3) * c.args.head.room) in record { ranged = to_ranged (of (goal.at.is_carried-requires c).Start) (and_l (ranged (of (goal.at.is_carried-requires c).Start)) (room_ranged c.args.head.room) (T_of (one (goal.at.is_carried-requires c).Else-not-in_range))); shape = to_shape (of (goal.at.is_carried-requires c).Start) (the (goal.at.is_carried-requires c).Start).table (and_l fit size (T_of (two (goal.at.is_carried-requires c).Else-not-lengths_fit))); room_le_most_readings = (few (goal.at.is_carried-requires c).Else-not-in_range, eqb→eq (length c.args.book.now) ((c.args.head.d + 3) * c.args.head.room) (and_r fit size (T_of (two (goal.at.is_carried-requires c).Else-not-lengths_fit)))) }

pub returns-then-not-is_carried : goal.returns-then-not-is_carried
returns-then-not-is_carried c =
    call_three (of (goal.at.returns-then-not-is_carried c).Start) (the (goal.at.returns-then-not-is_carried c).Start) c.args.more (one (goal.at.returns-then-not-is_carried c).Else-not-in_range) (two (goal.at.returns-then-not-is_carried c).Else-not-lengths_fit) (not-false _ c.if-not-more.false-raw) (failed (sound_with_book (of (goal.at.returns-then-not-is_carried c).Start) (the (goal.at.returns-then-not-is_carried c).Start)) c.is_carried.ensures c.if-not-is_carried.true-raw)

pub returns : goal.returns
returns c =
    call_none (of (goal.at.returns c).Start) (the (goal.at.returns c).Start) c.args.more (one (goal.at.returns c).Else-not-in_range) (two (goal.at.returns c).Else-not-lengths_fit) (not-false _ c.if-not-more.false-raw) (passed (sound_with_book (of (goal.at.returns c).Start) (the (goal.at.returns c).Start)) c.is_carried.ensures c.if-not-is_carried.false-raw)
