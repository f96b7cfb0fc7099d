-- Each return is the first of the tests that fails.
use mathlib.Core.Path.{◌≡◌}
use mathlib.Core.Bool.{true}
use Prim.Native.Nat.{◌≤◌}
use native.Mathlib.Omega.{arith}
use Rattle.table.specs.Table.{Settings}
use Rattle.table.specs.Sound.{sound}
use Rattle.table.specs.Heads.{settings}
use Rattle.table.proofs.Refusals.{passed, failed}
use Rattle.book.specs.Book.{Booked}
use Rattle.book.specs.Heads.{booked}
use Rattle.carried.proofs.Deciding.{lawful, apart, no_room, not_lawful, not_apart, by_sums, comparable}
use Rattle.carried.proofs.is_carried.Goals as goal
use Rattle.carried.proofs.is_carried.Goals.{Else-head, Else-not-is_sound, Else-not-keeps_limits, Start}

abbrev of : Start → Settings
of s = settings s.args.head

abbrev the : Start → Booked
the s = booked s.args.head s.args.keys.now s.args.sums.now s.args.index.now s.args.book.now

one : (c : Else-not-is_sound) → sound (of c.before.before.before.before) (the c.before.before.before.before).table ≡ true
one c = passed (sound (of c.before.before.before.before) (the c.before.before.before.before).table) c.is_sound.ensures c.if-not-is_sound.false-raw

pub returns-then-head : goal.returns-then-head
returns-then-head c = no_room (of (goal.at.returns-then-head c).Start) (the (goal.at.returns-then-head c).Start) (one (goal.at.returns-then-head c).Else-not-is_sound) c.if-head.true

two : (c : Else-head) → (the c.before.before.before.before.before.before).table.n ≤ (the c.before.before.before.before.before.before).room
two c = let z = c.if-head.false in omega (arith, z)

pub returns-then-not-keeps_limits : goal.returns-then-not-keeps_limits
returns-then-not-keeps_limits c =
    not_lawful (of (goal.at.returns-then-not-keeps_limits c).Start) (the (goal.at.returns-then-not-keeps_limits c).Start) (one (goal.at.returns-then-not-keeps_limits c).Else-not-is_sound) (two (goal.at.returns-then-not-keeps_limits c).Else-head) (failed (lawful (of (goal.at.returns-then-not-keeps_limits c).Start) (the (goal.at.returns-then-not-keeps_limits c).Start)) c.keeps_limits.ensures c.if-not-keeps_limits.true-raw)

three : (c : Else-not-keeps_limits) → lawful (of c.before.before.before.before.before.before.before.before) (the c.before.before.before.before.before.before.before.before) ≡ true
three c = passed (lawful (of c.before.before.before.before.before.before.before.before) (the c.before.before.before.before.before.before.before.before)) c.keeps_limits.ensures c.if-not-keeps_limits.false-raw

pub returns-then-not-numbers_apart : goal.returns-then-not-numbers_apart
returns-then-not-numbers_apart c =
    not_apart (of (goal.at.returns-then-not-numbers_apart c).Start) (the (goal.at.returns-then-not-numbers_apart c).Start) (one (goal.at.returns-then-not-numbers_apart c).Else-not-is_sound) (two (goal.at.returns-then-not-numbers_apart c).Else-head) (three (goal.at.returns-then-not-numbers_apart c).Else-not-keeps_limits) (failed (apart (of (goal.at.returns-then-not-numbers_apart c).Start) (the (goal.at.returns-then-not-numbers_apart c).Start)) c.numbers_apart.ensures c.if-not-numbers_apart.true-raw)

pub sums_are_theirs-requires : goal.sums_are_theirs-requires
sums_are_theirs-requires c =
    comparable (of (goal.at.sums_are_theirs-requires c).Start) (the (goal.at.sums_are_theirs-requires c).Start) c.requires.ranged c.requires.shape c.requires.room_le_most_readings.0 c.requires.room_le_most_readings.1 (two (goal.at.sums_are_theirs-requires c).Else-head) (one (goal.at.sums_are_theirs-requires c).Else-not-is_sound) (three (goal.at.sums_are_theirs-requires c).Else-not-keeps_limits)

pub returns : goal.returns
returns c =
    by_sums (of (goal.at.returns c).Start) (the (goal.at.returns c).Start) (one (goal.at.returns c).Else-not-is_sound) (two (goal.at.returns c).Else-head) (three (goal.at.returns c).Else-not-keeps_limits) (passed (apart (of (goal.at.returns c).Start) (the (goal.at.returns c).Start)) c.numbers_apart.ensures c.if-not-numbers_apart.false-raw) c.sums_are_theirs.ensures
