-- Each return is the first test of a table that fails.
use mathlib.Core.Path.{◌≡◌}
use mathlib.Core.Bool.{true}
use Rattle.table.specs.Table.{Settings}
use Rattle.table.specs.Heads.{settings}
use Rattle.table.proofs.Refusals.{passed, failed}
use Rattle.book.specs.Book.{Booked, sound_with_book}
use Rattle.book.specs.Calls.{in_range, all_fit}
use Rattle.book.specs.Heads.{booked}
use Rattle.merge.proofs.Refusing.{can_fit, can_be_carried, out_of_range, source_out_of_range, length_other, source_length_other, unsound, source_unsound, each_sound}
use Rattle.merge.proofs.judging.each_refusal.Goals as goal
use Rattle.merge.proofs.judging.each_refusal.Goals.{Start, Else-not-in_range, Else-not-in_range-2, Else-not-slices_fit, Else-not-slices_fit-2, Else-not-is_carried}

abbrev of : Start → Settings
of s = settings s.args.head

abbrev the : Start → Booked
the s = booked s.args.head s.args.keys.now s.args.sums.now s.args.index.now s.args.book.now

abbrev from : Start → Settings
from s = settings s.args.source

abbrev other : Start → Booked
other s = booked s.args.source s.args.source_keys.now s.args.source_sums.now s.args.source_index.now s.args.source_book.now

-- ---- the tests in their order: where one fails, and that it was passed, for those behind it
pub returns-then-not-in_range : goal.returns-then-not-in_range
returns-then-not-in_range c = out_of_range _ _ _ _ (failed _ c.in_range.ensures c.if-not-in_range.true-raw)

in_range₁ : (c : Else-not-in_range) → let s = (goal.at.Else-not-in_range c).Start in in_range (of s) (the s) ≡ true
in_range₁ c = passed _ c.in_range.ensures c.if-not-in_range.false-raw

pub returns-then-not-in_range-2 : goal.returns-then-not-in_range-2
returns-then-not-in_range-2 c = let g = goal.at.returns-then-not-in_range-2 c in
    source_out_of_range _ _ _ _ (in_range₁ g.Else-not-in_range) (failed _ c.in_range-2.ensures c.if-not-in_range-2.true-raw)

in_range₂ : (c : Else-not-in_range-2) → let s = (goal.at.Else-not-in_range-2 c).Start in in_range (from s) (other s) ≡ true
in_range₂ c = passed _ c.in_range-2.ensures c.if-not-in_range-2.false-raw

pub slices_fit-requires : goal.slices_fit-requires
slices_fit-requires c = let g = goal.at.slices_fit-requires c in can_fit (of g.Start) (the g.Start) (in_range₁ g.Else-not-in_range)

pub returns-then-not-slices_fit : goal.returns-then-not-slices_fit
returns-then-not-slices_fit c = let g = goal.at.returns-then-not-slices_fit c in
    length_other _ _ _ _ (in_range₁ g.Else-not-in_range) (in_range₂ g.Else-not-in_range-2) (failed _ c.slices_fit.ensures c.if-not-slices_fit.true-raw)

fit₁ : (c : Else-not-slices_fit) → let s = (goal.at.Else-not-slices_fit c).Start in all_fit (of s) (the s) ≡ true
fit₁ c = passed _ c.slices_fit.ensures c.if-not-slices_fit.false-raw

pub slices_fit-requires-2 : goal.slices_fit-requires-2
slices_fit-requires-2 c = let g = goal.at.slices_fit-requires-2 c in can_fit (from g.Start) (other g.Start) (in_range₂ g.Else-not-in_range-2)

pub returns-then-not-slices_fit-2 : goal.returns-then-not-slices_fit-2
returns-then-not-slices_fit-2 c = let g = goal.at.returns-then-not-slices_fit-2 c in
    source_length_other _ _ _ _ (in_range₁ g.Else-not-in_range) (in_range₂ g.Else-not-in_range-2) (fit₁ g.Else-not-slices_fit) (failed _ c.slices_fit-2.ensures c.if-not-slices_fit-2.true-raw)

fit₂ : (c : Else-not-slices_fit-2) → let s = (goal.at.Else-not-slices_fit-2 c).Start in all_fit (from s) (other s) ≡ true
fit₂ c = passed _ c.slices_fit-2.ensures c.if-not-slices_fit-2.false-raw

pub is_carried-requires : goal.is_carried-requires
is_carried-requires c =
    let g = goal.at.is_carried-requires c in
    let r = can_be_carried (of g.Start) (the g.Start) (in_range₁ g.Else-not-in_range) (fit₁ g.Else-not-slices_fit) in record { ranged = r.0; shape = r.1.0; room_le_most_readings = r.1.1 }

pub returns-then-not-is_carried : goal.returns-then-not-is_carried
returns-then-not-is_carried c = let g = goal.at.returns-then-not-is_carried c in
    unsound _ _ _ _ (in_range₁ g.Else-not-in_range) (in_range₂ g.Else-not-in_range-2) (fit₁ g.Else-not-slices_fit) (fit₂ g.Else-not-slices_fit-2) (failed _ c.is_carried.ensures c.if-not-is_carried.true-raw)

sound₁ : (c : Else-not-is_carried) → let s = (goal.at.Else-not-is_carried c).Start in sound_with_book (of s) (the s) ≡ true
sound₁ c = passed _ c.is_carried.ensures c.if-not-is_carried.false-raw

pub is_carried-requires-2 : goal.is_carried-requires-2
is_carried-requires-2 c =
    let g = goal.at.is_carried-requires-2 c in
    let r = can_be_carried (from g.Start) (other g.Start) (in_range₂ g.Else-not-in_range-2) (fit₂ g.Else-not-slices_fit-2) in record { ranged = r.0; shape = r.1.0; room_le_most_readings = r.1.1 }

pub returns-then-not-is_carried-2 : goal.returns-then-not-is_carried-2
returns-then-not-is_carried-2 c = let g = goal.at.returns-then-not-is_carried-2 c in
    source_unsound _ _ _ _ (in_range₁ g.Else-not-in_range) (in_range₂ g.Else-not-in_range-2) (fit₁ g.Else-not-slices_fit) (fit₂ g.Else-not-slices_fit-2) (sound₁ g.Else-not-is_carried)
    (failed _ c.is_carried-2.ensures c.if-not-is_carried-2.true-raw)

pub returns : goal.returns
returns c = let g = goal.at.returns c in
    each_sound _ _ _ _ (in_range₁ g.Else-not-in_range) (in_range₂ g.Else-not-in_range-2) (fit₁ g.Else-not-slices_fit) (fit₂ g.Else-not-slices_fit-2) (sound₁ g.Else-not-is_carried)
    (passed _ c.is_carried-2.ensures c.if-not-is_carried-2.false-raw)
