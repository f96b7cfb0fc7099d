-- Refused before the number is sought, or not held, or taken back.
use Rattle.std.proofs.Common.{rules, ◌≡◌, true, w32, to_z, of_z, sym, ap, ◌∙◌, to_z-of_z}
use Rattle.lattice.proofs.Refusing.{number_not_0, ok_tells}
use Rattle.table.specs.Heads.{settings}
use Rattle.book.specs.Book.{Booked, number_at}
use Rattle.book.specs.Calls.{call_refusal}
use Rattle.book.specs.Withdraw.{entry_with}
use Rattle.book.specs.Heads.{booked}
use Rattle.book.specs.Theorems.{FineBook}
use Rattle.book.proofs.Fine.{book_long}
use Rattle.withdraw.proofs.Answers.{fine, refused, not_held, done}
use Rattle.withdraw.proofs.withdraw.Goals as goal
use Rattle.withdraw.proofs.withdraw.Goals.{Start, In_default}

-- the table and the book as they are lent
abbrev the : Start → Booked
the s = let a = s.args in booked a.head a.keys.now a.sums.now a.index.now a.book.now

none : (c : In_default) → call_refusal (settings c.args.head) (the (goal.at.In_default c).Start) true ≡ 0
none c = sym c.refusal_of.ensures ∙ ok_tells c.refusal_of.result (search rules)

good : (c : In_default) → FineBook (settings c.args.head) (the (goal.at.In_default c).Start)
good c = fine (settings c.args.head) (the (goal.at.In_default c).Start) c.args.number (none c)

pub returns-in-Err : goal.returns-in-Err
returns-in-Err c = let a = c.args in refused a.head a.keys.now a.sums.now a.index.now a.book.now a.number _ c.in-Err.ensures (number_not_0 c.in-Err.refusal)

pub entry_with-requires : goal.entry_with-requires
entry_with-requires c =
    let B = good (goal.at.entry_with-requires c).In_default in
    (B.fine.ranged.d_most, B.fine.sound.few, book_long (settings c.args.head) (the (goal.at.entry_with-requires c).Start) B)

-- the number as the machine has it
sought : (s : Start) → let a = s.args in entry_with a.head.readings (number_at a.head.d a.book.now) (to_z w32 (of_z w32 a.number)) ≡ entry_with a.head.readings (number_at a.head.d a.book.now) a.number
sought s = let a = s.args in ap (entry_with a.head.readings (number_at a.head.d a.book.now)) (to_z-of_z s.ranges.number)

pub returns-in_default-entry_with : goal.returns-in_default-entry_with
returns-in_default-entry_with c = let a = c.args in let at = goal.at.returns-in_default-entry_with c in
    not_held a.head a.keys.now a.sums.now a.index.now a.book.now a.number (none at.In_default) (c.in_default-entry_with.ensures.which ∙ sought at.Start)

pub take_back-points-requires : goal.take_back-points-requires
take_back-points-requires c = record { fine_book = good (goal.at.take_back-points-requires c).In_default; j_lt_readings = c.in-Some.ensures.inside }

pub returns : goal.returns
returns c = let a = c.args in let at = goal.at.returns c in
    done a.head a.keys.now a.sums.now a.index.now a.book.now a.number (none at.In_default) (c.in-Some.ensures.which ∙ sought at.Start) c.take_back-points.ensures c.with_counts.ensures
