-- A refusal leaves all as it was; else the source is added, and the readings are added up.
use native.Mathlib.Omega.{arith}
use Rattle.std.proofs.Common.{rules, ◌≡◌, sym, ◌∙◌}
use Rattle.lattice.proofs.Refusing.{number_not_0, ok_tells}
use Rattle.table.specs.Table.{Settings}
use Rattle.table.specs.Heads.{settings}
use Rattle.book.specs.Book.{Booked}
use Rattle.book.specs.Calls.{merge_refusal}
use Rattle.book.specs.Heads.{booked}
use Rattle.merge.proofs.Merging.{pouring, putting, refused, done}
use Rattle.merge.proofs.merge.Goals as goal
use Rattle.merge.proofs.merge.Goals.{In_default, Start}

abbrev of : Start → Settings
of s = settings s.args.head

abbrev the : Start → Booked
the s = booked s.args.head s.args.keys.now s.args.sums.now s.args.index.now s.args.book.now

abbrev from : Start → Settings
from s = settings s.args.source

abbrev other : Start → Booked
other s = booked s.args.source s.args.source_keys.now s.args.source_sums.now s.args.source_index.now s.args.source_book.now

-- no refusal is met
none : (c : In_default) → let s = (goal.at.In_default c).Start in 0 ≡ merge_refusal (of s) (the s) (from s) (other s)
none c = sym (ok_tells c.merge_refusal-judged.result (search rules)) ∙ c.merge_refusal-judged.ensures

pub returns-in-Err : goal.returns-in-Err
returns-in-Err c =
    let a = c.args in
    let s = (goal.at.returns-in-Err c).Start in
    refused a.head a.keys.now a.sums.now a.index.now a.book.now (from s) (other s) _ c.in-Err.ensures (number_not_0 c.in-Err.refusal)

pub add_source-points-requires : goal.add_source-points-requires
add_source-points-requires c =
    let g = goal.at.add_source-points-requires c in
    let z = sym (none g.In_default) in record { fact = pouring (of g.Start) (the g.Start) (from g.Start) (other g.Start) z; entries_to_put = putting (of g.Start) (the g.Start) (from g.Start) (other g.Start) z }

pub overflow_add-head : goal.overflow_add-head
overflow_add-head c =
    let g = goal.at.overflow_add-head c in
    record { fits = omega (arith, (putting (of g.Start) (the g.Start) (from g.Start) (other g.Start) (sym (none g.In_default))).few) }

pub returns : goal.returns
returns c =
    let a = c.args in
    let g = goal.at.returns c in
    done a.head a.keys.now a.sums.now a.index.now a.book.now (from g.Start) (other g.Start) _ _ _ _ _ _ (none g.In_default) c.add_source-points.ensures c.with_counts.ensures
