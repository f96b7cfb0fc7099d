-- The readings are spread, and the sheet compared where no point is missing.
use native.Mathlib.Omega.{arith}
use mathlib.Core.Path.{◌≡◌}
use Prim.Native.Nat.{◌*◌}
use Rattle.std.proofs.lemmas.Slice.Eq.{slice_eq-Decides}
use Rattle.std.proofs.lemmas.Bool.Decides.{Decides-int_eq}
use Rattle.table.specs.Table.{Table}
use Rattle.table.specs.Heads.{settings, table}
use Rattle.spread.proofs.Comparing.{can_spread, can_compare, same_firsts, some_missing, compared}
use Rattle.spread.proofs.on_sheet.Goals as goal
use Rattle.spread.proofs.on_sheet.Goals.{Start}

abbrev of : Start → Table
of s = table s.args.head s.args.keys.now s.args.sums.now s.args.index.now

pub spread_book-requires : goal.spread_book-requires
spread_book-requires c = can_spread (settings c.args.head) (of (goal.at.spread_book-requires c).Start) c.args.book.now c.requires.comparable c.requires.sheet_value

pub returns-then-spread_book-ne0 : goal.returns-then-spread_book-ne0
returns-then-spread_book-ne0 c =
    some_missing (settings c.args.head) (of (goal.at.returns-then-spread_book-ne0 c).Start) c.args.book.now c.requires.comparable c.requires.sheet_value c.spread_book.ensures c.if-spread_book-ne0.true

pub returns : goal.returns
returns c =
    let none : c.spread_book.result ≡ 0 = let z = c.if-spread_book-ne0.false in omega arith in
    let fit = can_compare (settings c.args.head) (of (goal.at.returns c).Start) c.args.book.now c.requires.comparable c.requires.sheet_value c.spread_book.ensures in
    compared (settings c.args.head) (of (goal.at.returns c).Start) c.args.book.now c.requires.comparable c.requires.sheet_value c.spread_book.ensures none
    (same_firsts (2 * c.args.head.points) c.args.sums.now c.spread_book.new.sheet fit.0 fit.1 (slice_eq-Decides Decides-int_eq _ _ _ c.eq.ensures))
