-- Entry j is unpoured, the index made afresh, the book closed up.
use Rattle.std.proofs.Common.{refl, arith}
use Rattle.table.specs.Heads.{settings}
use Rattle.book.specs.Book.{Booked}
use Rattle.book.specs.Heads.{booked}
use Rattle.withdraw.proofs.TakenBack.{entry_in, can_close, can_lower, can_name, taken_back}
use Rattle.withdraw.proofs.taking.take_back.Goals as goal
use Rattle.withdraw.proofs.taking.take_back.Goals.{Start}

abbrev the : Start → Booked
the s = let a = s.args in booked a.head a.keys.now a.sums.now a.index.now a.book.now

pub slice_bounds-unpour-end : goal.slice_bounds-unpour-end
slice_bounds-unpour-end c =
    omega (arith, entry_in (settings c.args.head) (the (goal.at.slice_bounds-unpour-end c).Start) c.requires.fine_book c.args.j c.requires.j_lt_readings)

pub unpour-points-requires : goal.unpour-points-requires
unpour-points-requires c = can_lower (settings c.args.head) (the (goal.at.unpour-points-requires c).Start) c.requires.fine_book c.args.j c.requires.j_lt_readings _ _ refl refl

pub name_afresh-requires : goal.name_afresh-requires
name_afresh-requires c =
    can_name (settings c.args.head) (the (goal.at.name_afresh-requires c).Start) c.requires.fine_book c.args.j c.requires.j_lt_readings _ _ refl refl c.unpour-points.ensures c.requires.fine_book.fine.shape.index

pub close_up-requires : goal.close_up-requires
close_up-requires c = can_close (settings c.args.head) (the (goal.at.close_up-requires c).Start) c.requires.fine_book c.args.j c.requires.j_lt_readings

pub returns : goal.returns
returns c =
    taken_back (settings c.args.head) (the (goal.at.returns c).Start) c.requires.fine_book c.args.j c.requires.j_lt_readings _ _ refl refl c.unpour-points.ensures c.name_afresh.ensures c.close_up.ensures
