-- The memory holds the target with the rows that were met poured into it.
use Rattle.std.proofs.Common.{◌≡◌, length}
use Rattle.std.specs.Iterator.Adapters.{zip_first, zip_second}
use Rattle.table.specs.Heads.{settings, table_with, table}
use Rattle.table.specs.Pour.{pour}
use Rattle.merge.specs.Source.{first_rows}
use Rattle.whole.proofs.Pieces.{Pieces}
use Rattle.merge.proofs.source.pour_rows.Given as goal

abbrev pub invariant-loop-key : goal.invariant-loop-key
invariant-loop-key l =
    (goal.iterator-loop-key).can_next l.key-iterator × (goal.iterator-loop-key).is_finite l.key-iterator
    × Pieces l.head.d l.source_points l.source_keys (length l.yielded) (zip_first l.key-iterator) × Pieces 2 l.source_points l.source_sums (length l.yielded) (zip_second l.key-iterator)
    × (table_with l.head l.points l.keys l.sums l.index ≡ pour (settings l.head) (table l.head l.initial.keys l.initial.sums l.initial.index) (first_rows l.head.d l.source_keys l.source_sums (length l.yielded)))
