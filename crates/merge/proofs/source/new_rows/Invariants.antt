-- So many of the rows that were met are new, which is at most all of them: the count fits.
use Rattle.std.proofs.Common.{◌≡◌, ◌≤◌, length}
use Rattle.index.specs.Keys.{key_at}
use Rattle.whole.specs.Lists.{tab}
use Rattle.table.specs.Heads.{settings}
use Rattle.table.specs.Pour.{news_in}
use Rattle.whole.proofs.Pieces.{Pieces}
use Rattle.merge.proofs.source.new_rows.Given as goal

abbrev pub invariant-loop-key : goal.invariant-loop-key
invariant-loop-key l =
    (goal.iterator-loop-key).can_next l.key-iterator × (goal.iterator-loop-key).is_finite l.key-iterator
    × Pieces l.head.d l.source_points l.source_keys (length l.yielded) l.key-iterator
    × (l.count ≡ news_in (settings l.head) l.keys l.index (tab (length l.yielded) (key_at l.head.d l.source_keys))) × (l.count ≤ length l.yielded)
