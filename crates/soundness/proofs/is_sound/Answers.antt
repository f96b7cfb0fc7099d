-- Each return is the first part of soundness that fails.
use mathlib.Core.Path.{◌≡◌}
use mathlib.Core.Bool.{true}
use Rattle.table.specs.Table.{Settings, Table}
use Rattle.table.specs.Heads.{settings, table}
use Rattle.table.proofs.Refusals.{passed, failed}
use Rattle.soundness.proofs.Deciding.{thin, of_places, found, findable, too_many_points, too_many_readings, not_thin, not_found, by_rows}
use Rattle.soundness.proofs.is_sound.Goals as goal
use Rattle.soundness.proofs.is_sound.Goals.{Else-not-index_is_sparse, Start}

abbrev of : Start → Settings
of s = settings s.args.head

abbrev the : Start → Table
the s = table s.args.head s.args.keys.now s.args.sums.now s.args.index.now

pub returns-then-capacity-points : goal.returns-then-capacity-points
returns-then-capacity-points c = too_many_points (of (goal.at.returns-then-capacity-points c).Start) (the (goal.at.returns-then-capacity-points c).Start) c.if-capacity-points.true

pub returns-then-readings-gt-MOST_READINGS : goal.returns-then-readings-gt-MOST_READINGS
returns-then-readings-gt-MOST_READINGS c = too_many_readings (of (goal.at.returns-then-readings-gt-MOST_READINGS c).Start) (the (goal.at.returns-then-readings-gt-MOST_READINGS c).Start) c.if-capacity-points.false c.if-readings-gt-MOST_READINGS.true

pub returns-then-not-index_is_sparse : goal.returns-then-not-index_is_sparse
returns-then-not-index_is_sparse c =
    not_thin (of (goal.at.returns-then-not-index_is_sparse c).Start) (the (goal.at.returns-then-not-index_is_sparse c).Start) c.if-capacity-points.false c.if-readings-gt-MOST_READINGS.false (failed (thin (of (goal.at.returns-then-not-index_is_sparse c).Start) (the (goal.at.returns-then-not-index_is_sparse c).Start)) (of_places (of (goal.at.returns-then-not-index_is_sparse c).Start) (the (goal.at.returns-then-not-index_is_sparse c).Start) c.requires.shape c.index_is_sparse.ensures) c.if-not-index_is_sparse.true-raw)

is-thin : (c : Else-not-index_is_sparse) → thin (of c.before.before.before.before.before.before) (the c.before.before.before.before.before.before) ≡ true
is-thin c = passed (thin (of c.before.before.before.before.before.before) (the c.before.before.before.before.before.before)) (of_places (of c.before.before.before.before.before.before) (the c.before.before.before.before.before.before) c.requires.shape c.index_is_sparse.ensures) c.if-not-index_is_sparse.false-raw

pub finds_all-requires : goal.finds_all-requires
finds_all-requires c =
    findable (of (goal.at.finds_all-requires c).Start) (the (goal.at.finds_all-requires c).Start) c.requires.ranged c.requires.shape c.if-capacity-points.false (is-thin c)

pub returns-then-not-finds_all : goal.returns-then-not-finds_all
returns-then-not-finds_all c =
    not_found (of (goal.at.returns-then-not-finds_all c).Start) (the (goal.at.returns-then-not-finds_all c).Start) c.if-capacity-points.false c.if-readings-gt-MOST_READINGS.false (is-thin (goal.at.returns-then-not-finds_all c).Else-not-index_is_sparse) (failed (found (of (goal.at.returns-then-not-finds_all c).Start) (the (goal.at.returns-then-not-finds_all c).Start)) c.finds_all.ensures c.if-not-finds_all.true-raw)

pub returns : goal.returns
returns c =
    by_rows (of (goal.at.returns c).Start) (the (goal.at.returns c).Start) c.if-capacity-points.false c.if-readings-gt-MOST_READINGS.false (is-thin (goal.at.returns c).Else-not-index_is_sparse) (passed (found (of (goal.at.returns c).Start) (the (goal.at.returns c).Start)) c.finds_all.ensures c.if-not-finds_all.false-raw)
    c.total_of-total.ensures c.rows_are_good.ensures
