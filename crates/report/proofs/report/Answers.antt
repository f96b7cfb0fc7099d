use mathlib.Core.Path.{refl}
use native.Mathlib.Omega.{arith}
use Rattle.lattice.proofs.Refusing.{number_not_0}
use Rattle.report.proofs.Reporting.{small_room, too_long, not_settled, reported}
use Rattle.report.proofs.report.Goals as goal

pub put_refused-requires : goal.put_refused-requires
put_refused-requires c = small_room _ _ c.if-out-lt-ROOM.false (omega arith)

pub returns-then-log-gt-MOST_BYTES : goal.returns-then-log-gt-MOST_BYTES
returns-then-log-gt-MOST_BYTES c =
    too_long _ c.if-out-lt-ROOM.false c.if-log-gt-MOST_BYTES.true c.put_refused.ensures

pub put_refused-requires-in-Err : goal.put_refused-requires-in-Err
put_refused-requires-in-Err c = small_room _ _ c.if-out-lt-ROOM.false (omega arith)

pub returns-in-Ok : goal.returns-in-Ok
returns-in-Ok c = reported _ c.if-log-gt-MOST_BYTES.false c.in-Ok.ensures.0 c.if-out-lt-ROOM.false refl c.put_log.ensures

pub returns-in-Err : goal.returns-in-Err
returns-in-Err c =
    not_settled _ c.if-log-gt-MOST_BYTES.false c.in-Err.ensures.0 c.if-out-lt-ROOM.false (number_not_0 c.in-Err.refusal) c.put_refused-in-Err.ensures
