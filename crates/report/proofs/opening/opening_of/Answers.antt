use mathlib.Core.Path.{◌≡◌}
use borrow.Author.Rules.{rules}
use Rattle.std.specs.Prelude.{Err}
use Rattle.reader.proofs.Forms.{refused_found, ok_found}
use Rattle.report.proofs.Settling.{opens_other, opens_outside, opens_wide, opens_taken}
use Rattle.report.proofs.opening.opening_of.Goals as goal

pub returns-in_err-read_at : goal.returns-in_err-read_at
returns-in_err-read_at c =
    let why = c.in_err-read_at.field-0.0 in
    let e : c.from_residual.result ≡ Err why = search rules in
    rw e (opens_other _ why (refused_found _ _ _ c.read_at.ensures c.in_err-read_at.was), tt)

pub returns-then-not-in_range : goal.returns-then-not-in_range
returns-then-not-in_range c =
    (opens_outside _ (ok_found _ _ _ c.read_at.ensures c.in_ok-read_at.was) _ c.settings_of-asked.ensures c.if-not-in_range.ensures, tt)

pub returns-then-asked-gt-MOST_LOG_CAPACITY : goal.returns-then-asked-gt-MOST_LOG_CAPACITY
returns-then-asked-gt-MOST_LOG_CAPACITY c =
    (opens_wide _ (ok_found _ _ _ c.read_at.ensures c.in_ok-read_at.was) _ c.settings_of-asked.ensures c.if-not-in_range.ensures c.if-asked-gt-MOST_LOG_CAPACITY.true, tt)

pub returns : goal.returns
returns c =
    opens_taken _ (ok_found _ _ _ c.read_at.ensures c.in_ok-read_at.was) _ c.settings_of-asked.ensures c.if-not-in_range.ensures c.if-asked-gt-MOST_LOG_CAPACITY.false
