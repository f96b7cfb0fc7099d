-- The statements of specs/Theorems.antt, proved.
use mathlib.Core.Path.{◌≡◌, sym, ap, ◌∙◌}
use mathlib.Core.List.{List}
use Prim.Native.Nat.{ℕ, ◌+◌, ◌≤◌}
use native.Mathlib.Omega.{arith}
use lib.ListN.{length, take, drop, length-append}
use lib.Seq.{take_at}
use borrow.Author.Tests.{le-leb}
use Rattle.report.specs.Report.{report, fitting, room, Reports}
use Rattle.report.specs.Theorems.{Suffices, WithinBuffer, TextOfLog}
use Rattle.report.proofs.Fitting.{report_fits}

pub suffices : Suffices
suffices l = report_fits l

pub within_buffer : WithinBuffer
within_buffer l buffer after bytes R =
    let text = fitting (length buffer) (report l) in
    let k = ap length R.after_is ∙ length-append text (drop (0 + length text) buffer) in
    omega (arith, R.bytes_are)

-- ---- the text is the log's
fitting_all : (buffer text : List ℕ) → room ≤ length buffer → fitting (length buffer) text ≡ text
fitting_all buffer text h = rw (le-leb room (length buffer) h)

bytes_of : (l buffer after : List ℕ) (bytes : ℕ) → room ≤ length buffer → Reports l buffer bytes after → bytes ≡ length (report l)
bytes_of l buffer after bytes h R = R.bytes_are ∙ ap length (fitting_all buffer (report l) h)

written_of : (l buffer after : List ℕ) (bytes : ℕ) → room ≤ length buffer → Reports l buffer bytes after → take bytes after ≡ report l
written_of l buffer after bytes h R = rw (R.after_is, fitting_all buffer (report l) h) (take_at (report l) _ bytes (sym (bytes_of l buffer after bytes h R)))

pub text_of_log : TextOfLog
text_of_log l buffer buffer' after after' bytes bytes' h h' R R' = (
  bytes_of l buffer after bytes h R ∙ sym (bytes_of l buffer' after' bytes' h' R'),
  written_of l buffer after bytes h R ∙ sym (written_of l buffer' after' bytes' h' R'),
)
