use Rattle.text.specs.Text.{Written}
use Rattle.report.specs.Inner.{lines_in}
use Rattle.report.proofs.points.put_rows.Given as goal

abbrev pub invariant-loop-i : goal.invariant-loop-i
invariant-loop-i l = Written l.initial.out l.at (lines_in l.head.d l.keys l.sums l.order l.i-index) l.next l.out
