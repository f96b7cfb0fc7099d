use lib.ListN.{take}
use Rattle.text.specs.Text.{spaced, Written}
use Rattle.text.proofs.put_numbers.Given as goal

abbrev pub invariant-loop-number : goal.invariant-loop-number
invariant-loop-number l = Written l.initial.out l.at (spaced (take l.number-index l.numbers)) l.next l.out
