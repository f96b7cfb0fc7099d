-- A signed number's word.
use native.Mathlib.Omega.{arith}
use Rattle.whole.specs.Word.{word, WordOfNegative}
use Rattle.whole.proofs.Signed.{zed, zeq}

pub word_of_negative : WordOfNegative
unfolding word
word_of_negative n h = zeq (search zed depth 14) (omega arith)
