-- The definitions agree with lines of document 01's worked output: computed.
use mathlib.Core.Path.{refl}
use Rattle.text.specs.Text.{digits_in, decimal, spaced, line}
use Rattle.text.specs.Worked.{LineCases}

pub line_cases : LineCases
unfolding line spaced decimal digits_in
line_cases = record { point = refl; nothing = refl; longest = refl }
