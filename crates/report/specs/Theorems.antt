-- What is promised of the report: a buffer of a named length suffices, and the text is a function of the log's bytes alone.
use Rattle.std.specs.Prelude.{◌≡◌, List, ℕ, ◌≤◌, length, take}
use Rattle.report.specs.Report.{report, room, Reports}

-- Statement: the buffer suffices, for every log.
abbrev pub Suffices : Type 0
Suffices = (l : List ℕ) → length (report l) ≤ room

-- Statement: what is written lies within the buffer.
abbrev pub WithinBuffer : Type 0
WithinBuffer = (l buffer after : List ℕ) (bytes : ℕ) → Reports l buffer bytes after → bytes ≤ length after

-- Statement: two calls on the same log write the same bytes, whatever the buffers held, if both suffice.
abbrev pub TextOfLog : Type 0
TextOfLog = (l buffer buffer' after after' : List ℕ) (bytes bytes' : ℕ) → room ≤ length buffer → room ≤ length buffer'
    → Reports l buffer bytes after → Reports l buffer' bytes' after' → (bytes ≡ bytes') × (take bytes after ≡ take bytes' after')
