-- Demand 3, of what `dyemap` prints.
use Rattle.std.specs.Prelude.{◌≡◌, ℕ, ◌≤◌, length}
use mathlib.Core.List.{List, [], map, Perm}
use Rattle.whole.specs.Lists.{Each}
use Rattle.table.specs.Reading.{Reading}
use Rattle.book.specs.Book.{OtherNumber}
use Rattle.reader.specs.Items.{settings_of}
use Rattle.reader.specs.Walk.{items, readings, queries}
use Rattle.load.specs.Loading.{load}
use Rattle.load.specs.Numbering.{numbering}
use Rattle.report.specs.Report.{most_bytes, settings_refusal, report}
use Rattle.promises.specs.Acceptance.{ItemsInForm}
use Rattle.promises.specs.LogRefusals.{memory}

-- a log that `dyemap` does not refuse
pub record Printed (l : List ℕ) : Type 0 where
  pub short : length l ≤ most_bytes
  pub settled : settings_refusal l ≡ 0
  pub taken : (load l (memory l)).number ≡ 0

-- a log of which only a reading could be refused, and none for its number: its length, its settings and the form of its items are not, and no two of its readings have one number, where those
-- without one have got theirs
pub record Formed (l : List ℕ) : Type 0 where
  pub short : length l ≤ most_bytes
  pub settled : settings_refusal l ≡ 0
  pub in_form : ItemsInForm (items l)
  pub apart : Each OtherNumber (numbering [] (readings (items l)))

-- the readings of a log, whatever their numbers
abbrev pub readings_of_log : List ℕ → List Reading
readings_of_log l = map (λ r. r.reading) (readings (items l))

-- Statement: two logs of one d and S with the same readings in any order, numbered in whatever way, and the same queries in the same order: where the one is not refused, neither is the other, if it is in
-- form and its capacity is not smaller, and both print the same bytes.
abbrev pub PrintedTheSame : Type 0
PrintedTheSame = (l m : List ℕ) → Printed l → Formed m → (settings_of l).d ≡ (settings_of m).d → (settings_of l).S ≡ (settings_of m).S → (settings_of l).C ≤ (settings_of m).C
    → Perm (readings_of_log l) (readings_of_log m) → queries (items l) ≡ queries (items m) → Printed m × (report l ≡ report m)
