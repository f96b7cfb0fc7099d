-- What the functions of the report ask of one another and leave.
use Rattle.std.specs.Prelude.{◌≡◌, List, [], ◌∷◌, ◌++◌, ℕ, ◌+◌, ◌*◌, ◌-◌, ◌≤◌, ◌<◌, ℤ, pos, length, get_or, replicate}
use Rattle.whole.specs.Lists.{at, collect}
use Rattle.lattice.specs.Limits.{most_d, most_readings}
use Rattle.index.specs.Keys.{key_at}
use Rattle.table.specs.declared.Head.{Head}
use Rattle.table.specs.Table.{Settings, Table, whole}
use Rattle.table.specs.Heads.{settings, table}
use Rattle.table.specs.Sound.{Ranged, Fine}
use Rattle.blur.specs.Blur.{masses, values}
use Rattle.filter.specs.Answer.{code_by, value_by}
use Rattle.filter.specs.Inner.{Smooth}
use Rattle.text.specs.Text.{line}
use Rattle.reader.specs.Items.{Of, settings_of, item_at}
use Rattle.reader.specs.Content.{said_at}
use Rattle.reader.specs.declared.kinds.Kind.{Kind}
use Rattle.reader.specs.Walk.{items}
use Rattle.book.specs.Book.{Booked}
use Rattle.load.specs.Loading.{load}
use Rattle.report.specs.declared.opening.Opening.{Opening}
use Rattle.report.specs.Report.{most_bytes, most_log_capacity, room, point_word, head_line, point_lines, answer_line, answer_lines, query_text, per_query, table_text, refused_line, loaded_text}

-- as many numbers as a line has at most: six coordinates, a mass and a value sum
abbrev pub most_in_line : ℕ
most_in_line = 8

-- the line of a head
abbrev pub counts_line : Head → List ℕ
counts_line h = head_line (settings h) (table h [] [] [])

-- a head of a table that the program has memory for, and room for its line
pub record HeadRoom (h : Head) (size : ℕ) : Type 0 where
  pub d_most : h.d ≤ most_d
  pub readings_most : h.readings ≤ most_readings
  pub points_most : h.points ≤ most_log_capacity
  pub space : length (counts_line h) ≤ size

-- an offset of a log that the program takes, and room for the line of a refusal
pub record RefusedRoom (x a size : ℕ) : Type 0 where
  pub offset_most : a ≤ most_bytes
  pub space : length (refused_line x a) ≤ size

-- A sound table that the program has memory for.
pub record Printable (c : Settings) (t : Table) : Type 0 where
  pub fine : Fine c t
  pub few : c.C ≤ most_log_capacity

-- the numbers of the line of point i, by the lent keys and sums
abbrev pub numbers_at : ℕ → List ℤ → List ℤ → ℕ → List ℤ
numbers_at d keys sums i = whole (key_at d keys i) ++ (at sums (2 * i) ∷ at sums (2 * i + 1) ∷ [])

-- the numbers of the line of point i in an array, with 0 in the rest
abbrev pub line_numbers : ℕ → List ℤ → List ℤ → ℕ → List ℤ
line_numbers d keys sums i = numbers_at d keys sums i ++ replicate (most_in_line - (d + 3)) (pos 0)

-- lent keys and sums that have the stretch and the pair of point i
pub record LiesIn (d : ℕ) (keys sums : List ℤ) (i : ℕ) : Type 0 where
  pub d_most : d ≤ most_d
  pub few : i ≤ most_log_capacity
  pub stretch : d * i + d ≤ length keys
  pub pair : 2 * i + 1 < length sums

-- the line of point i, by the lent keys and sums
abbrev pub line_at : ℕ → List ℤ → List ℤ → ℕ → List ℕ
line_at d keys sums i = line point_word (numbers_at d keys sums i)

-- the lines of the m points that an array names from its start on
unfoldable pub lines_in : ℕ → List ℤ → List ℤ → List ℕ → ℕ → List ℕ
lines_in d keys sums list m = collect m (λ j. line_at d keys sums (get_or list j 0))

-- a point of lent keys and sums, and room for its line from a place on
pub record PointRoom (d : ℕ) (keys sums : List ℤ) (i at size : ℕ) : Type 0 where
  pub lies_in : LiesIn d keys sums i
  pub space : at + length (line_at d keys sums i) ≤ size

-- points of lent keys and sums that an array names from its start on, m of them, and room for their lines
pub record RowsRoom (d m : ℕ) (keys sums : List ℤ) (list : List ℕ) (at size : ℕ) : Type 0 where
  pub each : (j : ℕ) → j < m → LiesIn d keys sums (get_or list j 0)
  pub long : m ≤ length list
  pub space : at + length (lines_in d keys sums list m) ≤ size

-- a table that the program has memory for, and room for the lines of its points
pub record PointsRoom (c : Settings) (t : Table) (at size : ℕ) : Type 0 where
  pub printable : Printable c t
  pub space : at + length (point_lines c t) ≤ size

-- the line of a query, by a sheet of blurred pairs in place of the sums
abbrev pub reply_line : Settings → Table → List ℤ → List ℕ
reply_line c t q = answer_line (value_by c t (masses c t) (values c t) q) (code_by c t (masses c t) q)

-- a sheet for the settings of the log, an item of a kind that stands in it, and room for its line
pub record ReplyRoom (c : Settings) (t : Table) (l : List ℕ) (a : ℕ) (k : Kind) (at size : ℕ) : Type 0 where
  pub smooth : Smooth c t
  pub settings_are : c ≡ settings_of l
  pub item_is : Of k ≡ item_at l a
  pub space : at + length (query_text (reply_line c t) (said_at l a k)) ≤ size

-- a sheet for the settings of the log, and room for the lines of all queries
pub record RepliesRoom (c : Settings) (t : Table) (l : List ℕ) (at size : ℕ) : Type 0 where
  pub smooth : Smooth c t
  pub settings_are : c ≡ settings_of l
  pub space : at + length (per_query (reply_line c t) (items l)) ≤ size

-- the table of a log, and room for the answers to its queries
pub record AnswersRoom (c : Settings) (t : Table) (l : List ℕ) (at size : ℕ) : Type 0 where
  pub printable : Printable c t
  pub settings_are : c ≡ settings_of l
  pub space : at + length (answer_lines c t (items l)) ≤ size

-- the table of a log, and room for all of its text
pub record TableRoom (c : Settings) (t : Table) (l : List ℕ) (size : ℕ) : Type 0 where
  pub printable : Printable c t
  pub settings_are : c ≡ settings_of l
  pub space : length (table_text c t l) ≤ size

-- what the settings of a log ask for: a dimension and a capacity, in their ranges, which the program has memory for
pub record Opens (l : List ℕ) (o : Opening) : Type 0 where
  pub d_is : o.d ≡ (settings_of l).d
  pub capacity_is : o.capacity ≡ (settings_of l).C
  pub ranged : Ranged (settings_of l)
  pub few : (settings_of l).C ≤ most_log_capacity

-- a log that the program takes, and settings that it has memory for
pub record Taken (l : List ℕ) : Type 0 where
  pub short : length l ≤ most_bytes
  pub ranged : Ranged (settings_of l)
  pub few : (settings_of l).C ≤ most_log_capacity

-- a log that the program takes, and room for what is printed where it is loaded into the memory of b
pub record LentFor (l : List ℕ) (b : Booked) (size : ℕ) : Type 0 where
  pub taken : Taken l
  pub space : length (loaded_text l (load l b).number (load l b)) ≤ size

-- these settings, and a buffer that suffices
pub record Settled (l : List ℕ) (d capacity size : ℕ) : Type 0 where
  pub taken : Taken l
  pub d_is : d ≡ (settings_of l).d
  pub capacity_is : capacity ≡ (settings_of l).C
  pub space : room ≤ size
