-- What `dyemap` prints: "Any refusal prints one line, `REFUSED number offset`. Otherwise queries are answered over all readings, wherever they stand."
use Rattle.std.specs.Prelude.{◌≡◌, cond, List, [], ◌∷◌, ◌++◌, ℕ, zero, suc, leb, ℤ, pos, length, get_or}
use Rattle.whole.specs.Lists.{collect, splice}
use Rattle.lattice.specs.Refusals.{first, settings_out_of_range, program_limit}
use Rattle.table.specs.Table.{Settings, Table, key, mass, value, whole}
use Rattle.table.specs.Calls.{ranged}
use Rattle.book.specs.Calls.{fresh_booked}
use Rattle.listing.specs.Listing.{order}
use Rattle.filter.specs.Answer.{code, answer}
use Rattle.reader.specs.Items.{settings_of, item_at, number_of}
use Rattle.reader.specs.Content.{Said, reads, asks, refuses}
use Rattle.reader.specs.Walk.{Walk, then, ends, items}
use Rattle.load.specs.Loading.{Load, or_else, load}
use Rattle.text.specs.Text.{line}

-- "16: program: log over 16,384 bytes, or C over 512"
abbrev pub most_bytes : ℕ
most_bytes = 16384

abbrev pub most_log_capacity : ℕ
most_log_capacity = 512

-- "Each line starts with its fixed word in capital bytes": HEAD, POINT, ANSWER and REFUSED
abbrev pub head_word : List ℕ
head_word = 72 ∷ 69 ∷ 65 ∷ 68 ∷ []

abbrev pub point_word : List ℕ
point_word = 80 ∷ 79 ∷ 73 ∷ 78 ∷ 84 ∷ []

abbrev pub answer_word : List ℕ
answer_word = 65 ∷ 78 ∷ 83 ∷ 87 ∷ 69 ∷ 82 ∷ []

abbrev pub refused_word : List ℕ
refused_word = 82 ∷ 69 ∷ 70 ∷ 85 ∷ 83 ∷ 69 ∷ 68 ∷ []

-- "HEAD: d, S, readings, points."
abbrev pub head_line : Settings → Table → List ℕ
head_line c t = line head_word (pos c.d ∷ pos c.S ∷ pos t.n ∷ pos t.m ∷ [])

-- "POINT: all d+1 coordinates, mass, value sum"
abbrev pub point_numbers : Settings → Table → ℕ → List ℤ
point_numbers c t i = whole (key c t i) ++ (mass t i ∷ value t i ∷ [])

abbrev pub point_line : Settings → Table → ℕ → List ℕ
point_line c t i = line point_word (point_numbers c t i)

-- "in listing order"
unfoldable pub point_lines : Settings → Table → List ℕ
point_lines c t = collect t.m (λ j. point_line c t (get_or (order c t) j 0))

-- "ANSWER: value, code."
abbrev pub answer_line : ℤ → ℕ → List ℕ
answer_line value code = line answer_word (value ∷ pos code ∷ [])

-- the text that an item adds: that of a query, and nothing for any other
abbrev pub query_text : (List ℤ → List ℕ) → Said → List ℕ
query_text text (reads r) = []
query_text text (asks q) = text q
query_text text (refuses x) = []

-- a text for each query, in their order
unfoldable pub per_query : (List ℤ → List ℕ) → Walk → List ℕ
per_query text (then a s w) = query_text text s ++ per_query text w
per_query text (ends x a) = []

-- the answers of a log, "over all readings": t is the table of the whole log
abbrev pub answer_lines : Settings → Table → Walk → List ℕ
answer_lines c t w = per_query (λ q. answer_line (answer c t q) (code c t q)) w

-- "`REFUSED number offset`"
abbrev pub refused_line : ℕ → ℕ → List ℕ
refused_line x a = line refused_word (pos x ∷ pos a ∷ [])

-- the table of a log, and the answers to its queries
abbrev pub table_text : Settings → Table → List ℕ → List ℕ
table_text c t l = head_line c t ++ (point_lines c t ++ answer_lines c t (items l))

-- a log that is loaded: its table, or the one line
abbrev pub loaded_text : List ℕ → ℕ → Load → List ℕ
loaded_text l zero o = table_text o.settings o.booked.table l
loaded_text l (suc x) o = refused_line (suc x) o.offset

-- "capacity once settings are read and pass 1 (16 at offset 0)"
unfoldable pub settings_refusal : List ℕ → ℕ
settings_refusal l = let c = settings_of l in
    or_else (number_of (item_at l 0)) (first ((ranged c, settings_out_of_range) ∷ (leb c.C most_log_capacity, program_limit) ∷ []))

-- "room B … (… `dyemap`: 2,048)"
abbrev pub book_room : ℕ
book_room = 2048

-- a log whose settings have the number x; the slices that it is loaded into have the lengths that its settings and this room give
abbrev pub settled_text : ℕ → List ℕ → List ℕ
settled_text zero l = let o = load l (fresh_booked (settings_of l) book_room) in loaded_text l o.number o
settled_text (suc x) l = refused_line (suc x) 0

-- "Length is tested first (16 at offset 16384)"
unfoldable pub report : List ℕ → List ℕ
report l = cond (leb (length l) most_bytes) (settled_text (settings_refusal l) l) (refused_line program_limit most_bytes)

-- a buffer that suffices for every report
abbrev pub room : ℕ
room = 200000

-- what is written into a buffer of so many bytes: a shorter one is left as it is
abbrev pub fitting : ℕ → List ℕ → List ℕ
fitting size text = cond (leb room size) text []

-- The number of bytes written, at the start of the buffer, and the buffer.
pub record Reports (l buffer : List ℕ) (bytes : ℕ) (after : List ℕ) : Type 0 where
  pub bytes_are : bytes ≡ length (fitting (length buffer) (report l))
  pub after_is : after ≡ splice buffer 0 (fitting (length buffer) (report l))
