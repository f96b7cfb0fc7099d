-- Demand 1, of logs: "A half file is told at which byte." Demand 2, of logs and of the program: when each refusal comes, what it tells, and what it leaves.
use Rattle.std.specs.Prelude.{◌≡◌, ◌↔◌, ◌⊎◌, List, ℕ, suc, ◌+◌, ◌≤◌, ◌<◌, T, length}
use Rattle.lattice.specs.Refusals.{settings_out_of_range, kind_not_listed, settings_misplaced, other_dimension, body_cut, program_limit}
use Rattle.book.specs.Book.{Booked}
use Rattle.book.specs.Calls.{fresh_refusal, fresh_booked}
use Rattle.table.specs.Sound.{Ranged}
use Rattle.reader.specs.Bytes.{byte_at}
use Rattle.reader.specs.Kinds.{kind_of, body_length, is_listed, placed, of_dimension}
use Rattle.reader.specs.declared.kinds.Kind.{Kind}
use Rattle.reader.specs.Items.{settings_of, item_at, number_of}
use Rattle.load.specs.Loading.{Load, not_started, item_number, load}
use Rattle.reader.specs.Walk.{items, Place, before}
use Rattle.load.specs.Theorems.{entered_of, table_of}
use Rattle.report.specs.Report.{most_bytes, most_log_capacity, book_room, refused_line, table_text, report}
use Rattle.promises.specs.Refusals.{Not}

-- "Per item: 12, 13, 14, 15": the item at the offset a, of the kind k that its byte says. "An empty log is 13 at 0."
pub record ItemRefused (l : List ℕ) (a : ℕ) (k : Kind) : Type 0 where
  pub twelve : number_of (item_at l a) ≡ kind_not_listed ↔ (a < length l) × Not (T (is_listed k))
  pub thirteen : number_of (item_at l a) ≡ settings_misplaced
      ↔ ((a < length l) × T (is_listed k) × Not (T (placed k a))) ⊎ ((length l ≡ 0) × (a ≡ 0))
  pub fourteen : number_of (item_at l a) ≡ other_dimension ↔ (a < length l) × T (is_listed k) × T (placed k a) × Not (T (of_dimension (settings_of l).d k))
  pub fifteen : number_of (item_at l a) ≡ body_cut
      ↔ (a < length l) × T (is_listed k) × T (placed k a) × T (of_dimension (settings_of l).d k) × (length l < suc a + body_length k)
  pub none : number_of (item_at l a) ≡ 0
      ↔ ((a < length l) × T (is_listed k) × T (placed k a) × T (of_dimension (settings_of l).d k) × (suc a + body_length k ≤ length l)) ⊎ ((length l ≤ a) × (0 < a))

-- the number of the item at an offset after the settings, where the table holds the readings before it: its form's, or a reading's own; "a query's
-- 4 and 5 come only in its answer"
abbrev pub refusal_at : List ℕ → ℕ → ℕ → ℕ
refusal_at l B a = item_number (settings_of l) (table_of l B (before a (items l))) l a (item_at l a)

-- "Loading … stops at the first refusal; the table then holds exactly the readings before that place." "A log taken whole answers 0 and its length."
pub record LoadStops (l : List ℕ) (B : ℕ) (o : Load) : Type 0 where
  pub place : Place o.offset (items l)
  pub number_is : o.number ≡ refusal_at l B o.offset
  pub none_before : (a : ℕ) → Place a (items l) → a < o.offset → refusal_at l B a ≡ 0
  pub settings_are : o.settings ≡ settings_of l
  pub booked_is : o.booked ≡ table_of l B (before o.offset (items l))
  pub all_taken : (entered_of l B (before o.offset (items l))).number ≡ 0
  pub whole : o.number ≡ 0 ↔ o.offset ≡ length l

pub record LoadRefuses (l : List ℕ) (b : Booked) : Type 0 where
  -- "Where no settings were accepted, or the slices were refused, memory is unchanged and the head handed back is all 0.": 12, 13 or 15,
  pub settings_refused : (x : ℕ) → number_of (item_at l 0) ≡ suc x → load l b ≡ not_started (suc x) b
  -- then 1, with the room of the book, and "2 right after 1"
  pub table_refused : (x : ℕ) → number_of (item_at l 0) ≡ 0 → fresh_refusal (settings_of l) b ≡ suc x → load l b ≡ not_started (suc x) b
  pub begun : number_of (item_at l 0) ≡ 0 → fresh_refusal (settings_of l) b ≡ 0 → LoadStops l b.room (load l b)

-- the program's memory for a log's table: "`dyemap`: 2,048"
abbrev pub memory : List ℕ → Booked
memory l = fresh_booked (settings_of l) book_room

-- "Length is tested first (16 at offset 16384), capacity once settings are read and pass 1 (16 at offset 0). Any refusal prints one line": exactly one
-- of these is the case
pub record Prints (l : List ℕ) : Type 0 where
  pub too_long : most_bytes < length l → report l ≡ refused_line program_limit most_bytes
  pub settings_form : length l ≤ most_bytes → (x : ℕ) → number_of (item_at l 0) ≡ suc x → report l ≡ refused_line (suc x) 0
  pub settings_range : length l ≤ most_bytes → number_of (item_at l 0) ≡ 0 → Not (Ranged (settings_of l)) → report l ≡ refused_line settings_out_of_range 0
  pub too_wide : length l ≤ most_bytes → number_of (item_at l 0) ≡ 0 → Ranged (settings_of l) → most_log_capacity < (settings_of l).C → report l ≡ refused_line program_limit 0
  pub refused : length l ≤ most_bytes → number_of (item_at l 0) ≡ 0 → Ranged (settings_of l) → (settings_of l).C ≤ most_log_capacity
      → (x : ℕ) → (load l (memory l)).number ≡ suc x → report l ≡ refused_line (suc x) (load l (memory l)).offset
  pub taken : length l ≤ most_bytes → number_of (item_at l 0) ≡ 0 → Ranged (settings_of l) → (settings_of l).C ≤ most_log_capacity
      → (load l (memory l)).number ≡ 0 → report l ≡ table_text (settings_of l) (load l (memory l)).booked.table l

-- Statement: all of these, for every input.
pub record LogRefusalsExact : Type 0 where
  pub item : (l : List ℕ) (a : ℕ) → ItemRefused l a (kind_of (byte_at l a))
  pub load_call : (l : List ℕ) (b : Booked) → LoadRefuses l b
  pub program : (l : List ℕ) → Prints l
