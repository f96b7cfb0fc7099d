-- How long a report can be: a bound on each kind of line, on the lines of a table, and on the whole.
use mathlib.Core.Path.{◌≡◌, refl, ap, subst, sym}
use mathlib.Core.Bool.{Bool, true, false, cond}
use mathlib.Core.List.{List, [], ◌∷◌, ◌++◌}
use Prim.Native.Nat.{ℕ, zero, suc, ◌*◌, ◌≤◌}
use native.Mathlib.Omega.{arith}
use lib.Dec.{leb}
use lib.IntN.{ℤ, pos}
use lib.ListN.{length, get_or, length-append}
use borrow.Author.Tests.{leb-true}
use Rattle.whole.specs.Lists.{collect}
use Rattle.lattice.specs.Limits.{most_d}
use Rattle.lattice.specs.Refusals.{program_limit}
use Rattle.table.specs.Table.{Settings, Table}
use Rattle.book.specs.Book.{Booked}
use Rattle.book.specs.Calls.{fresh_booked}
use Rattle.listing.specs.Listing.{order}
use Rattle.filter.specs.Answer.{code, answer}
use Rattle.text.proofs.Theorems.{line_fits}
use Rattle.reader.specs.Items.{after_settings, settings_of}
use Rattle.reader.specs.Content.{Said, reads, asks, refuses}
use Rattle.reader.specs.Walk.{Walk, then, ends, walk, queries_in, queries}
use Rattle.load.specs.Loading.{load}
use Rattle.reader.proofs.Walking.{query_count_lem}
use Rattle.load.proofs.Leaving.{load_settings, load_fine}
use Rattle.report.specs.Report.{most_bytes, most_log_capacity, book_room, head_word, point_word, answer_word, refused_word, head_line, point_numbers, point_line, point_lines, answer_line, query_text, per_query, table_text, refused_line, loaded_text, settings_refusal, settled_text, report, room}
use Rattle.report.specs.Inner.{Printable}
use Rattle.report.proofs.Settling.{few_points}
use Rattle.report.proofs.Numbers.{numbers_size}

-- ---- each kind of line
head_fits : (c : Settings) (t : Table) → length (head_line c t) ≤ 93
head_fits c t = line_fits head_word (pos c.d ∷ pos c.S ∷ pos t.n ∷ pos t.m ∷ [])

answer_fits : (value : ℤ) (code : ℕ) → length (answer_line value code) ≤ 51
answer_fits value code = line_fits answer_word (value ∷ pos code ∷ [])

pub refused_fits : (x a : ℕ) → length (refused_line x a) ≤ 52
refused_fits x a = line_fits refused_word (pos x ∷ pos a ∷ [])

-- a point has d + 1 coordinates and a pair
point_fits : (c : Settings) (t : Table) (i : ℕ) → c.d ≤ most_d → length (point_line c t i) ≤ 182
point_fits c t i h = omega (arith, line_fits point_word (point_numbers c t i), numbers_size c.d t.keys t.sums i)

-- ---- so many of them
collect_fits : {A : Type 0} (n b : ℕ) (g : ℕ → List A) → ((i : ℕ) → length (g i) ≤ b) → length (collect n g) ≤ b * n
unfolding collect
collect_fits zero b g h = omega arith
collect_fits (suc n) b g h = omega (arith, length-append (collect n g) (g n), h n, collect_fits n b g h)

points_fit : (c : Settings) (t : Table) → c.d ≤ most_d → length (point_lines c t) ≤ 182 * t.m
unfolding point_lines
points_fit c t h = collect_fits t.m 182 (λ j. point_line c t (get_or (order c t) j 0)) (λ j. point_fits c t (get_or (order c t) j 0) h)

query_fits : (text : List ℤ → List ℕ) (b : ℕ) → ((q : List ℤ) → length (text q) ≤ b) → (s : Said) → length (query_text text s) ≤ b * length (queries_in s)
query_fits text b h (reads r) = omega arith
query_fits text b h (asks q) = omega (arith, h q)
query_fits text b h (refuses x) = omega arith

queries_fit : (text : List ℤ → List ℕ) (b : ℕ) → ((q : List ℤ) → length (text q) ≤ b) → (w : Walk) → length (per_query text w) ≤ b * length (queries w)
unfolding per_query queries
queries_fit text b h (then a s w) = omega (arith, length-append (query_text text s) (per_query text w), ap (λ (n : ℕ). b * n) (length-append (queries_in s) (queries w)), query_fits text b h s, queries_fit text b h w)
queries_fit text b h (ends x a) = omega arith

-- ---- a table
pub table_fits : (c : Settings) (t : Table) (l : List ℕ) → length l ≤ most_bytes → Printable c t → length (table_text c t l) ≤ room
table_fits c t l h P =
    let w = walk l after_settings in
    let text : List ℤ → List ℕ = λ q. answer_line (answer c t q) (code c t q) in
    omega (
      arith,
      length-append (head_line c t) (point_lines c t ++ per_query text w),
      length-append (point_lines c t) (per_query text w),
      head_fits c t,
      points_fit c t P.fine.ranged.d_most,
      P.fine.sound.indexed.sparse.room,
      P.few,
      queries_fit text 51 (λ q. answer_fits (answer c t q) (code c t q)) w,
      query_count_lem l after_settings,
    )

-- ---- a log that is loaded into slices of any lengths
abbrev pub text_in : List ℕ → Booked → List ℕ
text_in l b = loaded_text l (load l b).number (load l b)

pub loaded_fits : (l : List ℕ) (b : Booked) → length l ≤ most_bytes → (settings_of l).C ≤ most_log_capacity → length (text_in l b) ≤ room
loaded_fits l b h k = go (load l b).number refl
  where
    go : (x : ℕ) → (load l b).number ≡ x → length (loaded_text l x (load l b)) ≤ room
    go zero e =
        let o = load l b in
        subst (λ (c : Settings). length (table_text c o.booked.table l) ≤ room) (sym (load_settings l b e))
        (table_fits (settings_of l) o.booked.table l h (record { fine = (load_fine l b e).fine; few = k }))
    go (suc x) e = omega (arith, refused_fits (suc x) (load l b).offset)

-- ---- a log
pub report_fits : (l : List ℕ) → length (report l) ≤ room
unfolding report
report_fits l = go (leb (length l) most_bytes) refl
  where
    settled : length l ≤ most_bytes → (x : ℕ) → settings_refusal l ≡ x → length (settled_text x l) ≤ room
    settled h zero e = loaded_fits l (fresh_booked (settings_of l) book_room) h (few_points l e)
    settled h (suc x) e = omega (arith, refused_fits (suc x) 0)

    go : (b : Bool) → leb (length l) most_bytes ≡ b → length (cond b (settled_text (settings_refusal l) l) (refused_line program_limit most_bytes)) ≤ room
    go true e = settled (leb-true (length l) most_bytes e) (settings_refusal l) refl
    go false e = omega (arith, refused_fits program_limit most_bytes)
