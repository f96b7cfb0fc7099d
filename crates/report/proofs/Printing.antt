-- What is asked and left where a table, a loaded log and a whole log are printed: room for each part of the text after those before it.
use mathlib.Core.Path.{◌≡◌, refl, sym, ap, ap₂, subst, ◌∙◌}
use mathlib.Core.List.{List, ◌++◌, append_assoc}
use Prim.Native.Nat.{ℕ, zero, suc, ◌+◌, ◌*◌, ◌-◌, ◌≤◌}
use native.Mathlib.Nat.{mul-le-mul}
use native.Mathlib.Omega.{arith}
use lib.IntN.{ℤ, pos}
use lib.ListN.{length, take, replicate, length-append, length-replicate, replicate-append-replicate}
use lib.Seq.{take_at}
use Rattle.lattice.specs.Limits.{most_d}
use Rattle.table.specs.declared.Head.{Head}
use Rattle.table.specs.Table.{Settings, Table}
use Rattle.table.specs.Calls.{lent, fresh}
use Rattle.table.specs.Heads.{settings, table, head_of}
use Rattle.table.specs.Sound.{Fine}
use Rattle.book.specs.Book.{Booked}
use Rattle.book.specs.Calls.{fresh_booked}
use Rattle.text.specs.Text.{Written}
use Rattle.text.proofs.Lines.{written_then, written_room}
use Rattle.reader.specs.Items.{after_settings, settings_of}
use Rattle.reader.specs.Walk.{walk}
use Rattle.load.specs.Loading.{Load, load, Loads}
use Rattle.table.proofs.Calls.{answered}
use Rattle.load.proofs.Leaving.{load_offset, load_settings, load_fine}
use Rattle.report.specs.Report.{most_log_capacity, book_room, head_line, point_lines, answer_lines, refused_line, table_text, loaded_text, settled_text}
use Rattle.report.specs.Inner.{counts_line, HeadRoom, RefusedRoom, PointsRoom, AnswersRoom, TableRoom, LentFor, Settled}
use Rattle.report.proofs.Fitting.{text_in, loaded_fits}

-- ---- a table
pub head_room : (h : Head) (keys sums : List ℤ) (index l : List ℕ) (size : ℕ) → TableRoom (settings h) (table h keys sums index) l size → HeadRoom h size
head_room h keys sums index l size R =
    let t = table h keys sums index in
    let F = R.printable.fine in
    record {
      d_most = F.ranged.d_most;
      readings_most = F.sound.few;
      points_most = omega (arith, F.sound.indexed.sparse.room, R.printable.few);
      space = omega (arith, R.space, length-append (counts_line h) (point_lines (settings h) t ++ answer_lines (settings h) t (walk l after_settings)));
    }

module _ (c : Settings) (t : Table) (l : List ℕ) {o o₁ : List ℕ} {n₁ : ℕ} (R : TableRoom c t l (length o)) (p : Written o 0 (head_line c t) n₁ o₁) where
  abbrev answers : List ℕ
  answers = answer_lines c t (walk l after_settings)

  three : length (head_line c t) + (length (point_lines c t) + length answers) ≤ length o
  three = omega (arith, R.space, length-append (head_line c t) (point_lines c t ++ answers), length-append (point_lines c t) answers)

  pub points_room : PointsRoom c t n₁ (length o₁)
  points_room = record { printable = R.printable; space = written_room (length (point_lines c t)) p (omega (arith, three)) }

  module _ {o₂ : List ℕ} {n₂ : ℕ} (q : Written o₁ n₁ (point_lines c t) n₂ o₂) where
    two : Written o 0 (head_line c t ++ point_lines c t) n₂ o₂
    two = written_then p q (omega (arith, three))

    fits : 0 + length (head_line c t ++ point_lines c t) + length answers ≤ length o
    fits = omega (arith, three, length-append (head_line c t) (point_lines c t))

    pub answers_room : AnswersRoom c t l n₂ (length o₂)
    answers_room = record { printable = R.printable; settings_are = R.settings_are; space = written_room (length answers) two fits }

    pub table_written : {o₃ : List ℕ} {n₃ : ℕ} → Written o₂ n₂ answers n₃ o₃ → Written o 0 (table_text c t l) n₃ o₃
    table_written r = rw append_assoc at (written_then two r fits)

-- ---- a loaded log: what was answered, and the memory that was left
refused_text : (l : List ℕ) (x : ℕ) (o : Load) → (x ≡ 0 → ⊥) → loaded_text l x o ≡ refused_line x o.offset
refused_text l zero o z = absurd (z refl)
refused_text l (suc x) o z = refl

module _ (l : List ℕ) (b : Booked) {number offset : ℕ} {head : Head} {keys sums : List ℤ} {index : List ℕ} {book : List ℤ}
    (A : Loads (head_of (load l b).settings (load l b).booked.room) (load l b) number offset head keys sums index book) where
  abbrev left : Table
  left = table head keys sums index

  settings_left : settings head ≡ (load l b).settings
  settings_left = ap settings A.answers.answers.head_is

  table_left : left ≡ (load l b).booked.table
  table_left = answered A.answers.answers

  -- it is refused
  module _ (z : number ≡ 0 → ⊥) where
    text_refused : text_in l b ≡ refused_line number offset
    text_refused =
        refused_text l (load l b).number (load l b) (λ y. z (A.answers.answers.number_is ∙ y)) ∙ ap₂ refused_line (sym A.answers.answers.number_is) (sym A.offset_is)

    pub refused_room : {size : ℕ} → LentFor l b size → RefusedRoom number offset size
    refused_room G = record {
      offset_most = omega (arith, A.offset_is, load_offset l b, G.taken.short);
      space = rw text_refused at G.space;
    }

    pub refused_written : {o o' : List ℕ} {n : ℕ} → Written o 0 (refused_line number offset) n o' → Written o 0 (text_in l b) n o'
    refused_written w = rw text_refused w

  -- it is taken whole
  module _ (z : number ≡ 0) where
    none : (load l b).number ≡ 0
    none = sym A.answers.answers.number_is ∙ z

    same : settings head ≡ settings_of l
    same = settings_left ∙ load_settings l b none

    text_taken : text_in l b ≡ table_text (settings head) left l
    text_taken = ap (λ (x : ℕ). loaded_text l x (load l b)) none ∙ ap₂ (λ (c : Settings) (t : Table). table_text c t l) (sym settings_left) (sym table_left)

    pub table_room : {size : ℕ} → LentFor l b size → TableRoom (settings head) left l size
    table_room G = record {
      printable = record {
        fine = subst (λ (c : Settings). Fine c left) (sym same) (subst (Fine (settings_of l)) (sym table_left) (load_fine l b none).fine);
        few = subst (λ (c : Settings). c.C ≤ most_log_capacity) (sym same) G.taken.few;
      };
      settings_are = same;
      space = rw text_taken at G.space;
    }

    pub taken_written : {o o' : List ℕ} {n : ℕ} → Written o 0 (table_text (settings head) left l) n o' → Written o 0 (text_in l b) n o'
    taken_written w = rw text_taken w

-- ---- the program's own memory, all 0: of d·C, 2·C and 2·C places, and of 2,048 entries
zeros : {A : Type 0} (k n : ℕ) (z : A) → k ≤ n → take k (replicate n z) ≡ replicate k z
zeros k n z h =
    let q : n ≡ k + (n - k) = omega arith in
    rw (q, ← replicate-append-replicate) (take_at (replicate k z) (replicate (n - k) z) k (length-replicate k z))

abbrev memory : ℕ → ℕ → Booked
memory d C = record {
  table = lent (take (d * C) (replicate 2560 (pos 0))) (take (2 * C) (replicate 1024 (pos 0))) (take (2 * C) (replicate 1024 0));
  room = book_room;
  book = take ((d + 3) * book_room) (replicate 16384 (pos 0));
}

module _ (l : List ℕ) (d C size : ℕ) (S : Settled l d C size) where
  d_small : d ≤ most_d
  d_small = omega (arith, S.d_is, S.taken.ranged.d_most)

  pub kept_most : d * C ≤ 2560
  kept_most = let q : C ≤ most_log_capacity = omega (arith, S.capacity_is, S.taken.few) in mul-le-mul d_small q

  entries_most : (d + 3) * book_room ≤ 16384
  entries_most = let p = d_small in omega arith

  memory_fresh : memory d C ≡ fresh_booked (settings_of l) book_room
  unfolding fresh fresh_booked
  memory_fresh =
      let q : 2 * C ≤ 1024 = omega (arith, S.capacity_is, S.taken.few) in
      let keys = zeros (d * C) 2560 (pos 0) kept_most ∙ ap₂ (λ (d C : ℕ). replicate (d * C) (pos 0)) S.d_is S.capacity_is in
      let sums = zeros (2 * C) 1024 (pos 0) q ∙ ap (λ (C : ℕ). replicate (2 * C) (pos 0)) S.capacity_is in
      let index = zeros {A = ℕ} (2 * C) 1024 0 q ∙ ap (λ (C : ℕ). replicate {A = ℕ} (2 * C) 0) S.capacity_is in
      let book = zeros ((d + 3) * book_room) 16384 (pos 0) entries_most ∙ ap (λ (d : ℕ). replicate ((d + 3) * book_room) (pos 0)) S.d_is in
      λ j. record { table = record { n = 0; m = 0; keys = keys j; sums = sums j; index = index j }; room = book_room; book = book j }

  pub lent_room : LentFor l (memory d C) size
  lent_room =
      let c = settings_of l in
      let T = S.taken in
      subst (λ (b : Booked). LentFor l b size) (sym memory_fresh) (record {
        taken = T;
        space = omega (arith, loaded_fits l (fresh_booked c book_room) T.short T.few, S.space);
      })

  pub log_written : {o o' : List ℕ} {n : ℕ} → Written o 0 (text_in l (memory d C)) n o' → Written o 0 (settled_text 0 l) n o'
  log_written {o} {o'} {n} w = subst (λ (b : Booked). Written o 0 (text_in l b) n o') memory_fresh w
