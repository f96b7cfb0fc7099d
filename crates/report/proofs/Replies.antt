-- The lines of a log's queries, written one after the other: one item, the items in turn, and the answers by the sheet of blurred pairs. Assumes nothing.
use mathlib.Core.Path.{◌≡◌, refl, sym, ap, ap₂, subst, fun_ext, ◌∙◌}
use mathlib.Core.List.{List, [], ◌++◌, append_assoc, append-nil}
use Prim.Native.Nat.{ℕ, suc, ◌+◌, ◌*◌, ◌<◌, ◌≤◌}
use native.Mathlib.Omega.{arith}
use lib.IntN.{ℤ}
use lib.ListN.{length, take, length-append}
use lib.Seq.{take_at}
use mathlib.Core.Logic.{◌⊎◌, inl, inr}
use Rattle.lattice.specs.declared.refusals.Refusal.{Refusal}
use Rattle.whole.specs.Lists.{All}
use Rattle.table.specs.Table.{Settings, Table}
use Rattle.blur.specs.Blur.{blurred_mass, blurred_value}
use Rattle.blur.specs.Sheet.{blurred_sheet, with_sums}
use Rattle.blur.specs.Inner.{Blurred}
use Rattle.blur.proofs.Sheets.{sheet_length}
use Rattle.filter.specs.Answer.{code, answer}
use Rattle.filter.specs.Inner.{ReplyIs}
use Rattle.filter.proofs.Answers.{smooth, code_same, value_same}
use Rattle.reader.specs.Kinds.{row_of, body_length}
use Rattle.reader.specs.Items.{Item, Of, End, Refused, after_settings, settings_of, item_at, values_of, width_of}
use Rattle.reader.specs.Content.{Said, asks, said_by, said_at}
use Rattle.reader.specs.Walk.{Walk, item_then, walk, queries_in}
use Rattle.reader.specs.Inner.{Says}
use Rattle.reader.specs.declared.kinds.Kind.{Kind}
use Rattle.reader.specs.declared.kinds.Meaning.{Meaning}
use Rattle.reader.specs.declared.kinds.Meaning.TheVariants.{Reads, Asks, Refuses}
use Rattle.reader.proofs.Forms.{Stood, of_form}
use Rattle.reader.proofs.Walking.{walk_step}
use Rattle.reader.proofs.Contents.{said_by_lem, query_sized}
use Rattle.text.specs.Text.{Written}
use Rattle.text.proofs.Lines.{written_nothing, written_then, written_room}
use Rattle.report.specs.Report.{answer_line, answer_lines, query_text, per_query}
use Rattle.report.specs.Inner.{reply_line, ReplyRoom, RepliesRoom, AnswersRoom}

-- ---- one item
-- what it adds to the text
abbrev pub item_text : Settings → Table → List ℕ → ℕ → Kind → List ℕ
item_text c t l a k = query_text (reply_line c t) (said_at l a k)

module _ {c : Settings} {t : Table} {l : List ℕ} {a : ℕ} {k : Kind} {at size : ℕ} (R : ReplyRoom c t l a k at size) where
  pub an_item : Stood l a k
  an_item = of_form l a (Of k) R.item_is

  abbrev values : List ℤ
  values = values_of l a (Of k)

  -- where it means a query
  module _ {old ns : List ℤ} {m : Meaning} (p : Says l a k old m ns) (y : m ≡ Asks) where
    said_is : said_at l a k ≡ asks values
    said_is = sym (said_by_lem l a k (sym y ∙ p.means_is))

    asked_size : length values ≡ suc c.d
    asked_size = (subst (λ (s : Said). All (λ q. length q ≡ suc (settings_of l).d) (queries_in s)) said_is (query_sized l a k an_item)).0
        ∙ ap (λ (b : Settings). suc b.d) (sym R.settings_are)

    abbrev part : List ℤ
    part = take (c.d + 1) ns

    part_of : part ≡ values
    part_of = ap (take (c.d + 1)) p.after_is ∙ take_at values _ (c.d + 1) (omega (arith, asked_size))

    pub query_size : length part ≡ suc c.d
    query_size = ap length part_of ∙ asked_size

    module _ {value : ℤ} {code : ℕ} (r : ReplyIs c t part value code) where
      line_is : answer_line value code ≡ item_text c t l a k
      line_is = ap₂ answer_line r.value_is r.code_is ∙ ap (reply_line c t) part_of ∙ ap (query_text (reply_line c t)) (sym said_is)

      pub query_room : at + length (answer_line value code) ≤ size
      query_room = rw line_is R.space

      pub query_done : {o out : List ℕ} {next : ℕ} → Written o at (answer_line value code) next out → Written o at (item_text c t l a k) next out
      query_done w = rw line_is at w

-- an item that is no query adds nothing
no_text : (f : List ℤ → List ℕ) (d : ℕ) (ns : List ℤ) (m : Meaning) → ((x : ℕ) × (m ≡ Reads x)) ⊎ ((x : Refusal) × (m ≡ Refuses x)) → [] ≡ query_text f (said_by m d ns)
no_text f d ns m (inl (x, e)) = rw e refl
no_text f d ns m (inr (x, e)) = rw e refl

pub no_query : (c : Settings) (t : Table) (l : List ℕ) (a : ℕ) (k : Kind) (o : List ℕ) (at : ℕ) {m : Meaning} → m ≡ (row_of k.family).means → ((x : ℕ) × (m ≡ Reads x)) ⊎ ((x : Refusal) × (m ≡ Refuses x)) → Written o at (item_text c t l a k) at o
no_query c t l a k o at {m} f h =
    subst (λ (x : List ℕ). Written o at x at o) (no_text (reply_line c t) k.d (values_of l a (Of k)) m h ∙ ap (query_text (reply_line c t)) (said_by_lem l a k f)) (written_nothing o at)

-- ---- the items in turn
module _ (c : Settings) (t : Table) (l : List ℕ) where
  last_text : (a : ℕ) (i : Item) (w : Walk) → width_of i ≡ 0 → per_query (reply_line c t) (item_then l a i w) ≡ []
  unfolding per_query
  last_text a (Of k) w z = absurd (omega arith)
  last_text a End w z = refl
  last_text a (Refused x) w z = refl

  -- the lines from an offset on
  abbrev lines_from : ℕ → List ℕ
  lines_from a = per_query (reply_line c t) (walk l a)

-- What is written before an item, and the lines of the rest: together they are the lines of all queries.
pub record Replying (c : Settings) (t : Table) (l o : List ℕ) (a next : ℕ) (out : List ℕ) (offset : ℕ) : Type 0 where
  pub done : List ℕ
  pub written : Written o a done next out
  pub whole : done ++ lines_from c t l offset ≡ lines_from c t l after_settings
  pub later : 0 < offset

pub replies_start : (c : Settings) (t : Table) (l o : List ℕ) (a : ℕ) → Replying c t l o a a o after_settings
replies_start c t l o a = record { done = []; written = written_nothing o a; whole = refl; later = omega arith }

module _ {c : Settings} {t : Table} {l o : List ℕ} {a next : ℕ} {out : List ℕ} {offset : ℕ} (R : RepliesRoom c t l a (length o))
    (P : Replying c t l o a next out offset) where
  -- an item of a kind is left
  module _ {k : Kind} (e : Of k ≡ item_at l offset) {after : ℕ} (behind : after ≡ offset + suc (body_length k)) where
    abbrev text : List ℕ
    text = item_text c t l offset k

    ahead : lines_from c t l offset ≡ text ++ lines_from c t l after
    unfolding per_query
    ahead = rw behind (ap (per_query (reply_line c t)) (walk_step l offset ∙ ap (λ (i : Item). item_then l offset i (walk l (offset + width_of i))) (sym e)))

    all_lines : (P.done ++ text) ++ lines_from c t l after ≡ lines_from c t l after_settings
    all_lines = append_assoc P.done text (lines_from c t l after) ∙ ap (λ (x : List ℕ). P.done ++ x) (sym ahead) ∙ P.whole

    space_left : a + length P.done + length text ≤ length o
    space_left = let q = ap length all_lines in omega (arith, rw (length-append, length-append) at q, R.space)

    pub reply_room : ReplyRoom c t l offset k next (length out)
    reply_room = record {
      smooth = R.smooth;
      settings_are = R.settings_are;
      item_is = e;
      space = written_room (length text) P.written space_left;
    }

    pub replies_more : {next' : ℕ} {out' : List ℕ} → Written out next text next' out' → Replying c t l o a next' out' after
    replies_more w = record {
      done = P.done ++ text;
      written = written_then P.written w space_left;
      whole = all_lines;
      later = omega (arith, P.later, behind);
    }

  -- none is
  pub replies_end : {i : Item} → i ≡ item_at l offset → width_of i ≡ 0 → Written o a (lines_from c t l after_settings) next out
  replies_end {i} e z = rw (← P.whole, walk_step l offset, ← e, last_text c t l offset i (walk l (offset + width_of i)) z, append-nil) P.written

-- ---- the answers, by the sheet that the blur leaves
module _ {c : Settings} {t : Table} {l : List ℕ} {at size : ℕ} (R : AnswersRoom c t l at size) {first second : List ℤ} (B : Blurred c t first second) where
  blurred_size : length first ≡ 2 * c.C
  blurred_size = ap length B.first_is ∙ sheet_length c t (blurred_mass c t) (blurred_value c t) R.printable.fine.sound.indexed.sparse.room

  -- as it is lent, from the array that it was made in
  sheet_is : (rest : List ℤ) → take (2 * c.C) (first ++ rest) ≡ blurred_sheet c t
  sheet_is rest = take_at first rest (2 * c.C) blurred_size ∙ B.first_is

  line_same : reply_line c (with_sums t (blurred_sheet c t)) ≡ (λ q. answer_line (answer c t q) (code c t q))
  line_same = fun_ext (λ q. ap₂ answer_line (value_same c t R.printable.fine q) (code_same c t R.printable.fine q))

  lines_same : (rest : List ℤ) (w : Walk) → per_query (reply_line c (with_sums t (take (2 * c.C) (first ++ rest)))) w ≡ answer_lines c t w
  lines_same rest w = ap (λ (s : List ℤ). per_query (reply_line c (with_sums t s)) w) (sheet_is rest) ∙ ap (λ (f : List ℤ → List ℕ). per_query f w) line_same

  pub answers_room : (rest : List ℤ) → RepliesRoom c (with_sums t (take (2 * c.C) (first ++ rest))) l at size
  answers_room rest = record {
    smooth = rw (sheet_is rest) (smooth c t R.printable.fine);
    settings_are = R.settings_are;
    space = rw (lines_same rest (walk l after_settings)) R.space;
  }

  pub answers_done : (rest : List ℤ) {o out : List ℕ} {next : ℕ}
      → Written o at (per_query (reply_line c (with_sums t (take (2 * c.C) (first ++ rest)))) (walk l after_settings)) next out
      → Written o at (answer_lines c t (walk l after_settings)) next out
  answers_done rest w = rw (lines_same rest (walk l after_settings)) at w
