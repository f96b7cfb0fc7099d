-- What a fresh call answers, by the tests that the code has made of its settings and of the lengths of its slices; and which way the calls go: done where
-- the refusal is 0, and all or nothing.
use mathlib.Core.Path.{◌≡◌, refl, ap, sym, ◌∙◌}
use mathlib.Core.Bool.{true, false}
use mathlib.Core.List.{List}
use Prim.Native.Nat.{ℕ, zero, suc, ◌+◌, ◌*◌}
use lib.Dec.{T, eqb, eqb→eq}
use lib.IntN.{ℤ, pos}
use lib.ListN.{length, replicate}
use Rattle.whole.proofs.Tests.{and_l, and_r}
use Rattle.lattice.specs.Refusals.{first, settings_out_of_range, other_length}
use Rattle.lattice.proofs.Tests.{all_pass}
use Rattle.table.specs.declared.Head.{Head}
use Rattle.table.specs.Table.{Settings}
use Rattle.table.specs.Calls.{fits, lent, fresh}
use Rattle.table.specs.Heads.{head_of, with_counts}
use Rattle.table.proofs.Soundness.{to_shape}
use Rattle.table.proofs.Refusals.{T_of}
use Rattle.book.specs.Book.{Booked}
use Rattle.book.specs.Calls.{in_range, all_fit, lent_book, fresh_refusal, fresh_booked, after_fresh, parsed, enter_all, enter_refusal, enter, merge_refusal, merged, after_merge}
use Rattle.book.specs.Heads.{AnswersBook}

-- ---- which way a call goes
pub fresh_done : (c : Settings) (b : Booked) → fresh_refusal c b ≡ 0 → after_fresh c b ≡ fresh_booked c b.room
unfolding after_fresh
fresh_done c b e = rw (e, after_fresh)

pub fresh_refused : (c : Settings) (b : Booked) (x : ℕ) → fresh_refusal c b ≡ suc x → after_fresh c b ≡ lent_book b
unfolding after_fresh
fresh_refused c b x e = rw (e, after_fresh)

pub enter_done : (c : Settings) (b : Booked) (l : List ℤ) → enter_refusal c b l ≡ 0 → enter c b l ≡ enter_all c b (parsed c.d l)
unfolding enter
enter_done c b l e = rw (e, enter)

pub enter_refused : (c : Settings) (b : Booked) (l : List ℤ) (x : ℕ) → enter_refusal c b l ≡ suc x → enter c b l ≡ record { taken = 0; number = suc x; booked = b }
unfolding enter
enter_refused c b l x e = rw (e, enter)

pub merge_done : (c : Settings) (b : Booked) (e : Settings) (s : Booked) → merge_refusal c b e s ≡ 0 → after_merge c b e s ≡ merged c b e s
unfolding after_merge
merge_done c b e s z = rw (z, after_merge)

pub merge_refused : (c : Settings) (b : Booked) (e : Settings) (s : Booked) (x : ℕ) → merge_refusal c b e s ≡ suc x → after_merge c b e s ≡ b
unfolding after_merge
merge_refused c b e s x z = rw (z, after_merge)

-- ---- a fresh call hands back the head of its settings, made or refused
module _ (c : Settings) (b : Booked) where
  pub none_held : (x : ℕ) → fresh_refusal c b ≡ x → (B : ℕ) → head_of c B ≡ with_counts (head_of c B) (after_fresh c b).table.n (after_fresh c b).table.m
  unfolding fresh fresh_booked
  none_held zero e B = rw (fresh_done c b e) refl
  none_held (suc x) e B = rw (fresh_refused c b x e) refl

  -- so a caller who has the settings can do without the head that is handed back; it is for such a one, and no crate here cites it
  pub no_counts : (B : ℕ) {x number : ℕ} {head : Head} {keys sums : List ℤ} {index : List ℕ} {book : List ℤ} → number ≡ x
      → AnswersBook (head_of c B) (fresh_refusal c b) (after_fresh c b) x head keys sums index book
      → AnswersBook (head_of c B) (fresh_refusal c b) (after_fresh c b) number (head_of c B) keys sums index book
  no_counts B e A = record {
    answers = record {
      number_is = e ∙ A.answers.number_is;
      head_is = none_held (fresh_refusal c b) refl B;
      keys_are = A.answers.keys_are;
      sums_are = A.answers.sums_are;
      index_are = A.answers.index_are;
    };
    book_is = A.book_is;
  }

-- ---- what a fresh call answers
module _ (c : Settings) (room : ℕ) (keys sums : List ℤ) (index : List ℕ) (book : List ℤ) where
  abbrev given : Booked
  given = record { table = lent keys sums index; room = room; book = book }

  abbrev Fresh : ℕ → List ℤ → List ℤ → List ℕ → List ℤ → Type 0
  Fresh number k s i l = AnswersBook (head_of c room) (fresh_refusal c given) (after_fresh c given) number (head_of c room) k s i l

  -- the table that is left, and what its parts are
  answered : (x : ℕ) (b : Booked) {k s : List ℤ} {i : List ℕ} {l : List ℤ} → fresh_refusal c given ≡ x → after_fresh c given ≡ b
      → k ≡ b.table.keys → s ≡ b.table.sums → i ≡ b.table.index → l ≡ b.book → Fresh x k s i l
  answered x b e a p q o r = record {
    answers = record {
      number_is = sym e;
      head_is = none_held c given x e room;
      keys_are = p ∙ ap (λ (b : Booked). b.table.keys) (sym a);
      sums_are = q ∙ ap (λ (b : Booked). b.table.sums) (sym a);
      index_are = o ∙ ap (λ (b : Booked). b.table.index) (sym a);
    };
    book_is = r ∙ ap (λ (b : Booked). b.book) (sym a);
  }

  refused : (x : ℕ) → fresh_refusal c given ≡ suc x → Fresh (suc x) keys sums index book
  refused x e = answered (suc x) (lent_book given) e (fresh_refused c given x e) refl refl refl refl

  pub fresh_one : in_range c given ≡ false → Fresh settings_out_of_range keys sums index book
  unfolding fresh_refusal first
  fresh_one e = refused 0 (rw e refl)

  pub fresh_two : in_range c given ≡ true → all_fit c given ≡ false → Fresh other_length keys sums index book
  unfolding fresh_refusal first
  fresh_two e f = refused 1 (rw (e, f) refl)

  none : in_range c given ≡ true → all_fit c given ≡ true → fresh_refusal c given ≡ 0
  unfolding fresh_refusal first
  none e f = rw (e, f) refl

  pub fresh_made : {k s : List ℤ} {i : List ℕ} {l : List ℤ} → in_range c given ≡ true → all_fit c given ≡ true → k ≡ replicate (length keys) (pos 0) → s ≡ replicate (length sums) (pos 0)
      → i ≡ replicate (length index) 0 → l ≡ replicate (length book) (pos 0) → Fresh 0 k s i l
  unfolding fresh fresh_booked
  fresh_made e f p q o r =
      let z = none e f in
      let fit = fits c given.table in
      let size = eqb (length book) ((c.d + 3) * room) in
      let h = to_shape c given.table (and_l fit size (T_of f)) in
      let w = eqb→eq (length book) ((c.d + 3) * room) (and_r fit size (T_of f)) in
      answered 0 (fresh_booked c room) z (fresh_done c given z)
      (p ∙ ap (λ (n : ℕ). replicate n (pos 0)) h.keys)
      (q ∙ ap (λ (n : ℕ). replicate n (pos 0)) h.sums)
      (o ∙ ap (λ (n : ℕ). replicate n 0) h.index)
      (r ∙ ap (λ (n : ℕ). replicate n (pos 0)) w)

-- ---- what an accepted one has
pub fresh_open : (c : Settings) (b : Booked) → fresh_refusal c b ≡ 0 → T (in_range c b) × T (all_fit c b)
unfolding fresh_refusal
fresh_open c b z = let p = all_pass _ tt z in (p.0, p.1.0)
