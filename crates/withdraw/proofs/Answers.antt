-- What the call answers and leaves: where one of 1, 2 and 3 is met, where no reading has the number, and where one has.
use mathlib.Core.Path.{◌≡◌, refl, sym, ap, ◌∙◌}
use mathlib.Core.Logic.{◌≢◌}
use mathlib.Core.Bool.{Bool, true, false, not, cond}
use mathlib.Core.List.{List, [], ◌∷◌}
use Prim.Native.Nat.{ℕ, zero, suc, ◌-◌}
use native.Mathlib.Omega.{arith}
use lib.Dec.{eqb, eqb-suc-zero}
use lib.IntN.{ℤ}
use Rattle.whole.proofs.Tests.{and_l}
use Rattle.lattice.specs.Refusals.{first, number_not_held}
use Rattle.lattice.proofs.Tests.{all_pass, first_stops, first_passes}
use Rattle.index.specs.Keys.{eq_z}
use Rattle.table.specs.declared.Head.{Head}
use Rattle.table.specs.Heads.{settings, with_counts}
use Rattle.table.specs.Table.{Settings}
use Rattle.book.specs.Book.{Booked, number_at, among}
use Rattle.book.specs.Numbers.{holds_number}
use Rattle.book.specs.Withdraw.{entry_with, withdrawn, without}
use Rattle.book.specs.Calls.{all_fit, call_tests, call_refusal, withdraw_refusal, after_withdraw}
use Rattle.book.specs.Heads.{booked, HoldsBook, AnswersBook}
use Rattle.book.specs.Theorems.{FineBook}
use Rattle.book.proofs.Booking.{fine_of}

-- ---- a number is held where an entry has it
held_place : (n : ℕ) (f : ℕ → ℤ) (k : ℤ) → among n f k ≡ not (eqb (entry_with n f k) 0)
unfolding entry_with among
held_place zero f k = refl
held_place (suc n) f k = go (eq_z (f n) k) (held_place n f k)
  where
    go : (b : Bool) → among n f k ≡ not (eqb (entry_with n f k) 0) → cond b true (among n f k) ≡ not (eqb (cond b (suc n) (entry_with n f k)) 0)
    go true ih = ap not (sym (eqb-suc-zero n))
    go false ih = ih

-- ---- which way the call goes
module _ (c : Settings) (b : Booked) (k : ℤ) where
  withdraw_done : withdraw_refusal c b k ≡ 0 → after_withdraw c b k ≡ without c b (entry_with b.table.n (number_at c.d b.book) k - 1)
  unfolding after_withdraw
  withdraw_done e = rw (e, after_withdraw)

  withdraw_refused : (x : ℕ) → withdraw_refusal c b k ≡ x → x ≢ 0 → after_withdraw c b k ≡ b
  unfolding after_withdraw
  withdraw_refused zero e n = absurd (n refl)
  withdraw_refused (suc x) e n = rw (e, after_withdraw)

  -- one of 1, 2 and 3 is met
  told_before : {x : ℕ} → x ≡ call_refusal c b true → x ≢ 0 → withdraw_refusal c b k ≡ x
  unfolding call_refusal withdraw_refusal
  told_before e n = first_stops (call_tests c b true) _ (λ z. n (e ∙ z)) ∙ sym e

  -- or none
  module _ (e : call_refusal c b true ≡ 0) where
    pub fine : FineBook c b
    unfolding call_refusal
    fine = let p = all_pass (call_tests c b true) tt e in fine_of c b p.0 (and_l (all_fit c b) true p.1.0) p.1.1.0

    by_number : withdraw_refusal c b k ≡ first ((holds_number c b k, number_not_held) ∷ [])
    unfolding call_refusal withdraw_refusal
    by_number = first_passes (call_tests c b true) _ tt e

    is_held : {place : ℕ} → place ≡ entry_with b.table.n (number_at c.d b.book) k → holds_number c b k ≡ not (eqb place 0)
    is_held p = held_place b.table.n (number_at c.d b.book) k ∙ ap (λ (x : ℕ). not (eqb x 0)) (sym p)

    told_none : 0 ≡ entry_with b.table.n (number_at c.d b.book) k → withdraw_refusal c b k ≡ number_not_held
    unfolding first
    told_none p = by_number ∙ ap (λ (x : Bool). first ((x, number_not_held) ∷ [])) (is_held p)

    told_done : {j : ℕ} → suc j ≡ entry_with b.table.n (number_at c.d b.book) k → withdraw_refusal c b k ≡ 0
    unfolding first
    told_done {j} p = by_number ∙ ap (λ (x : Bool). first ((x, number_not_held) ∷ [])) (is_held p ∙ ap not (eqb-suc-zero j))

-- ---- what it answers
module _ (h : Head) (keys sums : List ℤ) (index : List ℕ) (book : List ℤ) (k : ℤ) where
  abbrev c : Settings
  c = settings h

  abbrev b : Booked
  b = booked h keys sums index book

  abbrev Withdraws : ℕ → Head → List ℤ → List ℤ → List ℕ → List ℤ → Type 0
  Withdraws = AnswersBook h (withdraw_refusal c b k) (after_withdraw c b k)

  -- refused, nothing is changed
  stays : (x : ℕ) → withdraw_refusal c b k ≡ x → x ≢ 0 → Withdraws x h keys sums index book
  stays x e n = let a = sym (withdraw_refused c b k x e n) in record {
    answers = record {
      number_is = sym e;
      head_is = ap (λ (u : Booked). with_counts h u.table.n u.table.m) a;
      keys_are = ap (λ (u : Booked). u.table.keys) a;
      sums_are = ap (λ (u : Booked). u.table.sums) a;
      index_are = ap (λ (u : Booked). u.table.index) a;
    };
    book_is = ap (λ (u : Booked). u.book) a;
  }

  pub refused : (x : ℕ) → x ≡ call_refusal c b true → x ≢ 0 → Withdraws x h keys sums index book
  refused x e n = stays x (told_before c b k e n) n

  module _ (e : call_refusal c b true ≡ 0) where
    pub not_held : 0 ≡ entry_with b.table.n (number_at c.d b.book) k → Withdraws number_not_held h keys sums index book
    not_held p = stays number_not_held (told_none c b k e p) (λ y. omega (arith, y))

    pub done : {j : ℕ} → suc j ≡ entry_with b.table.n (number_at c.d b.book) k
        → {points : ℕ} {keys' sums' : List ℤ} {index' : List ℕ} {book' : List ℤ} → HoldsBook (without c b j) points keys' sums' index' book'
        → {h' : Head} → h' ≡ with_counts h (h.readings - 1) points → Withdraws 0 h' keys' sums' index' book'
    unfolding withdrawn
    done {j} p {points} L q =
        let is_j : j ≡ entry_with b.table.n (number_at c.d b.book) k - 1 = omega (arith, p) in
        let a : without c b j ≡ after_withdraw c b k = ap (without c b) is_j ∙ sym (withdraw_done c b k (told_done c b k e p)) in
        record {
          answers = record {
            number_is = sym (told_done c b k e p);
            head_is = q ∙ ap (with_counts h (h.readings - 1)) L.holds.points_are ∙ ap (λ (u : Booked). with_counts h u.table.n u.table.m) a;
            keys_are = L.holds.keys_are ∙ ap (λ (u : Booked). u.table.keys) a;
            sums_are = L.holds.sums_are ∙ ap (λ (u : Booked). u.table.sums) a;
            index_are = L.holds.index_are ∙ ap (λ (u : Booked). u.table.index) a;
          };
          book_is = L.book_is ∙ ap (λ (u : Booked). u.book) a;
        }
