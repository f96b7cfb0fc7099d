-- A withdrawal that is done takes back the entry that has the number.
use mathlib.Core.Path.{◌≡◌, refl, sym, ap, subst, ◌∙◌}
use mathlib.Core.Logic.{◌≢◌}
use mathlib.Core.Bool.{Bool, true, false, cond}
use mathlib.Core.List.{[], ◌∷◌, ◌++◌}
use Prim.Native.Nat.{ℕ, zero, suc, ◌-◌, ◌<◌}
use native.Mathlib.Decide.{dec_lt}
use native.Mathlib.Omega.{arith}
use lib.Dec.{T}
use lib.IntN.{ℤ}
use Rattle.whole.proofs.Tests.{and_l}
use Rattle.lattice.proofs.Tests.{all_pass}
use Rattle.index.specs.Keys.{eq_z}
use Rattle.index.proofs.Equality.{eq_z_eq}
use Rattle.lattice.specs.Refusals.{number_not_held}
use Rattle.table.specs.Table.{Settings}
use Rattle.book.specs.Book.{Booked, number_at, entry_of, entries, among, OtherNumber}
use Rattle.book.specs.Numbers.{holds_number}
use Rattle.book.specs.Withdraw.{entry_with}
use Rattle.book.specs.Calls.{all_fit, call_tests, withdraw_refusal, after_withdraw}
use Rattle.book.specs.Theorems.{FineBook, WithdrawTakesBack}
use Rattle.book.proofs.Testing.{each_place, to_carries}
use Rattle.book.proofs.Booking.{fine_of}

-- where one of n numbers is k, the entry with k is one of them
the_entry : (n : ℕ) (f : ℕ → ℤ) (k : ℤ) → T (among n f k) → (entry_with n f k - 1 < n) × (f (entry_with n f k - 1) ≡ k)
unfolding entry_with among
the_entry zero f k t = absurd t
the_entry (suc n) f k t = go (eq_z (f n) k) refl t (the_entry n f k)
  where
    go : (b : Bool) → eq_z (f n) k ≡ b → T (cond b true (among n f k)) → (T (among n f k) → (entry_with n f k - 1 < n) × (f (entry_with n f k - 1) ≡ k))
        → (cond b (suc n) (entry_with n f k) - 1 < suc n) × (f (cond b (suc n) (entry_with n f k) - 1) ≡ k)
    go true e h ih = let z : suc n - 1 ≡ n = omega arith in (omega arith, ap f z ∙ eq_z_eq (f n) k (subst T (sym e) tt))
    go false e h ih = let (l, q) = ih h in (omega (arith, l), q)

pub withdraw_takes_back : WithdrawTakesBack
unfolding withdraw_refusal after_withdraw
withdraw_takes_back c b k e =
    let p = all_pass (call_tests c b true ++ ((holds_number c b k, number_not_held) ∷ [])) tt e in
    let (l, q) = the_entry b.table.n (number_at c.d b.book) k p.1.1.1.0 in
    record {
      fine_book = fine_of c b p.0 (and_l (all_fit c b) true p.1.0) p.1.1.0;
      place = entry_with b.table.n (number_at c.d b.book) k - 1;
      inside = l;
      numbered = q;
      after_is = rw (e, after_withdraw);
    }

-- no other entry has it
pub one_place : (c : Settings) (b : Booked) → FineBook c b → (i j : ℕ) → i < b.table.n → j < b.table.n → number_at c.d b.book i ≡ number_at c.d b.book j → i ≡ j
unfolding entries
one_place c b B i j l h e = go (dec_lt i j) (dec_lt j i)
  where
    apart : (i j : ℕ) → i < j → j < b.table.n → number_at c.d b.book i ≢ number_at c.d b.book j
    apart = each_place OtherNumber b.table.n (entry_of c.d b.book) (to_carries c b B.fine B.sound).1.apart

    go : Dec (i < j) → Dec (j < i) → i ≡ j
    go (yes k) o = absurd (apart i j k h e)
    go (no k) (yes m) = absurd (apart j i m l (sym e))
    go (no k) (no m) = omega arith
