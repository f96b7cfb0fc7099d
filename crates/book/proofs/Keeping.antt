-- Withdrawing keeps a table sound with its book.
use mathlib.Core.Path.{◌≡◌, sym, subst, ◌∙◌}
use mathlib.Core.List.{List, ◌∷◌, ◌++◌}
use Prim.Native.Nat.{ℕ, ◌+◌, ◌*◌, ◌-◌, ◌≤◌}
use native.Mathlib.Nat.{mul-le-mul_left}
use native.Mathlib.Omega.{arith}
use lib.IntN.{ℤ}
use lib.ListN.{length}
use Rattle.table.specs.Sound.{Fine}
use Rattle.book.specs.Book.{entry_of, entries, Carries}
use Rattle.book.specs.Withdraw.{withdrawn, closed, without}
use Rattle.book.specs.Theorems.{WithdrawKeeps}
use Rattle.book.proofs.Testing.{to_carries, of_carries}
use Rattle.book.proofs.Entries.{ahead, after, entries_with, entries_without, closed_length}
use Rattle.book.proofs.Withdrawing.{withdrawn_fine, withdrawn_carries}

pub withdraw_keeps : WithdrawKeeps
unfolding withdrawn
withdraw_keeps c b j B less = record {
  fine_book = record {
    fine = fine;
    room_least = B.room_least;
    room_most = B.room_most;
    lengths = closed_length d n j l less fit ∙ B.lengths;
    sound = of_carries c (without c b j) fine few (subst (Carries c (without c b j).table) (sym held_after) carries);
  };
  before = ahead d n j l less fit;
  behind = after d n j l less fit;
  held = entries_with d n j l less fit;
  holds = held_after;
  carries = carries;
}
  where
    d : ℕ
    d = c.d

    n : ℕ
    n = b.table.n

    l : List ℤ
    l = b.book

    C : (b.table.n ≤ b.room) × Carries c b.table (entries c.d b.table.n b.book)
    C = to_carries c b B.fine B.sound

    fit : (c.d + 3) * b.table.n ≤ length b.book
    fit = let h : (c.d + 3) * b.table.n ≤ (c.d + 3) * b.room = mul-le-mul_left (c.d + 3) C.0 in omega (arith, B.lengths)

    K : Carries c b.table (ahead d n j l less fit ++ (entry_of c.d b.book j ∷ after d n j l less fit))
    K = subst (Carries c b.table) (entries_with d n j l less fit) C.1

    fine : Fine c (withdrawn c b.table (entry_of c.d b.book j).reading)
    fine = withdrawn_fine c b.table B.fine (ahead d n j l less fit) (after d n j l less fit) (entry_of c.d b.book j) K

    carries : Carries c (withdrawn c b.table (entry_of c.d b.book j).reading) (ahead d n j l less fit ++ after d n j l less fit)
    carries = withdrawn_carries c b.table B.fine (ahead d n j l less fit) (after d n j l less fit) (entry_of c.d b.book j) K

    few : b.table.n - 1 ≤ b.room
    few = omega (arith, C.0)

    held_after : entries c.d (b.table.n - 1) (closed c.d b.table.n j b.book) ≡ ahead d n j l less fit ++ after d n j l less fit
    held_after = entries_without d n j l less fit
