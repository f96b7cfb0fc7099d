-- Entry j leaves table and book: what each step asks, and what is left then.
use mathlib.Core.Path.{◌≡◌, sym, ap, subst, ◌∙◌}
use mathlib.Core.List.{List}
use Prim.Native.Nat.{ℕ, ◌+◌, ◌*◌, ◌-◌, ◌≤◌, ◌<◌}
use native.Mathlib.Omega.{arith}
use lib.IntN.{ℤ}
use lib.ListN.{length, take, drop}
use Rattle.lattice.specs.Limits.{most_d, most_readings}
use Rattle.index.specs.Keys.{key_at}
use Rattle.index.proofs.Finding.{keys_apart}
use Rattle.table.specs.Table.{Settings, Table, key, keys_of, entry}
use Rattle.table.specs.Reading.{Reading, reading_of, shares, Lawful}
use Rattle.table.specs.Pour.{news}
use Rattle.table.specs.Sound.{Fine}
use Rattle.book.specs.Book.{Booked, entry_of}
use Rattle.book.specs.Withdraw.{lowered, leave, afresh, withdrawn, closed, without}
use Rattle.book.specs.Heads.{HoldsBook}
use Rattle.book.specs.Theorems.{FineBook}
use Rattle.book.proofs.Testing.{entry_lawful, entry_stored}
use Rattle.book.proofs.Entries.{entry_inside, entries_few, part_reading, part_size}
use Rattle.book.proofs.Keeping.{withdraw_keeps}
use Rattle.book.proofs.Fine.{book_long}
use Rattle.withdraw.specs.Inner.{Renameable, Lowerable}

module _ (c : Settings) (b : Booked) (B : FineBook c b) (j : ℕ) (l : j < b.table.n) where
  abbrev t : Table
  t = b.table

  pub entry_in : (c.d + 3) * j + (c.d + 3) ≤ length b.book
  entry_in = omega (arith, book_long c b B, entry_inside c.d t.n j l)

  pub entry_low : (c.d + 3) * j + (c.d + 3) ≤ (most_d + 3) * most_readings
  entry_low = omega (arith, entry_inside c.d t.n j l, entries_few c.d t.n B.fine.ranged.d_most B.fine.sound.few)

  pub can_close : (c.d ≤ most_d) × (t.n ≤ most_readings) × (j < t.n) × ((c.d + 3) * t.n ≤ length b.book)
  can_close = (B.fine.ranged.d_most, B.fine.sound.few, l, book_long c b B)

  -- the reading as the code lends it, behind the number of its entry
  module _ (from to : ℕ) (begins : from ≡ (c.d + 3) * j + 1) (ends : to ≡ (c.d + 3) * j + (c.d + 3)) where
    abbrev lent : List ℤ
    lent = take (to - from) (drop from b.book)

    is_entry : reading_of c.d lent ≡ (entry_of c.d b.book j).reading
    is_entry = part_reading c.d b.book j from to begins ends

    pub can_lower : Lowerable c t lent
    can_lower = record {
      fine = B.fine;
      size = part_size c.d b.book j from to begins ends entry_in;
      lawful = subst (Lawful c.d) (sym is_entry) (entry_lawful c b B.fine B.sound j l);
      stored = ap (λ (r : Reading). news c t (keys_of (shares c.d c.S r))) is_entry ∙ entry_stored c b B.fine B.sound j l;
    }

    -- the table that is left, but for its index
    abbrev left : Table
    left = let rs = shares c.d c.S (entry_of c.d b.book j).reading in leave c (lowered c t rs) rs

    module _ {w : Table} (e : w ≡ (let rs = shares c.d c.S (reading_of c.d lent) in leave c (lowered c t rs) rs)) where
      left_is : w ≡ left
      left_is = e ∙ ap (λ (r : Reading). let rs = shares c.d c.S r in leave c (lowered c t rs) rs) is_entry

      pub can_name : {index : List ℕ} → length index ≡ 2 * c.C → Renameable c.d c.C w.m w.keys index
      unfolding withdrawn
      can_name {index} q = subst (λ (u : Table). Renameable c.d c.C u.m u.keys index) (sym left_is) (record {
        C_least = F.ranged.C_least;
        C_most = F.ranged.C_most;
        room = F.sound.indexed.sparse.room;
        stretches = F.shape.keys;
        places = q;
        apart = keys_apart c.C left.m (key c left) (entry (without c b j).table) F.ranged.C_least F.sound.indexed;
      })
        where
          F : Fine c (without c b j).table
          F = (withdraw_keeps c b j B l).fine_book.fine

      pub taken_back : {index : List ℕ} {book : List ℤ} → index ≡ afresh c.C (key_at c.d w.keys) w.m → book ≡ closed c.d t.n j b.book → HoldsBook (without c b j) w.m w.keys w.sums index book
      unfolding withdrawn
      taken_back f g = record {
        holds = record {
          points_are = ap (λ (u : Table). u.m) left_is;
          keys_are = ap (λ (u : Table). u.keys) left_is;
          sums_are = ap (λ (u : Table). u.sums) left_is;
          index_are = f ∙ ap (λ (u : Table). afresh c.C (key c u) u.m) left_is;
        };
        book_is = g;
      }
