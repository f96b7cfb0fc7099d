-- What the tests of a table with its book decide together: that it is sound, and by which number a call on it is refused.
use mathlib.Core.Path.{◌≡◌, refl, sym, ◌∙◌}
use mathlib.Core.Bool.{Bool, true, false}
use Prim.Native.Nat.{suc, ◌+◌, ◌*◌, ◌≤◌, ◌<◌}
use native.Mathlib.Nat.{mul-le-mul_left}
use native.Mathlib.Omega.{arith}
use lib.Dec.{eqb→eq}
use lib.ListN.{length}
use borrow.Author.Tests.{le-leb, lt-leb}
use Rattle.whole.specs.Sum.{all}
use Rattle.whole.proofs.Lists.{length_tab}
use Rattle.whole.proofs.Tests.{all_at}
use Rattle.lattice.specs.Limits.{most_d, most_readings}
use Rattle.lattice.specs.Refusals.{first, settings_out_of_range, other_length, not_sound}
use Rattle.table.specs.Table.{Settings, Table}
use Rattle.table.specs.Reading.{own_refusal}
use Rattle.table.specs.Sound.{sound, Ranged, Shape}
use Rattle.table.proofs.Refusals.{T_of}
use Rattle.table.proofs.Limits.{to_lawful}
use Rattle.table.proofs.Soundness.{to_sound}
use Rattle.book.specs.Book.{Booked, number_at, entry_of, keeps_limits, numbers_apart, sums_theirs, book_sound, sound_with_book}
use Rattle.book.specs.Calls.{in_range, all_fit, call_refusal}
use Rattle.spread.specs.Spreading.{Comparable}

-- ---- soundness with the book
module _ (c : Settings) (b : Booked) where
  abbrev t : Table
  t = b.table

  abbrev pub lawful : Bool
  lawful = all t.n (λ j. keeps_limits (entry_of c.d b.book j).reading)

  abbrev pub apart : Bool
  apart = numbers_apart t.n (number_at c.d b.book)

  abbrev theirs : Bool
  theirs = sums_theirs c t (λ j. (entry_of c.d b.book j).reading)

  pub not_sound_alone : sound c t ≡ false → false ≡ sound_with_book c b
  not_sound_alone e = sym (rw e refl)

  module _ (e : sound c t ≡ true) where
    pub no_room : b.room < t.n → false ≡ sound_with_book c b
    unfolding book_sound
    no_room h = sym (rw (e, lt-leb t.n b.room h) refl)

    module _ (h : t.n ≤ b.room) where
      pub not_lawful : lawful ≡ false → false ≡ sound_with_book c b
      unfolding book_sound
      not_lawful l = sym (rw (e, le-leb t.n b.room h, l) refl)

      module _ (l : lawful ≡ true) where
        pub not_apart : apart ≡ false → false ≡ sound_with_book c b
        unfolding book_sound
        not_apart a = sym (rw (e, le-leb t.n b.room h, l, a) refl)

        pub by_sums : apart ≡ true → {r : Bool} → r ≡ theirs → r ≡ sound_with_book c b
        unfolding book_sound
        by_sums a q = q ∙ sym (rw (e, le-leb t.n b.room h, l, a) refl)

  -- what the tests of the entries ask, and what the comparison does
  module _ (R : Ranged c) (S : Shape c t) (few : b.room ≤ most_readings) (size : length b.book ≡ (c.d + 3) * b.room) (h : t.n ≤ b.room) where
    pub entries_in : (c.d ≤ most_d) × (t.n ≤ most_readings) × ((c.d + 3) * t.n ≤ length b.book)
    entries_in = (R.d_most, omega (arith, few, h), omega (arith, size, mul-le-mul_left (c.d + 3) h))

    pub comparable : sound c t ≡ true → lawful ≡ true → Comparable c t b.book
    comparable e l = record {
      fine = record { ranged = R; shape = S; sound = to_sound c t (T_of e) };
      fit = entries_in.2;
      lawful = λ j k. let r = (entry_of c.d b.book j).reading in
          to_lawful r c.d (length_tab (suc c.d) _) (eqb→eq (own_refusal r) 0 (all_at t.n (λ j. keeps_limits (entry_of c.d b.book j).reading) (T_of l) j k));
    }

-- ---- 1, 2 and 3
module _ (c : Settings) (b : Booked) (more : Bool) where
  pub call_one : in_range c b ≡ false → settings_out_of_range ≡ call_refusal c b more
  unfolding call_refusal first
  call_one e = sym (rw e refl)

  module _ (e : in_range c b ≡ true) where
    pub call_two : all_fit c b ≡ false → other_length ≡ call_refusal c b more
    unfolding call_refusal first
    call_two f = sym (rw (e, f) refl)

    module _ (f : all_fit c b ≡ true) where
      pub call_more : more ≡ false → other_length ≡ call_refusal c b more
      unfolding call_refusal first
      call_more m = sym (rw (e, f, m) refl)

      pub call_three : more ≡ true → sound_with_book c b ≡ false → not_sound ≡ call_refusal c b more
      unfolding call_refusal first
      call_three m s = sym (rw (e, f, m, s) refl)

      pub call_none : more ≡ true → sound_with_book c b ≡ true → 0 ≡ call_refusal c b more
      unfolding call_refusal first
      call_none m s = sym (rw (e, f, m, s) refl)
