-- The refusals of a merge in their order: of each table, then of the two together.
use mathlib.Core.Path.{◌≡◌, refl, sym, ap, ◌∙◌}
use mathlib.Core.Bool.{Bool, true, false}
use mathlib.Core.List.{List}
use Prim.Native.Nat.{ℕ, ◌+◌, ◌*◌, ◌≤◌, ◌<◌}
use lib.Dec.{eqb, eqb→eq, leb, leb→le}
use lib.IntN.{ℤ}
use lib.ListN.{length}
use borrow.Author.Tests.{eq-eqb, ne_eqb, le-leb, lt-leb}
use Rattle.whole.specs.Lists.{tab}
use Rattle.whole.proofs.Tests.{and_l, and_r}
use Rattle.lattice.specs.Limits.{most_d, most_C, most_readings}
use Rattle.lattice.specs.Refusals.{first, settings_out_of_range, other_length, not_sound, settings_differ, number_held, too_many_readings, too_many_points}
use Rattle.lattice.proofs.Tests.{all_pass, first_stops, first_passes}
use Rattle.index.specs.Keys.{key_at}
use Rattle.table.specs.Table.{Settings, rows, keys_of}
use Rattle.table.specs.Sound.{Ranged, Shape}
use Rattle.table.specs.Pour.{news_in}
use Rattle.table.specs.Calls.{ranged, fits}
use Rattle.table.proofs.Refusals.{T_of}
use Rattle.table.proofs.Soundness.{to_ranged, to_shape}
use Rattle.book.specs.Book.{Booked, sound_with_book}
use Rattle.book.specs.Numbers.{none_met}
use Rattle.book.specs.Calls.{room_ranged, in_range, all_fit, each_tests, both_tests, merge_refusal}
use Rattle.book.specs.Theorems.{FineBook}
use Rattle.book.proofs.Booking.{fine_of}
use Rattle.merge.specs.Refusals.{each_refusal, both_refusal}
use Rattle.merge.proofs.Rows.{keys_all}

-- what each table has where none of its tests fails
pub record BothFine (c : Settings) (b : Booked) (e : Settings) (s : Booked) : Type 0 where
  pub target : FineBook c b
  pub source : FineBook e s

-- ---- what the tests of a table ask, by those before them
module _ (c : Settings) (b : Booked) (e₁ : in_range c b ≡ true) where
  in_ranges : Ranged c
  in_ranges = to_ranged c (and_l (ranged c) (room_ranged b.room) (T_of e₁))

  room_few : b.room ≤ most_readings
  room_few = let B = b.room in leb→le B most_readings (and_r (leb 1 B) (leb B most_readings) (and_r (ranged c) (room_ranged B) (T_of e₁)))

  pub can_fit : (c.d ≤ most_d) × (c.C ≤ most_C) × (b.room ≤ most_readings)
  can_fit = (in_ranges.d_most, in_ranges.C_most, room_few)

  pub can_be_carried : all_fit c b ≡ true → Ranged c × (Shape c b.table × ((b.room ≤ most_readings) × (length b.book ≡ (c.d + 3) * b.room)))
  can_be_carried e₃ =
      let fit = fits c b.table in
      let size = eqb (length b.book) ((c.d + 3) * b.room) in
      (in_ranges, (to_shape c b.table (and_l fit size (T_of e₃)), (room_few, eqb→eq (length b.book) ((c.d + 3) * b.room) (and_r fit size (T_of e₃)))))

-- ---- the order
module _ (c : Settings) (b : Booked) (e : Settings) (s : Booked) where
  abbrev readings : ℕ
  readings = b.table.n + s.table.n

  abbrev points : List (List ℤ) → ℕ
  points ks = b.table.m + news_in c b.table.keys b.table.index ks

  -- x is the number of each table, y that of the two together
  pub refused_each : (x : ℕ) → x ≡ each_refusal c b e s → (x ≡ 0 → ⊥) → x ≡ merge_refusal c b e s
  unfolding each_refusal merge_refusal
  refused_each x p h = p ∙ sym (first_stops (each_tests c b e s) (both_tests c b.room e (none_met c b s) readings (points (keys_of (rows e s.table)))) (λ z. h (p ∙ z)))

  pub refused_both : (x y : ℕ) → x ≡ each_refusal c b e s → x ≡ 0 → y ≡ both_refusal c b.room e (none_met c b s) readings (points (tab s.table.m (key_at e.d s.table.keys))) → y ≡ merge_refusal c b e s
  unfolding each_refusal both_refusal merge_refusal
  refused_both x y p z q = q ∙ ap (λ (ks : List (List ℤ)). both_refusal c b.room e (none_met c b s) readings (points ks)) (sym (keys_all e.d e s.table refl))
      ∙ sym (first_passes (each_tests c b e s) (both_tests c b.room e (none_met c b s) readings (points (keys_of (rows e s.table)))) tt (sym p ∙ z))

  pub both_fine : each_refusal c b e s ≡ 0 → BothFine c b e s
  unfolding each_refusal
  both_fine z =
      let p = all_pass (each_tests c b e s) tt z in
      let q = p.1.1 in
      let r = q.1.1 in
      record { target = fine_of c b p.0 q.0 r.0; source = fine_of e s p.1.0 q.1.0 r.1.0 }

  -- ---- 1, 2 and 3 as the code goes through them
  pub out_of_range : in_range c b ≡ false → settings_out_of_range ≡ each_refusal c b e s
  unfolding each_refusal first
  out_of_range e₁ = sym (rw e₁ refl)

  module _ (e₁ : in_range c b ≡ true) where
    pub source_out_of_range : in_range e s ≡ false → settings_out_of_range ≡ each_refusal c b e s
    unfolding each_refusal first
    source_out_of_range e₂ = sym (rw (e₁, e₂) refl)

    module _ (e₂ : in_range e s ≡ true) where
      pub length_other : all_fit c b ≡ false → other_length ≡ each_refusal c b e s
      unfolding each_refusal first
      length_other e₃ = sym (rw (e₁, e₂, e₃) refl)

      module _ (e₃ : all_fit c b ≡ true) where
        pub source_length_other : all_fit e s ≡ false → other_length ≡ each_refusal c b e s
        unfolding each_refusal first
        source_length_other e₄ = sym (rw (e₁, e₂, e₃, e₄) refl)

        module _ (e₄ : all_fit e s ≡ true) where
          pub unsound : sound_with_book c b ≡ false → not_sound ≡ each_refusal c b e s
          unfolding each_refusal first
          unsound e₅ = sym (rw (e₁, e₂, e₃, e₄, e₅) refl)

          module _ (e₅ : sound_with_book c b ≡ true) where
            pub source_unsound : sound_with_book e s ≡ false → not_sound ≡ each_refusal c b e s
            unfolding each_refusal first
            source_unsound e₆ = sym (rw (e₁, e₂, e₃, e₄, e₅, e₆) refl)

            pub each_sound : sound_with_book e s ≡ true → 0 ≡ each_refusal c b e s
            unfolding each_refusal first
            each_sound e₆ = sym (rw (e₁, e₂, e₃, e₄, e₅, e₆) refl)

-- ---- 9, 20, 7 and 8
module _ (c : Settings) (B : ℕ) (e : Settings) (new : Bool) (n m : ℕ) where
  pub other_d : (c.d ≡ e.d → ⊥) → settings_differ ≡ both_refusal c B e new n m
  unfolding both_refusal first
  other_d h = rw (ne_eqb c.d e.d h) refl

  module _ (f : c.d ≡ e.d) where
    pub other_S : (c.S ≡ e.S → ⊥) → settings_differ ≡ both_refusal c B e new n m
    unfolding both_refusal first
    other_S h = rw (eq-eqb c.d e.d f, ne_eqb c.S e.S h) refl

    module _ (g : c.S ≡ e.S) where
      pub number_met : new ≡ false → number_held ≡ both_refusal c B e new n m
      unfolding both_refusal first
      number_met k = rw (eq-eqb c.d e.d f, eq-eqb c.S e.S g, k) refl

      module _ (k : new ≡ true) where
        pub many_readings : B < n → too_many_readings ≡ both_refusal c B e new n m
        unfolding both_refusal first
        many_readings h = rw (eq-eqb c.d e.d f, eq-eqb c.S e.S g, k, lt-leb n B h) refl

        module _ (l : n ≤ B) where
          pub many_points : c.C < m → too_many_points ≡ both_refusal c B e new n m
          unfolding both_refusal first
          many_points h = rw (eq-eqb c.d e.d f, eq-eqb c.S e.S g, k, le-leb n B l, lt-leb m c.C h) refl

          pub both_fit : m ≤ c.C → 0 ≡ both_refusal c B e new n m
          unfolding both_refusal first
          both_fit h = rw (eq-eqb c.d e.d f, eq-eqb c.S e.S g, k, le-leb n B l, le-leb m c.C h) refl
