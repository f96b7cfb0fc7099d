-- The filter is the document's: what entering, blurring and answering do to a sound table, by the meaning.
use mathlib.Core.Path.{◌≡◌, refl, sym, ap, ◌∙◌}
use mathlib.Core.Logic.{◌↔◌, ◌⊎◌, inl, inr, ⊎_elim}
use mathlib.Core.List.{List}
use Prim.Native.Nat.{ℕ, zero, suc, ◌<◌}
use native.Mathlib.Omega.{arith}
use lib.IntN.{ℤ, pos, nat_abs, ◌+ℤ◌}
use lib.ListN.{take}
use lib.Signed.{◌≤ℤ◌, ◌<ℤ◌}
use Rattle.whole.specs.Rounding.{rounded}
use Rattle.whole.specs.Lists.{at}
use Rattle.whole.proofs.Linear.{on, difs, ints}
use Rattle.whole.proofs.Parts.{nat_abs_is, le_in, le_out}
use Rattle.whole.proofs.Signed.{abs_pos}
use Rattle.whole.proofs.Ring.{le_trans, le_or_lt}
use Rattle.whole.proofs.Rounding.{rounded_is}
use Rattle.whole.proofs.Tests.{T_true, T_false}
use Rattle.lattice.specs.Lattice.{Point}
use Rattle.lattice.specs.Weight.{weight}
use Rattle.table.specs.Table.{Settings, Table, key, whole, found, pair_at, held}
use Rattle.table.specs.Reading.{shares, entered}
use Rattle.table.specs.Sound.{Fine}
use Rattle.table.proofs.Good.{key_whole}
use Rattle.table.proofs.Pouring.{poured_all}
use Rattle.table.proofs.Keeping.{acceptable_pours, reading_acceptable, entered_adds}
use Rattle.table.proofs.Theorems.{search_finds, stored_exactly}
use Rattle.book.proofs.Booking.{takes}
use Rattle.book.proofs.Adding.{enter_adds}
use Rattle.blur.specs.Blur.{pass, passes, is_stored, mass_after, value_after, blurred_mass, blurred_value}
use Rattle.blur.proofs.Theorems.{masses_low, sheet_holds}
use Rattle.filter.specs.Answer.{weighted, value_by, code}
use Rattle.filter.proofs.Replying.{beside_none}
use Rattle.filter.proofs.Theorems.{mass_sum_above, answered, value_given}
use Rattle.promises.specs.Filter.{EntersEachReading, Passed, BlursEachPoint, Answered, AnswersEachQuery}

-- ---- entering
-- a sound table holds nothing at a key that is no lattice point's
held_nothing : (c : Settings) (t : Table) → Fine c t → (k : List ℤ) → ((y : List ℤ) → Point c.d y → take c.d y ≡ k → ⊥) → held c t k ≡ (pos 0, pos 0)
held_nothing c t U k no_point = go (found c t k) refl
  where
    go : (e : ℕ) → found c t k ≡ e → pair_at t.sums e ≡ (pos 0, pos 0)
    go zero e = refl
    go (suc i) e =
        let (l, q) = (search_finds c t U k i).0 e in
        let G = U.sound.good i l in
        absurd (no_point (whole (key c t i)) G.point (key_whole c.d (key c t i) G.size ∙ q))

-- a mass that is not below 0 and grows by w is above 0 where it was so before, or w is
mass_grown : (w : ℕ) (m m' : ℤ) → m' ≡ m +ℤ pos w → pos 0 ≤ℤ m → (pos 1 ≤ℤ m') ↔ ((pos 1 ≤ℤ m) ⊎ (0 < w))
mass_grown w m m' e low = (λ h. ⊎_elim inl (λ l. inr (lin w m m' e l h)) (le_or_lt (pos 1) m), ⊎_elim (lin' w m m' e) (lin'' w m m' e low))
  where
    lin : (w : ℕ) (m m' : ℤ) → m' ≡ m +ℤ pos w → m <ℤ pos 1 → pos 1 ≤ℤ m' → 0 < w
    lin w = on _ λ a b. on _ λ c d. simp difs (omega ints)

    lin' : (w : ℕ) (m m' : ℤ) → m' ≡ m +ℤ pos w → pos 1 ≤ℤ m → pos 1 ≤ℤ m'
    lin' w = on _ λ a b. on _ λ c d. simp difs (omega ints)

    lin'' : (w : ℕ) (m m' : ℤ) → m' ≡ m +ℤ pos w → pos 0 ≤ℤ m → 0 < w → pos 1 ≤ℤ m'
    lin'' w = on _ λ a b. on _ λ c d. simp difs (omega ints)

-- so a point is stored after where it was stored before, or its mass grows
stored_grown : (c : Settings) (t u : Table) → Fine c t → Fine c u → (k : List ℤ) (w : ℕ) → (held c u k).0 ≡ (held c t k).0 +ℤ pos w
    → (0 < found c u k) ↔ ((0 < found c t k) ⊎ (0 < w))
stored_grown c t u U U' k w e =
    let (there, back) = mass_grown w (held c t k).0 (held c u k).0 e (masses_low c t U k) in
    let (some, found-Some) = stored_exactly c t U k in
    let (some', found-some') = stored_exactly c u U' k in
    (λ h. ⊎_elim (λ l. inl (found-Some l)) inr (there (some' h)), λ h. found-some' (back (⊎_elim (λ l. inl (some l)) inr h)))

pub enters_each_reading : EntersEachReading
enters_each_reading c b e size F z =
    let t = b.table in
    let r = e.reading in
    let u = entered c t r in
    let rows = shares c.d c.S r in
    let U = F.fine in
    let A = (takes c b e size F.room_most z).accepted in
    let R = entered_adds c t r U A in
    let U' = R.fine in
    let adds = enter_adds c b e size F z in
    record {
      at_points = adds;
      elsewhere = λ k h. held_nothing c u U' k h ∙ sym (held_nothing c t U k h);
      stored = λ y Y. stored_grown c t u U U' (take c.d y) (weight c.d c.S (at r.position) (at y)) (ap (λ (p : ℤ × ℤ). p.0) (adds y Y));
      readings = R.count;
      points = (poured_all c t rows (acceptable_pours c t rows 1 (reading_acceptable c t r U A))).points;
    }

-- ---- blurring
passed : (c : Settings) (t : Table) (k : ℕ) (f : List ℤ → ℤ) → Passed c t k f (pass (is_stored c t) c.d k f)
unfolding pass
passed c t k f = record {
  stored = λ y s. rw (T_true (is_stored c t y) s) refl;
  not_stored = λ y s. rw (T_false (is_stored c t y) s) refl;
}

pub blurs_each_point : BlursEachPoint
unfolding mass_after value_after passes
blurs_each_point c t U = record {
  mass_before = λ y. refl;
  value_before = λ y. refl;
  mass_pass = λ k. passed c t k (mass_after c t k);
  value_pass = λ k. passed c t k (value_after c t k);
  on_the_sheet = sheet_holds c t U (suc c.d);
}

-- ---- answering
pub answers_each_query : AnswersEachQuery
unfolding value_by
answers_each_query c t U q = record { given = given; beside = beside_none (code c t q) (rounded num (nat_abs den)) }
  where
    num : ℤ
    num = weighted c t (blurred_value c t) q

    den : ℤ
    den = weighted c t (blurred_mass c t) q

    given : code c t q ≡ 0 → Answered c t q
    given e =
        let above = mass_sum_above c t q U (answered c t U q e) in
        let positive : 0 < nat_abs den = omega (arith, le_in (pos 1) den above, nat_abs_is den) in
        record {
          divisor = nat_abs den;
          divisor_is = abs_pos (le_trans (le_out (pos 0) (pos 1) (omega arith)) above);
          positive = positive;
          rounds = rw (value_given c t q e) (rounded_is num (nat_abs den) positive);
        }
