-- A sound table with the sheet of its blurred pairs in place of its sums: the answers by the sheet are the answers of the table.
use mathlib.Core.Path.{◌≡◌, ap, ap₂, fun_ext}
use mathlib.Core.List.{List}
use Prim.Native.Nat.{ℕ, suc, ◌*◌, ◌^◌, ◌<◌, ◌≤◌}
use native.Mathlib.Nat.{le_refl, mul-le-mul, pow-le-pow_right}
use native.Mathlib.Omega.{arith}
use lib.IntN.{ℤ, pos, neg_ℤ, ◌*ℤ◌}
use lib.Signed.{◌≤ℤ◌, ≤ℤ_refl}
use Rattle.whole.specs.Size.{Abs≤}
use Rattle.whole.specs.Lists.{at}
use Rattle.whole.proofs.Ring.{neg_times}
use Rattle.lattice.specs.Limits.{most_W, most_readings, most_value}
use Rattle.table.specs.Table.{Settings, Table, key, mass, value}
use Rattle.table.specs.Sound.{Fine}
use Rattle.table.proofs.Refusals.{T_of}
use Rattle.blur.specs.Blur.{masses, values, blurred_mass, blurred_value}
use Rattle.blur.specs.Sheet.{blurred_sheet, with_sums}
use Rattle.blur.specs.Inner.{most_blurred}
use Rattle.blur.specs.Theorems.{Between}
use Rattle.blur.proofs.Sheets.{sheet_length, sheet_mass, sheet_value, sheet_rest, each_place}
use Rattle.blur.proofs.Theorems.{after_between, mass_above, blur_small, sheet_holds}
use Rattle.blur.proofs.Stored.{fine_readable, sheet_readable, own_stored, every_pair}
use Rattle.filter.specs.Answer.{weighted, meets, code_by, value_by, code, answer}
use Rattle.filter.specs.Inner.{Mapped, Smooth}

-- no blurred number passes 4^6·384·4,096·1,000,000
pub blurred_small : (c : Settings) (t : Table) → Fine c t → (y : List ℤ) → Abs≤ (blurred_mass c t y) most_blurred × Abs≤ (blurred_value c t y) most_blurred
blurred_small c t F y =
    let s = blur_small c t F (suc c.d) y in
    let d : suc c.d ≤ 6 = omega (arith, F.ranged.d_most) in
    let p : 4 ^ suc c.d ≤ 4 ^ 6 = pow-le-pow_right (omega arith) d in (
      record { abs = omega (arith, s.mass_small.abs, mul-le-mul p (le_refl (most_W * most_readings))) },
      record { abs = omega (arith, s.value_small.abs, mul-le-mul p (le_refl (most_value * (most_W * most_readings)))) },
    )

module _ (c : Settings) (t : Table) (F : Fine c t) where
  -- the keys that a sound table finds are those of lattice points
  pub mapped : Mapped c t
  mapped = record {
    readable = fine_readable c t F;
    size = λ i l. (F.sound.good i l).size;
    point = λ i l. (F.sound.good i l).point;
  }

  -- a stored point's blurred mass is above 0
  pub blurred_some : (i : ℕ) → i < t.m → pos 1 ≤ℤ blurred_mass c t (key c t i)
  blurred_some i l = mass_above c t F (suc c.d) (key c t i) (T_of (own_stored c t mapped.readable i l))

  -- value sums are within a million times the mass, and so they are blurred
  fair : Between (neg_ℤ (pos most_value)) (pos most_value) (masses c t) (values c t)
  fair = record {
    low = every_pair c t mapped.readable (λ a b. (neg_ℤ (pos most_value) *ℤ a) ≤ℤ b) (≤ℤ_refl (pos 0)) (λ i l. rw (neg_times (pos most_value) (mass t i)) (F.sound.good i l).low);
    high = every_pair c t mapped.readable (λ a b. b ≤ℤ (pos most_value *ℤ a)) (≤ℤ_refl (pos 0)) (λ i l. (F.sound.good i l).high);
  }

  blurred_fair : Between (neg_ℤ (pos most_value)) (pos most_value) (blurred_mass c t) (blurred_value c t)
  blurred_fair = after_between c t (neg_ℤ (pos most_value)) (pos most_value) fair (suc c.d)

  abbrev smoothed : Table
  smoothed = with_sums t (blurred_sheet c t)

  mass_is : (i : ℕ) → i < t.m → mass smoothed i ≡ blurred_mass c t (key c t i)
  mass_is = sheet_mass c t (blurred_mass c t) (blurred_value c t)

  value_is : (i : ℕ) → i < t.m → value smoothed i ≡ blurred_value c t (key c t i)
  value_is = sheet_value c t (blurred_mass c t) (blurred_value c t)

  small : (j : ℕ) → Abs≤ (at (blurred_sheet c t) j) most_blurred
  small = each_place (λ j. Abs≤ (at (blurred_sheet c t) j) most_blurred) t.m
      (λ i l. rw (mass_is i l) (blurred_small c t F (key c t i)).0)
      (λ i l. rw (value_is i l) (blurred_small c t F (key c t i)).1)
      (λ j l. rw (sheet_rest c t (blurred_mass c t) (blurred_value c t) j l) (record { abs = omega arith }))

  pub smooth : Smooth c (with_sums t (blurred_sheet c t))
  smooth = record {
    mapped = record {
      readable = sheet_readable c t (blurred_sheet c t) mapped.readable (sheet_length c t (blurred_mass c t) (blurred_value c t) F.sound.indexed.sparse.room);
      size = mapped.size;
      point = mapped.point;
    };
    small = small;
    some = λ i l. rw (mass_is i l) (blurred_some i l);
    low = λ i l. rw (mass_is i l, value_is i l, ← neg_times (pos most_value) (blurred_mass c t (key c t i))) (blurred_fair.low (key c t i));
    high = λ i l. rw (mass_is i l, value_is i l) (blurred_fair.high (key c t i));
  }

  -- ---- the answers by the sheet
  masses_are : masses c smoothed ≡ blurred_mass c t
  masses_are = fun_ext (λ y. ap (λ (p : ℤ × ℤ). p.0) (sheet_holds c t F (suc c.d) y))

  values_are : values c smoothed ≡ blurred_value c t
  values_are = fun_ext (λ y. ap (λ (p : ℤ × ℤ). p.1) (sheet_holds c t F (suc c.d) y))

  pub code_same : (q : List ℤ) → code_by c (with_sums t (blurred_sheet c t)) (masses c (with_sums t (blurred_sheet c t))) q ≡ code c t q
  unfolding code_by meets weighted
  code_same q = ap (λ (f : List ℤ → ℤ). code_by c t f q) masses_are

  pub value_same : (q : List ℤ) → value_by c (with_sums t (blurred_sheet c t)) (masses c (with_sums t (blurred_sheet c t))) (values c (with_sums t (blurred_sheet c t))) q ≡ answer c t q
  unfolding value_by code_by meets weighted
  value_same q = ap₂ (λ (f g : List ℤ → ℤ). value_by c t f g q) masses_are values_are
