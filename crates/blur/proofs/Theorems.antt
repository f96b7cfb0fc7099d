-- The statements of specs/Theorems.antt, proved; that the steps stay in the lattice stands in Neighbours.antt. And what callers use of them: what a
-- table has at points that are not stored, and bounds that all passes keep.
use mathlib.Core.Path.{◌≡◌, sym, ap, ◌∙◌}
use mathlib.Core.Bool.{false}
use mathlib.Core.List.{List}
use Prim.Native.Nat.{ℕ, ◌*◌}
use native.Mathlib.Omega.{arith}
use lib.IntN.{ℤ, pos}
use lib.Signed.{◌≤ℤ◌, ≤ℤ_refl}
use lib.Dec.{T, ltb→lt, lt→ltb}
use Rattle.whole.specs.Size.{Abs≤}
use Rattle.whole.proofs.Parts.{le_out}
use Rattle.whole.proofs.Ring.{le_trans}
use Rattle.whole.proofs.Tests.{T_ext}
use Rattle.lattice.specs.Limits.{most_value, most_readings, most_W}
use Rattle.table.specs.Table.{Settings, Table, found, held}
use Rattle.table.specs.Sound.{Fine}
use Rattle.table.proofs.Theorems.{stored_exactly, sums_small}
use Rattle.blur.specs.Blur.{passes, is_stored, masses, values, mass_after, value_after}
use Rattle.blur.specs.Inner.{Readable}
use Rattle.blur.specs.Theorems.{PassLinear, PassesLinear, Between, PassKeepsBetween, PassDoubles, MassAbove, BlurSmall, SheetHolds, BlurOfMap}
use Rattle.blur.proofs.Passes.{passes_cong, pass_add, pass_times, pass_twice, pass_between, passes_off, passes_add, passes_times, passes_above, passes_small, passes_keep_between}
use Rattle.blur.proofs.Stored.{fine_readable, not_stored, every_pair}
use Rattle.blur.proofs.Sheets.{sheet_held}

-- ---- one pass, and the first n
pub pass_linear : PassLinear
pass_linear stored d k = record { add = pass_add stored d k; times = pass_times stored d k }

pub passes_linear : PassesLinear
passes_linear stored d n = record { add = passes_add stored d n; times = passes_times stored d n }

pub pass_keeps_between : PassKeepsBetween
pass_keeps_between = pass_between

pub pass_doubles : PassDoubles
pass_doubles = pass_twice

-- ---- any table
module _ (c : Settings) (t : Table) where
  -- what is not stored has 0 after any number of passes
  pub mass_off : (n : ℕ) (y : List ℤ) → is_stored c t y ≡ false → mass_after c t n y ≡ pos 0
  unfolding mass_after
  mass_off = passes_off (is_stored c t) c.d (masses c t) (λ y h. ap (λ (p : ℤ × ℤ). p.0) (not_stored c t y h))

  pub value_off : (n : ℕ) (y : List ℤ) → is_stored c t y ≡ false → value_after c t n y ≡ pos 0
  unfolding value_after
  value_off = passes_off (is_stored c t) c.d (values c t) (λ y h. ap (λ (p : ℤ × ℤ). p.1) (not_stored c t y h))

  -- value sums between lo and hi times the mass stay so
  pub after_between : (lo hi : ℤ) → Between lo hi (masses c t) (values c t) → (n : ℕ) → Between lo hi (mass_after c t n) (value_after c t n)
  unfolding mass_after value_after
  after_between lo hi = passes_keep_between (is_stored c t) c.d lo hi (masses c t) (values c t)

-- ---- a sound table
module _ (c : Settings) (t : Table) (U : Fine c t) where
  readable : Readable c t
  readable = fine_readable c t U

  pub masses_low : (y : List ℤ) → pos 0 ≤ℤ masses c t y
  masses_low = every_pair c t readable (λ m v. pos 0 ≤ℤ m) (≤ℤ_refl (pos 0)) (λ i l. le_trans (le_out (pos 0) (pos 1) (omega arith)) (U.sound.good i l).some)

  masses_small : (y : List ℤ) → Abs≤ (masses c t y) (most_W * most_readings)
  masses_small = every_pair c t readable (λ m v. Abs≤ m (most_W * most_readings)) (record { abs = omega arith }) (λ i l. (sums_small c t U i l).mass_small)

  values_small : (y : List ℤ) → Abs≤ (values c t y) (most_value * (most_W * most_readings))
  values_small = every_pair c t readable (λ m v. Abs≤ v (most_value * (most_W * most_readings))) (record { abs = omega arith }) (λ i l. (sums_small c t U i l).value_small)

pub mass_above : MassAbove
unfolding mass_after
mass_above c t U n y s = le_trans ((stored_exactly c t U y).0 (ltb→lt 0 (found c t y) s)) (passes_above (is_stored c t) c.d (masses c t) (masses_low c t U) y s n)

pub blur_small : BlurSmall
unfolding mass_after value_after
blur_small c t U n y = record {
  mass_small = passes_small (is_stored c t) c.d (most_W * most_readings) (masses c t) (masses_small c t U) n y;
  value_small = passes_small (is_stored c t) c.d (most_value * (most_W * most_readings)) (values c t) (values_small c t U) n y;
}

-- ---- the sheet after n passes
pub sheet_holds : SheetHolds
sheet_holds c t U n =
    sheet_held c t (fine_readable c t U) (mass_after c t n) (value_after c t n) (mass_off c t n) (value_off c t n)

-- ---- two sound tables of one map
module _ (c : Settings) (t : Table) (b : Settings) (s : Table) (same : (y : List ℤ) → held c t y ≡ held b s y) where
  also_stored : Fine c t → Fine b s → (y : List ℤ) → T (is_stored c t y) → T (is_stored b s y)
  also_stored U U' y h = lt→ltb 0 (found b s y) ((stored_exactly b s U' y).1 (rw (same y) at ((stored_exactly c t U y).0 (ltb→lt 0 (found c t y) h))))

pub blur_of_map : BlurOfMap
unfolding mass_after value_after
blur_of_map c t b s U U' e same n y = record {
  stored_same = stored y;
  mass_same = ap (λ (d : ℕ). passes (is_stored c t) d n (masses c t) y) e
      ∙ passes_cong (is_stored c t) (is_stored b s) b.d n (masses c t) (masses b s) stored (λ y. ap (λ (p : ℤ × ℤ). p.0) (same y)) y;
  value_same = ap (λ (d : ℕ). passes (is_stored c t) d n (values c t) y) e
      ∙ passes_cong (is_stored c t) (is_stored b s) b.d n (values c t) (values b s) stored (λ y. ap (λ (p : ℤ × ℤ). p.1) (same y)) y;
}
  where
    stored : (y : List ℤ) → is_stored c t y ≡ is_stored b s y
    stored y = T_ext (is_stored c t y) (is_stored b s y) (also_stored c t b s same U U' y) (also_stored b s c t (λ y. sym (same y)) U' U y)
