-- What the settings of a log ask for, by the item at offset 0: refused by its form, out of range, too wide for the program, or taken.
use mathlib.Core.Path.{◌≡◌, refl, sym, ap, subst, ◌∙◌}
use mathlib.Core.Bool.{true, false}
use mathlib.Core.List.{List, [], ◌∷◌}
use Prim.Native.Nat.{ℕ, ◌≤◌, ◌<◌}
use native.Mathlib.Omega.{arith}
use lib.Dec.{leb, leb→le}
use borrow.Author.Tests.{le-leb, lt-leb}
use Rattle.lattice.specs.declared.refusals.Refusal.{Refusal}
use Rattle.lattice.proofs.Refusing.{number_not_0}
use Rattle.lattice.specs.Refusals.{number, first, settings_out_of_range, program_limit}
use Rattle.table.specs.Table.{Settings}
use Rattle.table.specs.Calls.{ranged}
use Rattle.table.specs.Sound.{Ranged}
use Rattle.table.proofs.Refusals.{first_zero, first_at, T_of}
use Rattle.table.proofs.Soundness.{to_ranged}
use Rattle.reader.specs.Items.{Item, Refused, settings_of, item_at, number_of}
use Rattle.load.specs.Loading.{or_else}
use Rattle.reader.specs.declared.settings.Asked.{Asked}
use Rattle.load.proofs.Leaving.{either_zero}
use Rattle.load.proofs.Starting.{of_asked, or_first}
use Rattle.report.specs.Report.{most_log_capacity, settings_refusal}
use Rattle.report.specs.Inner.{Opens}

-- what is tested of settings that are there
abbrev own : Settings → ℕ
own c = first ((ranged c, settings_out_of_range) ∷ (leb c.C most_log_capacity, program_limit) ∷ [])

-- settings that are not refused have few points
pub few_points : (l : List ℕ) → settings_refusal l ≡ 0 → (settings_of l).C ≤ most_log_capacity
unfolding settings_refusal
few_points l e =
    let c = settings_of l in
    let (p, q) = either_zero (number_of (item_at l 0)) (own c) e in
    let (t, r) = first_zero (ranged c) 0 ((leb c.C most_log_capacity, program_limit) ∷ []) q in
    let (u, s) = first_zero (leb c.C most_log_capacity) 15 [] r in
    leb→le c.C most_log_capacity u

-- ---- the item at offset 0 is refused by its form
pub opens_other : (l : List ℕ) (why : Refusal) → Refused (number why) ≡ item_at l 0 → number why ≡ settings_refusal l
unfolding settings_refusal
opens_other l why e =
    sym (or_first (number why) (own (settings_of l)) (number_not_0 why)) ∙ ap (λ (i : Item). or_else (number_of i) (own (settings_of l))) e

-- ---- the settings are there
module _ (l : List ℕ) (none : number_of (item_at l 0) ≡ 0) (a : Asked) (s : a ≡ record { d = (settings_of l).d; fineness = (settings_of l).S; capacity = (settings_of l).C }) where
  abbrev c : Settings
  c = of_asked a

  same : c ≡ settings_of l
  same = ap of_asked s

  own_is : own c ≡ settings_refusal l
  unfolding settings_refusal
  own_is = ap own same ∙ sym (ap (λ (x : ℕ). or_else x (own (settings_of l))) none)

  pub opens_outside : false ≡ ranged c → settings_out_of_range ≡ settings_refusal l
  opens_outside r = sym (first_at (ranged c) settings_out_of_range _ (sym r)) ∙ own_is

  module _ (r : true ≡ ranged c) where
    pub opens_wide : most_log_capacity < a.capacity → program_limit ≡ settings_refusal l
    unfolding first
    opens_wide h = rw (← own_is, ← r, lt-leb a.capacity most_log_capacity h) refl

    pub opens_taken : a.capacity ≤ most_log_capacity → (0 ≡ settings_refusal l) × Opens l (record { d = a.d; capacity = a.capacity })
    unfolding first
    opens_taken h = (
      rw (← own_is, ← r, le-leb a.capacity most_log_capacity h) refl,
      record {
        d_is = ap (λ (c : Settings). c.d) same;
        capacity_is = ap (λ (c : Settings). c.C) same;
        ranged = subst Ranged same (to_ranged c (T_of (sym r)));
        few = omega (arith, ap (λ (c : Settings). c.C) same);
      },
    )
