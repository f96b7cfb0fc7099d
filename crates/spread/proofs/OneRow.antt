-- A row on a sheet: where the search for its key ends, and what is left in either case.
use mathlib.Core.Path.{◌≡◌, refl, sym, ap, subst, ◌∙◌}
use mathlib.Core.List.{List, [], ◌∷◌}
use Prim.Native.Nat.{ℕ, suc, ◌+◌, ◌-◌, ◌*◌}
use native.Mathlib.Omega.{arith}
use lib.IntN.{ℤ, ◌+ℤ◌}
use lib.ListN.{length}
use mir.Syntax.{w64}
use mir.Val.{SFits}
use Rattle.whole.specs.Lists.{at}
use Rattle.whole.proofs.Signed.{W64}
use Rattle.index.specs.Keys.{key_at}
use Rattle.index.specs.Search.{entry_at, search}
use Rattle.table.specs.Table.{Settings, Row}
use Rattle.table.specs.Pour.{set_pair}
use Rattle.pour.specs.Inner.{Raisable}
use Rattle.pour.proofs.Seeking.{entry_is, new_one, new_none}
use Rattle.pour.proofs.Addition.{passed_is}
use Rattle.shares.proofs.Slots.{news_one}
use Rattle.spread.specs.Spreading.{found_in, lift_at, lift_all, Lifts}
use Rattle.spread.specs.Inner.{RowToLift}

module _ (c : Settings) (keys : List ℤ) (index : List ℕ) (sheet : List ℤ) (r : Row) (A : RowToLift c.d c.C keys index sheet r)
    {p : ℕ} (e : p ≡ search c.C (key_at (length r.key) keys) (entry_at index) r.key) where
  here : entry_at index p ≡ found_in c keys index r.key
  here = entry_is c.d c.C keys index r.key A.ready.searchable A.size e

  -- ---- no point has the key
  pub not_lifted : entry_at index p ≡ 0 → Lifts c keys index sheet (r ∷ []) 1 sheet
  unfolding lift_all
  not_lifted z = record {
    missing_are = news_one c keys index (r.key ∷ []) r.key (new_one c keys index r.key A.ready.searchable A.size e z) refl;
    left_is = ap (lift_at sheet r) (sym z ∙ here);
  }

  -- ---- one has it
  module _ (z : entry_at index p ≡ 0 → ⊥) (f : SFits w64 r.mass) (g : SFits w64 r.value) where
    abbrev i : ℕ
    i = entry_at index p - 1

    named : suc i ≡ found_in c keys index r.key
    named = omega (arith, here, z)

    pub to_raise : Raisable sheet i (W64 r.mass) (W64 r.value)
    to_raise = subst (λ (r : Row). Raisable sheet i r.mass r.value) (sym (passed_is r f g)) (record {
      inside = omega (arith, A.ready.paired p, z);
      mass_there = let x = A.ready.small (2 * i) in record { abs = omega (arith, x.abs, A.few) };
      value_there = let x = A.ready.small (2 * i + 1) in record { abs = omega (arith, x.abs, A.few) };
      mass_more = let x = A.light.mass_small in record { abs = omega (arith, x.abs) };
      value_more = let x = A.light.value_small in record { abs = omega (arith, x.abs) };
    })

    pub lifted : {left : List ℤ} → left ≡ set_pair sheet i (at sheet (2 * i) +ℤ W64 r.mass) (at sheet (2 * i + 1) +ℤ W64 r.value) → Lifts c keys index sheet (r ∷ []) 0 left
    unfolding lift_all
    lifted s = record {
      missing_are = news_one c keys index (r.key ∷ []) r.key (new_none c keys index r.key A.ready.searchable A.size e z) refl;
      left_is = s ∙ ap (λ (r : Row). set_pair sheet i (at sheet (2 * i) +ℤ r.mass) (at sheet (2 * i + 1) +ℤ r.value)) (passed_is r f g) ∙ ap (lift_at sheet r) named;
    }
