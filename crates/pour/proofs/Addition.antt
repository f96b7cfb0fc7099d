-- Adding a row: where the search for its key ends, and what is left in either case.
use mathlib.Core.Path.{◌≡◌, refl, sym, ap, ◌∙◌, subst}
use mathlib.Core.List.{List}
use Prim.Native.Nat.{ℕ, suc, ◌+◌, ◌-◌, ◌*◌}
use native.Mathlib.Nat.{le_refl}
use native.Mathlib.Omega.{arith}
use lib.IntN.{ℤ, ◌+ℤ◌}
use lib.ListN.{length}
use mir.Syntax.{w64}
use mir.Val.{SFits}
use mir.Facts.{to_z-of_z}
use Rattle.whole.specs.Lists.{at, splice}
use Rattle.whole.proofs.Signed.{W64}
use Rattle.index.specs.Keys.{key_at}
use Rattle.index.specs.Search.{search, Searchable}
use Rattle.index.proofs.Equality.{stretch_fits}
use Rattle.index.proofs.Finding.{found_low}
use Rattle.table.specs.Table.{Settings, Table, Row, key, entry, found}
use Rattle.table.specs.Heads.{Holds}
use Rattle.table.specs.Inner.{Addable}
use Rattle.table.specs.Pour.{set_pair, append, raise, add}
use Rattle.pour.specs.Inner.{Appendable, Appends, Raisable}
use Rattle.table.proofs.Soundness.{table_searched}
use Rattle.pour.proofs.Seeking.{place_is, place_read, entry_is}
use Rattle.pour.proofs.Raising.{raisable}

-- a row's numbers as the machine passes them on
abbrev pub passed : Row → Row
passed r = record { key = r.key; mass = W64 r.mass; value = W64 r.value }

pub passed_is : (r : Row) → SFits w64 r.mass → SFits w64 r.value → passed r ≡ r
passed_is r f g = λ i. record { key = r.key; mass = to_z-of_z f i; value = to_z-of_z g i }

module _ (c : Settings) (t : Table) (r : Row) (A : Addable c t r) where
  pub searched : Searchable c.d c.C t.keys t.index
  searched = table_searched c t A.ranged A.kept.shape A.kept.indexed.sparse

  -- the place where the search ends
  module _ {p : ℕ} (e : p ≡ search c.C (key_at (length r.key) t.keys) (entry t) r.key) where
    here : entry t p ≡ found c t r.key
    here = entry_is c.d c.C t.keys t.index r.key searched A.good.size e

    -- ---- it is empty
    pub appendable : entry t p ≡ 0 → Appendable t.m t.keys t.sums t.index p r.key
    appendable z =
        let room = A.room (sym here ∙ z) in
        record {
          few = omega (arith, room, A.ranged.C_most);
          stretch = rw (A.good.size, A.kept.shape.keys) (stretch_fits c.d t.m c.C _ room (le_refl _));
          pair = omega (arith, room, A.kept.shape.sums);
          place_in = place_read c.d c.C t.keys t.index r.key searched A.good.size e;
        }

    -- a key has d numbers, so this is the table that is meant
    holds : {points : ℕ} {keys sums : List ℤ} {index : List ℕ} → Appends t.m t.keys t.sums t.index p r points keys sums index → Holds (append c t p r) points keys sums index
    unfolding append
    holds H = record {
      points_are = H.points_are;
      keys_are = H.keys_are ∙ ap (λ (d : ℕ). splice t.keys (d * t.m) r.key) A.good.size;
      sums_are = H.sums_are;
      index_are = H.index_are;
    }

    pub added_new : entry t p ≡ 0 → SFits w64 r.mass → SFits w64 r.value → {points : ℕ} {keys sums : List ℤ} {index : List ℕ}
        → Appends t.m t.keys t.sums t.index p (passed r) points keys sums index → Holds (add c t r) points keys sums index
    added_new z f g {points} {keys} {sums} {index} H = rw (sym here ∙ z)
        (subst (λ (p : ℕ). Holds (append c t p r) points keys sums index) (place_is c.d c.C t.keys t.index r.key searched A.good.size e)
        (holds (subst (λ (r : Row). Appends t.m t.keys t.sums t.index p r points keys sums index) (passed_is r f g) H)))

    -- ---- it names a point
    named : (entry t p ≡ 0 → ⊥) → found c t r.key ≡ suc (entry t p - 1)
    named z = omega (arith, here, z)

    -- and so wide the machine has what is read there
    module _ {x : ℕ} (x-is : x ≡ entry t p) where
      pub to_raise : (entry t p ≡ 0 → ⊥) → SFits w64 r.mass → SFits w64 r.value → Raisable t.sums (x - 1) (W64 r.mass) (W64 r.value)
      to_raise z f g = rw x-is (subst (λ (r : Row). Raisable t.sums (entry t p - 1) r.mass r.value) (sym (passed_is r f g))
          (raisable c t r A (entry t p - 1)
          (found_low c.C t.m (key c t) (entry t) A.ranged.C_least A.kept.indexed.sparse r.key (entry t p - 1) (named z))))

      pub added_old : (entry t p ≡ 0 → ⊥) → SFits w64 r.mass → SFits w64 r.value → {sums : List ℤ}
          → sums ≡ set_pair t.sums (x - 1) (at t.sums (2 * (x - 1)) +ℤ W64 r.mass) (at t.sums (2 * (x - 1) + 1) +ℤ W64 r.value)
          → Holds (add c t r) t.m t.keys sums t.index
      unfolding raise
      added_old z f g s = rw (named z, ← x-is) (record {
        points_are = refl;
        keys_are = refl;
        sums_are = s ∙ ap (λ (r : Row). set_pair t.sums (x - 1) (at t.sums (2 * (x - 1)) +ℤ r.mass) (at t.sums (2 * (x - 1) + 1) +ℤ r.value)) (passed_is r f g);
        index_are = refl;
      })
