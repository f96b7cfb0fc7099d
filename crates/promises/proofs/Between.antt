-- The values entered lie between the least and the greatest of them, and so does every answer of a table made of them.
use mathlib.Core.Path.{◌≡◌, subst}
use mathlib.Core.List.{List, [], ◌∷◌}
use Prim.Native.Nat.{ℕ, suc, ◌-◌, ◌<◌}
use native.Mathlib.Omega.{arith}
use lib.IntN.{ℤ, pos, ◌*ℤ◌}
use lib.ListN.{length, get_or, get_or-map}
use lib.Signed.{◌≤ℤ◌, le_z, le_z_yes}
use Rattle.whole.specs.Size.{Within}
use Rattle.whole.specs.Sum.{over}
use Rattle.whole.specs.Lists.{at, All}
use Rattle.whole.proofs.Ring.{le_z_refl, le_z_trans, le_z_flip}
use Rattle.lattice.specs.Weight.{ge_z, greatest, least, weight}
use Rattle.lattice.proofs.Spread.{best_is}
use Rattle.table.specs.Table.{Settings, Table, key, mass, value, whole}
use Rattle.table.specs.Reading.{Reading, mass_from, value_from}
use Rattle.table.proofs.Lists.{all_list}
use Rattle.blur.proofs.Stored.{fine_readable, every_pair}
use Rattle.filter.specs.Answer.{code, answer}
use Rattle.filter.proofs.Between.{Bounded, bounded_zero, bounded_plus, bounded_share, all_between}
use Rattle.filter.proofs.Theorems.{answer_between}
use Rattle.promises.specs.Order.{value_in, least_in, greatest_in}
use Rattle.promises.proofs.Building.{Built}
use Rattle.promises.proofs.Holding.{row_from}

-- ---- the values
least_below : (d : ℕ) (f : ℕ → ℤ) (i : ℕ) → i < suc d → least d f ≤ℤ f i
least_below d f i l = let (h, k, e, u) = best_is ge_z le_z_refl (λ a b c h k. le_z_trans c b a k h) (λ a b. le_z_flip b a) d f in rw e (le_z_yes (u i l))

greatest_above : (d : ℕ) (f : ℕ → ℤ) (i : ℕ) → i < suc d → f i ≤ℤ greatest d f
greatest_above d f i l = let (h, k, e, u) = best_is le_z le_z_refl le_z_trans le_z_flip d f in rw e (le_z_yes (u i l))

pub values_within : (rs : List Reading) → All (λ r. Within (least_in rs) (greatest_in rs) r.value) rs
values_within rs = all_list (λ r. Within (least_in rs) (greatest_in rs) r.value) rs none each
  where
    none : Reading
    none = record { position = []; value = pos 0 }

    each : (i : ℕ) → i < length rs → Within (least_in rs) (greatest_in rs) (get_or rs i none).value
    each i h = subst (Within (least_in rs) (greatest_in rs)) (get_or-map (λ (r : Reading). r.value) rs i none) (record {
      low = least_below (length rs - 1) (value_in rs) i (omega arith);
      high = greatest_above (length rs - 1) (value_in rs) i (omega arith);
    })

-- ---- what readings give to a point: the value sum lies between lo and hi times the mass, where each value lies between lo and hi
pub from_bounded : (lo hi : ℤ) (d S : ℕ) (y : List ℤ) (rs : List Reading) → All (λ r. Within lo hi r.value) rs → Bounded lo hi (mass_from d S rs y, value_from d S rs y)
unfolding over
from_bounded lo hi d S y [] h = bounded_zero lo hi
from_bounded lo hi d S y (r ∷ rs) h =
    let w = weight d S (at r.position) (at y) in
    bounded_plus lo hi (pos w, pos w *ℤ r.value) (mass_from d S rs y, value_from d S rs y) (bounded_share lo hi w r.value h.0) (from_bounded lo hi d S y rs h.1)

pub answer_within : (c : Settings) (t : Table) (rs : List Reading) → Built c t rs → (q : List ℤ) → code c t q ≡ 0 → Within (least_in rs) (greatest_in rs) (answer c t q)
answer_within c t rs B = answer_between lo hi c t B.fine
    (all_between lo hi c t (every_pair c t (fine_readable c t B.fine) (λ a b. Bounded lo hi (a, b)) (bounded_zero lo hi) each))
  where
    lo : ℤ
    lo = least_in rs

    hi : ℤ
    hi = greatest_in rs

    each : (i : ℕ) → i < t.m → Bounded lo hi (mass t i, value t i)
    each i l = let R = row_from c t rs B i l in rw (R.mass_is, R.value_is) (from_bounded lo hi c.d c.S (whole (key c t i)) rs (values_within rs))
