-- What the shares of readings sum to: W times the values of the readings.
use mathlib.Core.Path.{◌≡◌, sym, ap, ap₂, ◌∙◌}
use mathlib.Core.List.{List, [], ◌∷◌}
use Prim.Native.Nat.{ℕ, ◌<◌}
use lib.IntN.{ℤ, pos, ◌+ℤ◌, ◌*ℤ◌}
use Rattle.whole.specs.Sum.{over}
use Rattle.whole.specs.Lists.{at}
use Rattle.whole.proofs.Ring.{*-comm, *-dist-l, *-zero}
use Rattle.lattice.specs.Weight.{W, weight}
use Rattle.lattice.specs.Points.{points}
use Rattle.lattice.proofs.Points.{all_sum_to_W}
use Rattle.table.specs.Reading.{Reading, share, shares}
use Rattle.table.proofs.Lists.{over_map}
use Rattle.table.proofs.Rows.{value_of}

over_scaled : {A : Type 0} (l : List A) (f : A → ℤ) (v : ℤ) → over l (λ a. f a *ℤ v) ≡ v *ℤ over l f
unfolding over
over_scaled [] f v = sym (*-comm v (pos 0) ∙ *-zero v)
over_scaled (a ∷ l) f v = ap₂ ◌+ℤ◌ (*-comm (f a) v) (over_scaled l f v) ∙ sym (*-dist-l v (f a) (over l f))

shares_value : (d S : ℕ) → 0 < S → (r : Reading) → over (shares d S r) value_of ≡ pos (W d S) *ℤ r.value
unfolding shares
shares_value d S fine r = over_map (share d S r) (points d S r.position) value_of
    ∙ over_scaled (points d S r.position) (λ y. pos (weight d S (at r.position) (at y))) r.value
    ∙ ap (λ (z : ℤ). r.value *ℤ z) (all_sum_to_W d S fine r.position)
    ∙ *-comm r.value (pos (W d S))

pub over_shares : (d S : ℕ) → 0 < S → (rs : List Reading) → over rs (λ r. over (shares d S r) value_of) ≡ pos (W d S) *ℤ over rs (λ r. r.value)
unfolding over
over_shares d S fine [] = sym (*-comm (pos (W d S)) (pos 0) ∙ *-zero (pos (W d S)))
over_shares d S fine (r ∷ rs) = ap₂ ◌+ℤ◌ (shares_value d S fine r) (over_shares d S fine rs) ∙ sym (*-dist-l (pos (W d S)) r.value (over rs (λ r. r.value)))
