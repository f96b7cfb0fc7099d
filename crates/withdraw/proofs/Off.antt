-- Numbers subtracted one after the other.
use mathlib.Core.Path.{◌≡◌, refl, sym, ap, subst, ◌∙◌}
use mathlib.Core.List.{List}
use Prim.Native.Nat.{ℕ, ◌+◌, ◌<◌}
use native.Mathlib.Nat.{not-suc-le-zero}
use native.Mathlib.Decide.{ℕ_discrete}
use native.Mathlib.Omega.{arith}
use lib.IntN.{ℤ, pos, ◌-ℤ◌}
use lib.ListN.{length, set, length-set}
use lib.Seq.{get_or-set_same, get_or-set_other}
use Rattle.whole.specs.Lists.{at}
use Rattle.withdraw.specs.Inner.{TakenOff}

pub off_none : (l z : List ℤ) → TakenOff 0 l z l
off_none l z = record { size = refl; low = λ p h. absurd (not-suc-le-zero h); high = λ p h. refl }

-- one more: it has not been touched yet
pub off_more : (l z s : List ℤ) (i : ℕ) (x : ℤ) → TakenOff i l z s → i < length l → x ≡ at s i -ℤ at z i → TakenOff (i + 1) l z (set s i x)
off_more l z s i x S h e = record {
  size = length-set s i x ∙ S.size;
  low = λ p q. now p q (ℕ_discrete p i);
  high = λ p q. get_or-set_other s i p x (pos 0) (λ y. absurd (omega (arith, q, y))) ∙ S.high p (omega (arith, q));
}
  where
    now : (p : ℕ) → p < i + 1 → Dec (p ≡ i) → at (set s i x) p ≡ at l p -ℤ at z p
    now p q (yes y) = ap (at (set s i x)) y ∙ get_or-set_same s i x (pos 0) (omega (arith, S.size)) ∙ e ∙ ap (λ (a : ℤ). a -ℤ at z i) (S.high i (omega arith)) ∙ ap (λ (j : ℕ). at l j -ℤ at z j) (sym y)
    now p q (no y) = get_or-set_other s i p x (pos 0) y ∙ S.low p (omega (arith, y))

pub off_all : (n : ℕ) (l z s : List ℤ) (i : ℕ) → TakenOff i l z s → i ≡ n → TakenOff n l z s
off_all n l z s i S e = subst (λ (k : ℕ). TakenOff k l z s) e S
