-- A key as a lattice point, one coordinate at a time: those that are kept, then minus their sum.
use mathlib.Core.Path.{◌≡◌, refl, ap, sym, subst, ◌∙◌}
use mathlib.Core.Bool.{Bool, true, false, ◌&&◌}
use mathlib.Core.List.{List, []}
use Prim.Native.Nat.{ℕ, suc, ◌<◌}
use lib.Dec.{T, eqb, leb, leb→le}
use lib.IntN.{ℤ, pos, neg_ℤ, nat_abs}
use lib.ListN.{length}
use lib.Seq.{get_or-append_seam}
use Rattle.whole.specs.Size.{Abs≤}
use Rattle.whole.specs.Floor.{remainder}
use Rattle.whole.specs.Sum.{sum, over, all}
use Rattle.whole.specs.Lists.{at}
use Rattle.whole.proofs.Size.{abs_of}
use Rattle.whole.proofs.Sum.{sum_list}
use Rattle.whole.proofs.Tests.{and_l, and_r, and_i, all_at, all_of, all_stop, all_cong, T_ext}
use Rattle.lattice.specs.Limits.{farthest_point}
use Rattle.table.specs.Table.{whole}
use Rattle.table.specs.Sound.{good_key}
use Rattle.table.proofs.Good.{kept_at}
use Rattle.soundness.specs.Inner.{good_coordinate}

all_both : (n : ℕ) (f g : ℕ → Bool) → (all n f && all n g) ≡ all n (λ i. g i && f i)
all_both n f g = T_ext (all n f && all n g) (all n (λ i. g i && f i))
    (λ t. all_of n (λ i. g i && f i) (λ i l. and_i (g i) (f i) (all_at n g (and_r (all n f) (all n g) t) i l) (all_at n f (and_l (all n f) (all n g) t) i l)))
    (λ t. and_i (all n f) (all n g)
    (all_of n f (λ i l. and_r (g i) (f i) (all_at n (λ i. g i && f i) t i l)))
    (all_of n g (λ i l. and_l (g i) (f i) (all_at n (λ i. g i && f i) t i l))))

-- a good coordinate is near
pub coordinate_near : (n k : ℕ) (c : ℤ) → good_coordinate n k c ≡ true → Abs≤ c farthest_point
coordinate_near n k c e = abs_of c farthest_point (leb→le (nat_abs c) farthest_point (and_l (leb (nat_abs c) farthest_point) (eqb (remainder c n) k) (subst T (sym e) tt)))

module _ (k : List ℤ) where
  at_last : at (whole k) (length k) ≡ neg_ℤ (sum (length k) (at k))
  unfolding whole
  at_last = get_or-append_seam k (neg_ℤ (over k (λ z. z))) [] (pos 0) ∙ ap neg_ℤ (sym (sum_list k (pos 0) (λ z. z)))

  abbrev of_key : ℕ → ℕ → ℕ → Bool
  of_key n r j = good_coordinate n r (at k j)

  module _ (some : 0 < length k) {n r : ℕ} (n-is : n ≡ suc (length k)) (r-is : r ≡ remainder (at k 0) n) where
    key_is : good_key (length k) k ≡ (all (length k) (of_key n r) && good_coordinate n r (neg_ℤ (sum (length k) (at k))))
    unfolding good_key all
    key_is =
        let d = length k in
        let first : remainder (at (whole k) 0) (suc d) ≡ r = ap (λ (z : ℤ). remainder z (suc d)) (kept_at k 0 some) ∙ ap (remainder (at k 0)) (sym n-is) ∙ sym r-is in
        all_both (suc d) (λ j. eqb (remainder (at (whole k) j) (suc d)) (remainder (at (whole k) 0) (suc d))) (λ j. leb (nat_abs (at (whole k) j)) farthest_point)
        ∙ rw (first, ← n-is) (ap (λ (b : Bool). b && good_coordinate n r (at (whole k) d)) (all_cong d (λ j. good_coordinate n r (at (whole k) j)) (of_key n r) (λ j l. ap (good_coordinate n r) (kept_at k j l)))
        ∙ ap (λ (z : ℤ). all d (of_key n r) && good_coordinate n r z) at_last)

    pub key_stop : {t : Bool} (j : ℕ) → j < length k → t ≡ of_key n r j → t ≡ false → false ≡ good_key (length k) k
    key_stop j l e f = sym (key_is ∙ rw (all_stop (length k) (of_key n r) j l (sym e ∙ f)) refl)

    pub key_done : {t : Bool} {z : ℤ} (j : ℕ) → j ≡ length k → all j (of_key n r) ≡ true → z ≡ neg_ℤ (sum j (at k)) → t ≡ good_coordinate n r z → t ≡ good_key (length k) k
    key_done j q a e f = f ∙ sym (key_is ∙ rw (← q, a, ← e) refl)
