-- Rows on a sheet, and with the other sign on the sums: what both have together does not change. So the sheet, subtracted, leaves the lowered sums.
use mathlib.Core.Path.{◌≡◌, refl, sym, ap, ap₂, ◌∙◌}
use mathlib.Core.List.{List, [], ◌∷◌, map}
use Prim.Native.Nat.{ℕ, zero, suc, ◌+◌, ◌*◌, ◌≤◌, ◌<◌}
use native.Mathlib.Decide.{ℕ_discrete, dec_lt}
use native.Mathlib.Omega.{arith}
use lib.IntN.{ℤ, pos, neg_ℤ, +ℤ_idr, +ℤ-neg_ℤ_cancel, ◌+ℤ◌, ◌-ℤ◌}
use lib.ListN.{length, replicate, length-replicate}
use lib.Seq.{ext_get_or}
use Rattle.whole.specs.Lists.{at, All}
use Rattle.whole.proofs.Lists.{zeros}
use Rattle.whole.proofs.Signed.{zlin, zeq}
use Rattle.index.specs.Indexed.{Sparse}
use Rattle.index.proofs.Finding.{found_low}
use Rattle.table.specs.Table.{Settings, Table, Row, key, entry, found}
use Rattle.table.proofs.Store.{pair_length, pair_mass, pair_value, pair_else}
use Rattle.book.specs.Withdraw.{negated, lowered}
use Rattle.spread.specs.Spreading.{lift_at, lift_all}
use Rattle.spread.proofs.Sheets.{lift_length}
use Rattle.spread.proofs.Comparing.{lift_pour}
use Rattle.withdraw.specs.Inner.{TakenOff}

-- ---- one pair
cancel : (a b m : ℤ) → (a +ℤ neg_ℤ m) +ℤ (b +ℤ m) ≡ a +ℤ b
cancel a b m = zeq (search zlin depth 14) (omega arith)

module _ (s z : List ℤ) (i : ℕ) (r : Row) where
  -- what is added to both
  abbrev less : List ℤ
  less = lift_at s (negated r) (suc i)

  abbrev more : List ℤ
  more = lift_at z r (suc i)

  pair_both : 2 * i + 1 < length s → 2 * i + 1 < length z → (p : ℕ) → at less p +ℤ at more p ≡ at s p +ℤ at z p
  pair_both l k p = go (ℕ_discrete p (2 * i)) (ℕ_discrete p (2 * i + 1))
    where
      go : Dec (p ≡ 2 * i) → Dec (p ≡ 2 * i + 1) → at less p +ℤ at more p ≡ at s p +ℤ at z p
      go (yes q) b = rw q (ap₂ ◌+ℤ◌ (pair_mass s i _ _ (omega arith)) (pair_mass z i _ _ (omega arith)) ∙ cancel (at s (2 * i)) (at z (2 * i)) r.mass)
      go (no q) (yes w) = rw w (ap₂ ◌+ℤ◌ (pair_value s i _ _ l) (pair_value z i _ _ k) ∙ cancel (at s (2 * i + 1)) (at z (2 * i + 1)) r.value)
      go (no q) (no w) = ap₂ ◌+ℤ◌ (pair_else s i _ _ p q w) (pair_else z i _ _ p q w)

-- ---- all rows: those that are found are of the m points
module _ (c : Settings) (t : Table) (some : 0 < c.C) (P : Sparse c.C t.m (entry t)) where
  abbrev on : List ℤ → List Row → List ℤ
  on s rs = lift_all c t.keys t.index s rs

  low : (k : List ℤ) (i : ℕ) → found c t k ≡ suc i → i < t.m
  low k i e = found_low c.C t.m (key c t) (entry t) some P k i e

  opposite : (rs : List Row) (s z : List ℤ) → 2 * t.m ≤ length s → 2 * t.m ≤ length z → (p : ℕ) → at (on s (map negated rs)) p +ℤ at (on z rs) p ≡ at s p +ℤ at z p
  unfolding lift_all
  opposite [] s z l k p = refl
  opposite (r ∷ rs) s z l k p = go (found c t r.key) refl (opposite rs)
    where
      go : (e : ℕ) → found c t r.key ≡ e → ((s z : List ℤ) → 2 * t.m ≤ length s → 2 * t.m ≤ length z → (p : ℕ) → at (on s (map negated rs)) p +ℤ at (on z rs) p ≡ at s p +ℤ at z p)
          → at (on (lift_at s (negated r) e) (map negated rs)) p +ℤ at (on (lift_at z r e) rs) p ≡ at s p +ℤ at z p
      go zero q ih = ih s z l k p
      go (suc i) q ih =
          let h = low r.key i q in
          ih (less s z i r) (more s z i r) (omega (arith, pair_length s i (at s (2 * i) +ℤ neg_ℤ r.mass) (at s (2 * i + 1) +ℤ neg_ℤ r.value))) (omega (arith, pair_length z i (at z (2 * i) +ℤ r.mass) (at z (2 * i + 1) +ℤ r.value))) p
          ∙ pair_both s z i r (omega arith) (omega arith) p

  -- numbers past the last point stay
  past_all : (rs : List Row) (s : List ℤ) (p : ℕ) → 2 * t.m ≤ p → at (on s rs) p ≡ at s p
  unfolding lift_all
  past_all [] s p l = refl
  past_all (r ∷ rs) s p l = go (found c t r.key) refl (past_all rs)
    where
      go : (e : ℕ) → found c t r.key ≡ e → ((s : List ℤ) (p : ℕ) → 2 * t.m ≤ p → at (on s rs) p ≡ at s p) → at (on (lift_at s r e) rs) p ≡ at s p
      go zero q ih = ih s p l
      go (suc i) q ih = let h = low r.key i q in ih (lift_at s r (suc i)) p l ∙ pair_else s i _ _ p (λ y. absurd (omega (arith, y))) (λ y. absurd (omega (arith, y)))

  pub negated_found : (rs : List Row) → All (λ r. 0 < found c t r.key) rs → All (λ r. 0 < found c t r.key) (map negated rs)
  negated_found [] h = tt
  negated_found (r ∷ rs) h = (h.0, negated_found rs h.1)

  -- ---- rows on a sheet of n times 0, subtracted from the sums
  module _ (rs : List Row) (n : ℕ) (long : 2 * t.m ≤ n) (full : 2 * t.m ≤ length t.sums) (all : All (λ r. 0 < found c t r.key) rs)
      {sheet left : List ℤ} (spread : sheet ≡ on (replicate n (pos 0)) rs) (off : TakenOff (2 * t.m) t.sums sheet left) where
    part : (a b s z : ℤ) → a +ℤ b ≡ s +ℤ z → z ≡ pos 0 → a ≡ s -ℤ b
    part a b s z e q = sym (+ℤ-neg_ℤ_cancel a b) ∙ ap (λ (x : ℤ). x -ℤ b) (e ∙ ap (λ (x : ℤ). s +ℤ x) q ∙ +ℤ_idr s)

    pub is_lowered : left ≡ (lowered c t rs).sums
    is_lowered = ext_get_or (pos 0) left less_sums (off.size ∙ sym (lift_length c t.keys t.index (map negated rs) t.sums)) (λ p q. each p (dec_lt p (2 * t.m))) ∙ lift_pour c (map negated rs) t (negated_found rs all)
      where
        less_sums : List ℤ
        less_sums = on t.sums (map negated rs)

        each : (p : ℕ) → Dec (p < 2 * t.m) → at left p ≡ at less_sums p
        each p (yes h) = off.low p h ∙ sym (part (at less_sums p) (at sheet p) (at t.sums p) (at (replicate n (pos 0)) p)
            (ap (λ (l : List ℤ). at less_sums p +ℤ at l p) spread ∙ opposite rs t.sums (replicate n (pos 0)) full (omega (arith, length-replicate n (pos 0))) p) (zeros n p))
        each p (no h) = off.high p (omega (arith, h)) ∙ sym (past_all (map negated rs) t.sums p (omega (arith, h)))
