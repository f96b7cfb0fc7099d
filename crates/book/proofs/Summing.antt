-- Every sum over the points of a sound table is the sum over what its book's readings add: they are taken back one after the other, until none is left and
-- with it no point.
use mathlib.Core.Path.{◌≡◌, ap, ◌∙◌}
use mathlib.Core.List.{List, [], ◌∷◌}
use Prim.Native.Nat.{ℕ, zero, suc, ◌*◌, ◌<◌}
use native.Mathlib.Omega.{arith}
use lib.IntN.{ℤ, pos, neg_ℤ, ◌+ℤ◌}
use lib.Signed.{◌≤ℤ◌}
use Rattle.whole.specs.Sum.{sum, over}
use Rattle.whole.specs.Lists.{tab}
use Rattle.whole.proofs.Linear.{on, difs, ints}
use Rattle.lattice.specs.Weight.{W}
use Rattle.table.specs.Table.{Settings, Table, Row, mass, row, rows}
use Rattle.table.specs.Reading.{shares}
use Rattle.table.specs.Sound.{Fine}
use Rattle.table.proofs.Rows.{Additive}
use Rattle.table.proofs.Soundness.{sum_low}
use Rattle.book.specs.Book.{Numbered, readings_of, Carries}
use Rattle.book.specs.Withdraw.{withdrawn}
use Rattle.book.proofs.Withdrawing.{withdrawn_fine, withdrawn_carries, withdrawn_sums}

-- masses of 1 or more come to 0 only where there is none
no_points : (m : ℕ) (f : ℕ → ℤ) → ((i : ℕ) → i < m → pos 1 ≤ℤ f i) → sum m f ≡ pos 0 → m ≡ 0
unfolding sum
no_points zero f h e = omega arith
no_points (suc m) f h e = absurd (above (sum m f) (f m) (sum_low m f (λ i l. h i (omega arith))) (h m (omega arith)) e)
  where
    above : (a b : ℤ) → pos 0 ≤ℤ a → pos 1 ≤ℤ b → a +ℤ b ≡ pos 0 → ⊥
    above = on _ λ a b. on _ λ c d. simp difs (omega ints)

pub carried_sums : (c : Settings) (es : List Numbered) (t : Table) → Fine c t → Carries c t es → (f : Row → ℤ) → Additive f
    → over (rows c t) f ≡ over (readings_of es) (λ r. over (shares c.d c.S r) f)
unfolding over rows tab
carried_sums c [] t F K f A = ap (λ (m : ℕ). over (tab m (row c t)) f) none
  where
    times_none : (w : ℕ) → w * 0 ≡ 0
    times_none w = omega arith

    none : t.m ≡ 0
    none = no_points t.m (mass t) (λ i l. (F.sound.good i l).some) (F.sound.masses ∙ ap (λ (n : ℕ). pos (W c.d c.S * n)) K.counts ∙ ap pos (times_none (W c.d c.S)))
carried_sums c (e ∷ es) t F K f A =
    back (over (rows c t) f) (over (shares c.d c.S e.reading) f) _ _ (withdrawn_sums c t F [] es e K f A)
    (carried_sums c es (withdrawn c t e.reading) (withdrawn_fine c t F [] es e K) (withdrawn_carries c t F [] es e K) f A)
  where
    back : (a b x y : ℤ) → x ≡ a +ℤ neg_ℤ b → x ≡ y → a ≡ b +ℤ y
    back = on _ λ a b. on _ λ c d. on _ λ e f. on _ λ g h. simp difs (omega ints)
