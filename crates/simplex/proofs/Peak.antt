-- The greatest of several numbers: that it is one of them, what is above it, and that it depends on them alone.
use mathlib.Core.Path.{◌≡◌, refl, ap₂}
use mathlib.Core.Logic.{◌⊎◌, inl, inr}
use Prim.Native.Nat.{ℕ, zero, suc, ◌≤◌, ◌<◌, max}
use native.Mathlib.Nat.{eq-or-lt_of_le, le_of_suc-le-suc}
use native.Mathlib.Decide.{dec_le}
use native.Mathlib.Omega.{arith}
use Rattle.simplex.specs.Inner.{peak}

pub peak_is : (d : ℕ) (f : ℕ → ℕ) → (h : ℕ) × (h < suc d) × (peak (suc d) f ≡ f h) × ((i : ℕ) → i < suc d → f i ≤ peak (suc d) f)
unfolding peak
peak_is zero f = (0, omega arith, omega arith, λ i l. let e : i ≡ 0 = omega arith in rw e (omega arith))
peak_is (suc d) f = go (peak_is d f) (dec_le (f (suc d)) (peak (suc d) f))
  where
    either : (i : ℕ) → ((i : ℕ) → i < suc d → f i ≤ peak (suc d) f) → (i ≡ suc d) ⊎ (i < suc d) → f i ≤ max (peak (suc d) f) (f (suc d))
    either i u (inl e) = rw e (omega arith)
    either i u (inr l) = omega (arith, u i l)

    go : ((h : ℕ) × (h < suc d) × (peak (suc d) f ≡ f h) × ((i : ℕ) → i < suc d → f i ≤ peak (suc d) f)) → Dec (f (suc d) ≤ peak (suc d) f)
        → (h : ℕ) × (h < suc (suc d)) × (max (peak (suc d) f) (f (suc d)) ≡ f h) × ((i : ℕ) → i < suc (suc d) → f i ≤ max (peak (suc d) f) (f (suc d)))
    go (h, l, e, u) (yes k) = (h, omega arith, omega arith, λ i m. either i u (eq-or-lt_of_le (le_of_suc-le-suc m)))
    go (h, l, e, u) (no k) = (suc d, omega arith, omega arith, λ i m. either i u (eq-or-lt_of_le (le_of_suc-le-suc m)))

pub peak_le : (n : ℕ) (f : ℕ → ℕ) (m : ℕ) → ((i : ℕ) → i < n → f i ≤ m) → peak n f ≤ m
unfolding peak
peak_le zero f m h = omega arith
peak_le (suc n) f m h = omega (arith, peak_le n f m (λ i l. h i (omega arith)), h n (omega arith))

pub peak_cong : (n : ℕ) (f g : ℕ → ℕ) → ((i : ℕ) → i < n → f i ≡ g i) → peak n f ≡ peak n g
unfolding peak
peak_cong zero f g h = refl
peak_cong (suc n) f g h = ap₂ max (peak_cong n f g (λ i l. h i (omega arith))) (h n (omega arith))
