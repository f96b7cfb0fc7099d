-- How many places pass a test. Assumes nothing.
use Rattle.std.proofs.Common.{◌≡◌, ℕ, zero, suc, ◌+◌, ◌<◌, Bool, true, false, cond, ◌≢◌, refl, subst, le_refl, not-suc-le-zero, arith}
use native.Mathlib.Decide.{ℕ_discrete}
use Rattle.index.specs.Indexed.{count}

pub count_cong : (n : ℕ) (f g : ℕ → Bool) → ((i : ℕ) → i < n → f i ≡ g i) → count n f ≡ count n g
unfolding count
count_cong zero f g e = refl
count_cong (suc n) f g e = rw (count_cong n f g (λ i l. e i (omega arith)), e n (le_refl (suc n)))

-- one place more
pub count_more : (n : ℕ) (f g : ℕ → Bool) (q : ℕ) → q < n → f q ≡ false → g q ≡ true → ((i : ℕ) → i ≢ q → f i ≡ g i) → count n g ≡ suc (count n f)
unfolding count
count_more zero f g q l a b e = absurd (not-suc-le-zero l)
count_more (suc n) f g q l a b e = go (ℕ_discrete n q) (count_more n f g q)
  where
    go : Dec (n ≡ q) → (q < n → f q ≡ false → g q ≡ true → ((i : ℕ) → i ≢ q → f i ≡ g i) → count n g ≡ suc (count n f)) → count n g + cond (g n) 1 0 ≡ suc (count n f + cond (f n) 1 0)
    go (yes i) ih = rw (i, a, b) (omega (arith, count_cong q f g (λ j k. e j (λ h. absurd (omega arith)))))
    go (no i) ih = rw (← (e n i)) (omega (arith, ih (omega arith) a b e))

-- fewer than all
pub count_gap : (n : ℕ) (f : ℕ → Bool) → count n f < n → (p : ℕ) × (p < n) × (f p ≡ false)
unfolding count
count_gap zero f l = absurd (not-suc-le-zero l)
count_gap (suc n) f l = go (f n) refl (count_gap n f)
  where
    go : (b : Bool) → f n ≡ b → (count n f < n → (p : ℕ) × (p < n) × (f p ≡ false)) → (p : ℕ) × (p < suc n) × (f p ≡ false)
    go false e ih = (n, le_refl (suc n), e)
    go true e ih =
        let l' : count n f + cond true 1 0 < suc n = subst (λ (b : Bool). count n f + cond b 1 0 < suc n) e l in
        let t = ih (omega arith) in (t.0, omega (arith, t.1), t.2)
