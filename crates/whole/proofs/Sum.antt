-- Sums over places and over lists, and Hermite's identity. Assumes nothing.
use mathlib.Core.Path.{◌≡◌, refl, sym, ap, ap₂, ◌∙◌}
use mathlib.Core.Logic.{◌⊎◌, inl, inr}
use mathlib.Core.Bool.{Bool, cond}
use mathlib.Core.List.{List, [], ◌∷◌, ◌++◌}
use Prim.Native.Nat.{ℕ, zero, suc, ◌+◌, ◌*◌, ◌<◌}
use native.Mathlib.Nat.{not-suc-le-zero, le_refl, eq-or-lt_of_le, le_of_suc-le-suc}
use native.Mathlib.Numerals.{add-one}
use native.Mathlib.Omega.{arith}
use lib.IntN.{neg_ℤ-+ℤ, +ℤ_idl, +ℤ_idr, +ℤ_assoc, *ℤ-zero, zero-*ℤ, ℤ, pos, neg_ℤ, ◌+ℤ◌, ◌*ℤ◌}
use lib.Signed.{◌≤ℤ◌}
use lib.Dec.{T}
use lib.ListN.{length, get_or}
use Rattle.whole.specs.Size.{P, N, Abs≤}
use Rattle.whole.specs.Floor.{floor}
use Rattle.whole.specs.Sum.{sum, over}
use Rattle.whole.proofs.Parts.{add_is, eq_out, le_out}
use Rattle.whole.proofs.Linear.{on, difs, ints}
use Rattle.whole.proofs.Signed.{zlin}
use Rattle.whole.proofs.Ring.{*-dist-l, add_mono}
use Rattle.whole.proofs.Size.{zabs}
use Rattle.whole.proofs.Floor.{floor_is, floor_next}
use Rattle.whole.proofs.Tests.{T_true, T_false}

add4 : (a b c d : ℤ) → a +ℤ b +ℤ (c +ℤ d) ≡ a +ℤ c +ℤ (b +ℤ d)
add4 = on _ λ p m. on _ λ p' m'. on _ λ p'' m''. on _ λ q r. simp difs (omega ints)

suc_times : (n : ℕ) (c : ℤ) → pos n *ℤ c +ℤ c ≡ pos (suc n) *ℤ c
suc_times n = on _ λ p m. simp difs (omega ints)

-- ---- sums
pub sum_more : (n : ℕ) (f : ℕ → ℤ) → sum (n + 1) f ≡ sum n f +ℤ f n
unfolding sum
sum_more n f = rw add-one refl

pub sum_cong : (n : ℕ) (f g : ℕ → ℤ) → ((i : ℕ) → i < n → f i ≡ g i) → sum n f ≡ sum n g
unfolding sum
sum_cong zero f g h = refl
sum_cong (suc n) f g h = ap₂ ◌+ℤ◌ (sum_cong n f g (λ i l. h i (omega arith))) (h n (le_refl (suc n)))

pub sum_add : (n : ℕ) (f g : ℕ → ℤ) → sum n (λ i. f i +ℤ g i) ≡ sum n f +ℤ sum n g
unfolding sum
sum_add zero f g = refl
sum_add (suc n) f g = rw (sum_add n f g) (add4 (sum n f) (sum n g) (f n) (g n))

pub sum_mul : (n : ℕ) (c : ℤ) (f : ℕ → ℤ) → sum n (λ i. c *ℤ f i) ≡ c *ℤ sum n f
unfolding sum
sum_mul zero c f = sym (*ℤ-zero c)
sum_mul (suc n) c f = rw (sum_mul n c f) (sym (*-dist-l c (sum n f) (f n)))

pub sum_neg : (n : ℕ) (f : ℕ → ℤ) → sum n (λ i. neg_ℤ (f i)) ≡ neg_ℤ (sum n f)
unfolding sum
sum_neg zero f = refl
sum_neg (suc n) f = rw (sum_neg n f) (sym (neg_ℤ-+ℤ (sum n f) (f n)))

pub sum_const : (n : ℕ) (c : ℤ) → sum n (λ i. c) ≡ pos n *ℤ c
unfolding sum
sum_const zero c = sym (zero-*ℤ c)
sum_const (suc n) c = rw (sum_const n c) (suc_times n c)

pub sum_zero : (n : ℕ) → sum n (λ i. pos 0) ≡ pos 0
sum_zero n = sum_const n (pos 0) ∙ *ℤ-zero (pos n)

pub sum_swap : (n k : ℕ) (f : ℕ → ℕ → ℤ) → sum n (λ i. sum k (f i)) ≡ sum k (λ j. sum n (λ i. f i j))
unfolding sum
sum_swap zero k f = sym (sum_zero k)
sum_swap (suc n) k f = rw (sum_swap n k f) (sym (sum_add k (λ j. sum n (λ i. f i j)) (f n)))

pub sum_le : (n : ℕ) (f g : ℕ → ℤ) → ((i : ℕ) → i < n → f i ≤ℤ g i) → sum n f ≤ℤ sum n g
unfolding sum
sum_le zero f g h = le_out (pos 0) (pos 0) (omega arith)
sum_le (suc n) f g h = add_mono (sum_le n f g (λ i l. h i (omega arith))) (h n (le_refl (suc n)))

-- n numbers of size at most B
pub sum_abs : (n : ℕ) (f : ℕ → ℤ) (B : ℕ) → ((i : ℕ) → i < n → Abs≤ (f i) B) → Abs≤ (sum n f) (n * B)
unfolding sum
sum_abs zero f B h = record { abs = omega arith }
sum_abs (suc n) f B h = go (sum n f) (f n) (sum_abs n f B (λ i l. h i (omega arith))) (h n (le_refl (suc n)))
  where
    go : (a b : ℤ) → Abs≤ a (n * B) → Abs≤ b B → Abs≤ (a +ℤ b) (suc n * B)
    go a b p q = zabs (search zlin depth 14) (omega arith)

-- below at each place, and not in the sum: the same at each place
pub sum_tight : (n : ℕ) (f g : ℕ → ℤ) → ((i : ℕ) → i < n → f i ≤ℤ g i) → sum n g ≤ℤ sum n f → (i : ℕ) → i < n → f i ≡ g i
unfolding sum
sum_tight zero f g h t i l = absurd (not-suc-le-zero l)
sum_tight (suc n) f g h t i l = go (eq-or-lt_of_le (le_of_suc-le-suc l)) (sum_tight n f g h' (lin (sum n f) (sum n g) (f n) (g n) (h n (le_refl (suc n))) t) i)
  where
    h' : (i : ℕ) → i < n → f i ≤ℤ g i
    h' i l = h i (omega arith)

    lin : (a b c d : ℤ) → c ≤ℤ d → (b +ℤ d) ≤ℤ (a +ℤ c) → b ≤ℤ a
    lin = on _ λ a b. on _ λ c d. on _ λ e f. on _ λ g h. simp difs (omega ints)

    last : (a b c d : ℤ) → c ≤ℤ d → (b +ℤ d) ≤ℤ (a +ℤ c) → a ≤ℤ b → c ≡ d
    last = on _ λ a b. on _ λ c d. on _ λ e f. on _ λ g h. simp difs (omega ints)

    go : (i ≡ n) ⊎ (i < n) → (i < n → f i ≡ g i) → f i ≡ g i
    go (inl e) ih = rw e (last (sum n f) (sum n g) (f n) (g n) (h n (le_refl (suc n))) t (sum_le n f g h'))
    go (inr k) ih = ih k

-- ---- one test passes: Σ of what is picked
abbrev pub pick : Bool → ℤ → ℤ
pick b z = cond b z (pos 0)

pub none : (n : ℕ) (h : ℕ → Bool) (f : ℕ → ℤ) → ((i : ℕ) → i < n → T (h i) → ⊥) → sum n (λ i. pick (h i) (f i)) ≡ pos 0
none n h f no_hit = sum_cong n (λ i. pick (h i) (f i)) (λ i. pos 0) (λ i l. rw (T_false (h i) (no_hit i l))) ∙ sum_zero n

pub one_hit : (n : ℕ) (h : ℕ → Bool) (f : ℕ → ℤ) (s : ℕ) → s < n → T (h s) → ((i : ℕ) → i < n → T (h i) → i ≡ s) → sum n (λ i. pick (h i) (f i)) ≡ f s
unfolding sum
one_hit zero h f s l t u = absurd (not-suc-le-zero l)
one_hit (suc n) h f s l t u = go (λ k. one_hit n h f s k t (λ i m. u i (omega arith))) (eq-or-lt_of_le (le_of_suc-le-suc l))
  where
    go : (s < n → sum n (λ i. pick (h i) (f i)) ≡ f s) → (s ≡ n) ⊎ (s < n) → sum n (λ i. pick (h i) (f i)) +ℤ pick (h n) (f n) ≡ f s
    go ih (inl e) =
        let t' : T (h n) = rw e at t in
        rw (none n h f (λ i m q. let z : i ≡ s = u i (omega arith) q in omega arith), T_true (h n) t', e) (+ℤ_idl (f n))
    go ih (inr k) = rw (ih k, T_false (h n) (λ q. let z : n ≡ s = u n (le_refl (suc n)) q in omega arith)) (+ℤ_idr (f s))

-- ---- Hermite: Σ_{u<m} ⌊(v+u)/m⌋ = v
pub sum_first : (n : ℕ) (f : ℕ → ℤ) → sum (suc n) f ≡ f 0 +ℤ sum n (λ i. f (suc i))
unfolding sum
sum_first zero f = +ℤ_idl (f 0) ∙ sym (+ℤ_idr (f 0))
sum_first (suc n) f = rw (sum_first n f) (+ℤ_assoc (f 0) (sum n (λ i. f (suc i))) (f (suc n)))

her : ℕ → ℤ → ℤ
her m v = sum m (λ u. floor (v +ℤ pos u) m)

her_suc : (m : ℕ) (v : ℤ) → 0 < m → her m (v +ℤ pos 1) ≡ her m v +ℤ pos 1
unfolding her sum
her_suc m v h = lin (floor v m) (her m (v +ℤ pos 1)) (her m v) (floor (v +ℤ pos m) m) e (floor_next v m h)
  where
    lin : (f g g' f' : ℤ) → f +ℤ g ≡ g' +ℤ f' → f' ≡ f +ℤ pos 1 → g ≡ g' +ℤ pos 1
    lin = on _ λ a b. on _ λ c d. on _ λ e f. on _ λ g k. simp difs (omega ints)

    shift : (u : ℕ) (v : ℤ) → v +ℤ pos (suc u) ≡ v +ℤ pos 1 +ℤ pos u
    shift u = on _ λ a b. simp difs (omega ints)

    e : floor v m +ℤ her m (v +ℤ pos 1) ≡ her m v +ℤ floor (v +ℤ pos m) m
    e = ap₂ ◌+ℤ◌ (ap (λ (z : ℤ). floor z m) (sym (+ℤ_idr v)))
        (sum_cong m (λ u. floor (v +ℤ pos 1 +ℤ pos u) m) (λ u. floor (v +ℤ pos (suc u)) m) (λ u l. ap (λ (z : ℤ). floor z m) (sym (shift u v))))
        ∙ sym (sum_first m (λ u. floor (v +ℤ pos u) m))

her_add : (m : ℕ) (v : ℤ) (k : ℕ) → 0 < m → her m (v +ℤ pos k) ≡ her m v +ℤ pos k
her_add m v zero h = rw (+ℤ_idr v) (sym (+ℤ_idr (her m v)))
her_add m v (suc k) h = ap (her m) (lin k v) ∙ her_suc m (v +ℤ pos k) h ∙ ap (λ (z : ℤ). z +ℤ pos 1) (her_add m v k h) ∙ sym (lin k (her m v))
  where
    lin : (k : ℕ) (v : ℤ) → v +ℤ pos (suc k) ≡ v +ℤ pos k +ℤ pos 1
    lin k = on _ λ a b. simp difs (omega ints)

her_zero : (m : ℕ) → her m (pos 0) ≡ pos 0
unfolding her
her_zero m = sum_cong m (λ u. floor (pos 0 +ℤ pos u) m) (λ u. pos 0) (λ u l. floor_is (pos 0 +ℤ pos u) (pos 0) m u l (lin m u)) ∙ sum_zero m
  where
    lin : (m u : ℕ) → pos 0 +ℤ pos u ≡ pos m *ℤ pos 0 +ℤ pos u
    lin m u = simp difs (omega ints)

z_pn : (v : ℤ) → v +ℤ pos (N v) ≡ pos 0 +ℤ pos (P v)
z_pn v = eq_out (v +ℤ pos (N v)) (pos 0 +ℤ pos (P v)) (omega (arith, add_is v (pos (N v))))

pub hermite : (m : ℕ) (v : ℤ) → 0 < m → sum m (λ u. floor (v +ℤ pos u) m) ≡ v
unfolding her
hermite m v h = lin (her m v) v (her m (pos 0)) (pos (N v)) (pos (P v)) (sym (her_add m v (N v) h) ∙ ap (her m) (z_pn v) ∙ her_add m (pos 0) (P v) h) (her_zero m) (z_pn v)
  where
    lin : (g v o a b : ℤ) → g +ℤ a ≡ o +ℤ b → o ≡ pos 0 → v +ℤ a ≡ pos 0 +ℤ b → g ≡ v
    lin = on _ λ a b. on _ λ c d. on _ λ e f. on _ λ g k. on _ λ i j. simp difs (omega ints)

-- ---- sums over a list
pub sum_list : {A : Type 0} (l : List A) (a : A) (f : A → ℤ) → sum (length l) (λ m. f (get_or l m a)) ≡ over l f
unfolding over sum
sum_list [] a f = refl
sum_list (b ∷ l) a f = sum_first (length l) (λ m. f (get_or (b ∷ l) m a)) ∙ ap (λ (z : ℤ). f b +ℤ z) (sum_list l a f)

pub over_append : {A : Type 0} (l r : List A) (f : A → ℤ) → over (l ++ r) f ≡ over l f +ℤ over r f
unfolding over
over_append [] r f = sym (+ℤ_idl (over r f))
over_append (b ∷ l) r f = ap (λ (z : ℤ). f b +ℤ z) (over_append l r f) ∙ sym (+ℤ_assoc (f b) (over l f) (over r f))
