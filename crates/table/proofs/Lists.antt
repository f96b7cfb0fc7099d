-- Lists: what holds of every element and of every two, lists made place by place, and sums over lists. Assumes nothing.
use mathlib.Core.Path.{◌≡◌, refl, sym, ap, ap₂, ◌∙◌, subst}
use mathlib.Core.Logic.{◌⊎◌, inl, inr, ◌≢◌}
use mathlib.Core.List.{List, [], ◌∷◌, ◌++◌, map, append-nil, append_assoc}
use Prim.Native.Nat.{ℕ, zero, suc, ◌+◌, ◌-◌, ◌<◌}
use native.Mathlib.Nat.{not-suc-le-zero, le_of_suc-le-suc, eq-or-lt_of_le}
use native.Mathlib.Omega.{arith}
use lib.IntN.{ℤ, +ℤ_idr, +ℤ_assoc, ◌+ℤ◌}
use lib.ListN.{length, get_or, set}
use Rattle.whole.specs.Sum.{sum, over}
use Rattle.whole.specs.Lists.{tab, collect, All, Each}
use Rattle.whole.proofs.Linear.{on, difs, ints}
use Rattle.whole.proofs.Sum.{sum_first, over_append}
use Rattle.whole.proofs.Lists.{tab_cong}

module _ {A : Type 0} where
  -- ---- two lists one after the other
  pub all_append : (Q : A → Type 0) (l m : List A) → All Q l → All Q m → All Q (l ++ m)
  all_append Q [] m h k = k
  all_append Q (a ∷ l) m h k = (h.0, all_append Q l m h.1 k)

  -- ---- f 0, …, f (n - 1)
  pub tab_snoc : (n : ℕ) (f : ℕ → A) → tab (suc n) f ≡ tab n f ++ (f n ∷ [])
  unfolding tab
  tab_snoc zero f = refl
  tab_snoc (suc n) f = ap (λ (l : List A). f 0 ∷ l) (tab_snoc n (λ i. f (suc i)))

  -- the first j, and the k after them
  pub tab_add : (j k : ℕ) (f : ℕ → A) → tab (j + k) f ≡ tab j f ++ tab k (λ i. f (j + i))
  unfolding tab
  tab_add zero k f = let e : zero + k ≡ k = omega arith in rw e (tab_cong k f (λ i. f (0 + i)) (λ i h. let q : i ≡ 0 + i = omega arith in ap f q))
  tab_add (suc j) k f = let e : suc j + k ≡ suc (j + k) = omega arith in
      rw e (ap (λ (l : List A). f 0 ∷ l) (tab_add j k (λ i. f (suc i)) ∙ ap (λ (l : List A). tab j (λ i. f (suc i)) ++ l)
      (tab_cong k (λ i. f (suc (j + i))) (λ i. f (suc j + i)) (λ i h. let q : suc (j + i) ≡ suc j + i = omega arith in ap f q))))

  -- the elements before place j, the one there, and those after
  pub tab_parts : (n : ℕ) (f : ℕ → A) (j : ℕ) → j < n → tab n f ≡ tab j f ++ (f j ∷ tab (n - suc j) (λ i. f (j + suc i)))
  unfolding tab
  tab_parts n f j l = let e : n ≡ j + suc (n - suc j) = omega arith in let q : j + 0 ≡ j = omega arith in
      ap (λ (n : ℕ). tab n f) e ∙ tab_add j (suc (n - suc j)) f ∙ ap (λ (i : ℕ). tab j f ++ (f i ∷ tab (n - suc j) (λ i. f (j + suc i)))) q

  pub tab_set : (n : ℕ) (f g : ℕ → A) (i : ℕ) → i < n → ((j : ℕ) → j ≢ i → g j ≡ f j) → tab n g ≡ set (tab n f) i (g i)
  unfolding tab
  tab_set zero f g i l e = absurd (not-suc-le-zero l)
  tab_set (suc n) f g zero l e = ap (λ (l : List A). g 0 ∷ l) (tab_cong n (λ i. g (suc i)) (λ i. f (suc i)) (λ i m. e (suc i) (omega arith)))
  tab_set (suc n) f g (suc i) l e = ap₂ ◌∷◌ (e 0 (omega arith)) (tab_set n (λ i. f (suc i)) (λ i. g (suc i)) i (le_of_suc-le-suc l) (λ j m. e (suc j) (omega arith)))

  pub tab_self : (l : List A) (n : ℕ) (a : A) → length l ≡ n → tab n (λ i. get_or l i a) ≡ l
  unfolding tab
  tab_self [] n a e = rw (← e)
  tab_self (b ∷ l) zero a e = absurd (omega arith)
  tab_self (b ∷ l) (suc n) a e = ap (λ (l : List A). b ∷ l) (tab_self l n a (omega arith))

  -- lists one after the other, cut before one of them
  pub collect_parts : (n : ℕ) (g : ℕ → List A) (k : ℕ) → k < n → (rest : List A) × (collect n g ≡ collect k g ++ (g k ++ rest))
  unfolding collect
  collect_parts zero g k l = absurd (not-suc-le-zero l)
  collect_parts (suc n) g k l = go (eq-or-lt_of_le (le_of_suc-le-suc l)) (collect_parts n g k)
    where
      go : (k ≡ n) ⊎ (k < n) → (k < n → (rest : List A) × (collect n g ≡ collect k g ++ (g k ++ rest))) → (rest : List A) × (collect n g ++ g n ≡ collect k g ++ (g k ++ rest))
      go (inl e) ih = ([], rw (e, append-nil (g n)))
      go (inr h) ih = let t = ih h in (
        t.0 ++ g n,
        ap (λ (l : List A). l ++ g n) t.1 ∙ append_assoc (collect k g) (g k ++ t.0) (g n) ∙ ap (λ (l : List A). collect k g ++ l) (append_assoc (g k) t.0 (g n)),
      )

  -- ---- each element has the property Q
  pub all_tab : (Q : A → Type 0) (n : ℕ) (f : ℕ → A) → ((i : ℕ) → i < n → Q (f i)) → All Q (tab n f)
  unfolding tab
  all_tab Q zero f h = tt
  all_tab Q (suc n) f h = (h 0 (omega arith), all_tab Q n (λ i. f (suc i)) (λ i l. h (suc i) (omega arith)))

  pub all_list : (Q : A → Type 0) (l : List A) (a : A) → ((i : ℕ) → i < length l → Q (get_or l i a)) → All Q l
  all_list Q l a h = subst (All Q) (tab_self l (length l) a refl) (all_tab Q (length l) (λ i. get_or l i a) h)

  pub all_before : (Q : A → Type 0) (l m : List A) → All Q (l ++ m) → All Q l
  all_before Q [] m h = tt
  all_before Q (a ∷ l) m h = (h.0, all_before Q l m h.1)

  pub all_after : (Q : A → Type 0) (l m : List A) → All Q (l ++ m) → All Q m
  all_after Q [] m h = h
  all_after Q (a ∷ l) m h = all_after Q l m h.1

  -- ---- R holds of each element and each one after it
  pub each_tab : (R : A → A → Type 0) (n : ℕ) (f : ℕ → A) → ((i j : ℕ) → i < j → j < n → R (f i) (f j)) → Each R (tab n f)
  unfolding tab
  each_tab R zero f h = tt
  each_tab R (suc n) f h = (
    all_tab (R (f 0)) n (λ i. f (suc i)) (λ j l. h 0 (suc j) (omega arith) (omega arith)),
    each_tab R n (λ i. f (suc i)) (λ i j k l. h (suc i) (suc j) (omega arith) (omega arith)),
  )

  pub each_list : (R : A → A → Type 0) (l : List A) (a : A) → ((i j : ℕ) → i < j → j < length l → R (get_or l i a) (get_or l j a)) → Each R l
  each_list R l a h = subst (Each R) (tab_self l (length l) a refl) (each_tab R (length l) (λ i. get_or l i a) h)

  pub each_before : (R : A → A → Type 0) (l m : List A) → Each R (l ++ m) → Each R l
  each_before R [] m h = tt
  each_before R (a ∷ l) m h = (all_before (R a) l m h.0, each_before R l m h.1)

  -- ---- sums over a list
  pub over_snoc : (l : List A) (a : A) (f : A → ℤ) → over (l ++ (a ∷ [])) f ≡ over l f +ℤ f a
  unfolding over
  over_snoc l a f = over_append l (a ∷ []) f ∙ ap (λ (z : ℤ). over l f +ℤ z) (+ℤ_idr (f a))

  -- an element put in the place of another
  pub over_set : (f : A → ℤ) (l : List A) (i : ℕ) (a b : A) (z : ℤ) → i < length l → f a ≡ f (get_or l i b) +ℤ z → over (set l i a) f ≡ over l f +ℤ z
  unfolding over
  over_set f [] i a b z l e = absurd (not-suc-le-zero l)
  over_set f (x ∷ xs) zero a b z l e = ap (λ (y : ℤ). y +ℤ over xs f) e ∙ lin (f x) z (over xs f)
    where
      lin : (a b c : ℤ) → a +ℤ b +ℤ c ≡ a +ℤ c +ℤ b
      lin = on _ λ a b. on _ λ c d. on _ λ e f. simp difs (omega ints)
  over_set f (x ∷ xs) (suc i) a b z l e = ap (λ (y : ℤ). f x +ℤ y) (over_set f xs i a b z (le_of_suc-le-suc l) e) ∙ sym (+ℤ_assoc (f x) (over xs f) z)

  pub over_tab : (n : ℕ) (g : ℕ → A) (f : A → ℤ) → over (tab n g) f ≡ sum n (λ i. f (g i))
  unfolding over tab sum
  over_tab zero g f = refl
  over_tab (suc n) g f = ap (λ (z : ℤ). f (g 0) +ℤ z) (over_tab n (λ i. g (suc i)) f) ∙ sym (sum_first n (λ i. f (g i)))

module _ {A B : Type 0} where
  pub map_tab : (g : A → B) (n : ℕ) (f : ℕ → A) → map g (tab n f) ≡ tab n (λ i. g (f i))
  unfolding tab
  map_tab g zero f = refl
  map_tab g (suc n) f = ap (λ (l : List B). g (f 0) ∷ l) (map_tab g n (λ i. f (suc i)))

  pub all_map : (Q : B → Type 0) (f : A → B) (l : List A) → All (λ a. Q (f a)) l → All Q (map f l)
  all_map Q f [] h = tt
  all_map Q f (a ∷ l) h = (h.0, all_map Q f l h.1)

  pub each_map : (R : B → B → Type 0) (f : A → B) (l : List A) → Each (λ a b. R (f a) (f b)) l → Each R (map f l)
  each_map R f [] h = tt
  each_map R f (a ∷ l) h = (all_map (R (f a)) f l h.0, each_map R f l h.1)

  pub over_map : (g : A → B) (l : List A) (f : B → ℤ) → over (map g l) f ≡ over l (λ a. f (g a))
  unfolding over
  over_map g [] f = refl
  over_map g (a ∷ l) f = ap (λ (z : ℤ). f (g a) +ℤ z) (over_map g l f)
