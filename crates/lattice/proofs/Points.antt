-- The list `points`: it has each point of weight above 0 once, in ascending remainder; so the weights sum to W, and weight times point to (d+1)·x.
use mathlib.Core.Path.{◌≡◌, refl, sym, ap, ◌∙◌, subst}
use mathlib.Core.Logic.{◌⊎◌, inl, inr}
use mathlib.Core.Bool.{Bool, true, false, cond}
use native.Mathlib.Omega.{arith}
use lib.IntN.{ℤ, pos, ◌-ℤ◌, ◌*ℤ◌}
use mathlib.Core.List.{List, [], ◌∷◌, ◌++◌, append-nil}
use Prim.Native.Nat.{ℕ, zero, suc, ◌≤◌, ◌<◌}
use native.Mathlib.Nat.{not-suc-le-zero, le_of_suc-le-suc, eq-or-lt_of_le, le_refl}
use native.Mathlib.Decide.{dec_lt}
use lib.Signed.{le_z}
use lib.Dec.{T, eqb, eqb→eq, eqb_refl}
use lib.ListN.{length, get_or, length-append, get_or-append}
use lib.Seq.{ext_get_or, get_or-append_seam}
use Rattle.whole.specs.Floor.{remainder}
use Rattle.whole.specs.Sum.{sum, over}
use Rattle.whole.specs.Lists.{at, tab, collect}
use Rattle.whole.proofs.Floor.{remainder_lt}
use Rattle.whole.proofs.Sum.{sum_cong, sum_list}
use Rattle.whole.proofs.Lists.{length_tab, get_or_tab}
use Rattle.lattice.specs.Lattice.{Lattice, Point, remainder_of}
use Rattle.lattice.specs.Weight.{best, ge_z, residual, spread, W, weight}
use Rattle.lattice.specs.Points.{Points, corner_at, corner, last_of, points}
use Rattle.lattice.specs.Theorems.{OneOfEach, ExactlyThese, WeightsSum, Moment}
use Rattle.lattice.proofs.Corners.{corner_lattice as Corners·lattice, corner_weight as Corners·weight, a_corner as Corners·a-corner, one_each, weights, moment}

-- ---- what depends on the first d + 1 places only
pub lattice_cong : (d : ℕ) (f g : ℕ → ℤ) → ((i : ℕ) → i < suc d → f i ≡ g i) → Lattice (suc d) f → Lattice (suc d) g
lattice_cong d f g e L = record {
  total = sym (sum_cong (suc d) f g e) ∙ L.total;
  same = λ i l. ap (λ (z : ℤ). remainder z (suc d)) (sym (e i l)) ∙ L.same i l ∙ ap (λ (z : ℤ). remainder z (suc d)) (e 0 (omega arith));
}

best_cong : (r : ℤ → ℤ → Bool) (d : ℕ) (f g : ℕ → ℤ) → ((i : ℕ) → i < suc d → f i ≡ g i) → best r d f ≡ best r d g
unfolding best
best_cong r zero f g e = e 0 (omega arith)
best_cong r (suc d) f g e = rw (best_cong r d f g (λ i l. e i (omega arith)), e (suc d) (le_refl (suc (suc d))))

pub weight_cong : (d S : ℕ) (x f g : ℕ → ℤ) → ((i : ℕ) → i < suc d → f i ≡ g i) → weight d S x f ≡ weight d S x g
unfolding weight spread
weight_cong d S x f g e = rw (best_cong le_z d (residual S x f) (residual S x g) e', best_cong ge_z d (residual S x f) (residual S x g) e')
  where
    e' : (i : ℕ) → i < suc d → residual S x f i ≡ residual S x g i
    e' i l = ap (λ (z : ℤ). x i -ℤ pos S *ℤ z) (e i l)

module _ (d S : ℕ) (p : 0 < S) (x : List ℤ) where
  pub corner_at_lem : (j i : ℕ) → i < suc d → at (corner d S x j) i ≡ corner_at d S (at x) j i
  unfolding corner
  corner_at_lem j i l = get_or_tab (suc d) (corner_at d S (at x) j) i (pos 0) l

  pub corner_point : (j : ℕ) → Point d (corner d S x j)
  unfolding corner
  corner_point j = record {
    size = length_tab (suc d) (corner_at d S (at x) j);
    lattice = lattice_cong d (corner_at d S (at x) j) (at (corner d S x j)) (λ i l. sym (corner_at_lem j i l)) (Corners·lattice d S p (at x) j);
  }

  pub corner_weight : (j : ℕ) → j < suc d → 0 < weight d S (at x) (at (corner d S x j))
  corner_weight j q = rw (weight_cong d S (at x) (at (corner d S x j)) (corner_at d S (at x) j) (corner_at_lem j)) (Corners·weight d S p (at x) j q)

  pub one_of : (y y' : List ℤ) → Point d y → Point d y' → 0 < weight d S (at x) (at y) → 0 < weight d S (at x) (at y') → remainder_of d (at y) ≡ remainder_of d (at y') → y ≡ y'
  one_of y y' Y Y' w w' e = ext_get_or (pos 0) y y' (Y.size ∙ sym Y'.size)
      (λ i l. one_each d S p (at x) (at y) (at y') Y.lattice Y'.lattice w w' e i (rw Y.size at l))

  pub a_corner : (y : List ℤ) → Point d y → 0 < weight d S (at x) (at y) → (j : ℕ) × (j < suc d) × (y ≡ corner d S x j)
  a_corner y Y w =
      let v = Corners·a-corner d S p (at x) (at y) Y.lattice w in
      (v.0, v.1, ext_get_or (pos 0) y (corner d S x v.0) (Y.size ∙ sym (corner_point v.0).size) (λ i l. let k : i < suc d = rw Y.size at l in v.2 i k ∙ sym (corner_at_lem v.0 i k)))

  corner_one : (j j' : ℕ) → j < suc d → j' < suc d → remainder_of d (at (corner d S x j)) ≡ remainder_of d (at (corner d S x j')) → corner d S x j ≡ corner d S x j'
  corner_one j j' q q' e = one_of (corner d S x j) (corner d S x j') (corner_point j) (corner_point j') (corner_weight j q) (corner_weight j' q') e

  abbrev key : List ℤ → ℕ
  key y = remainder_of d (at y)

  -- ---- the list of points, remainder by remainder
  record Upto (ps : List (List ℤ)) (K : ℕ) : Type 0 where
    each : (m : ℕ) → m < length ps → (j : ℕ) × (j < suc d) × (get_or ps m [] ≡ corner d S x j)
    low : (m : ℕ) → m < length ps → key (get_or ps m []) < K
    asc : (m m' : ℕ) → m < m' → m' < length ps → key (get_or ps m []) < key (get_or ps m' [])
    full : (j : ℕ) → j < suc d → key (corner d S x j) < K → (m : ℕ) × (m < length ps) × (get_or ps m [] ≡ corner d S x j)

  nothing : (ps : List (List ℤ)) (K : ℕ) → ((j : ℕ) → j < suc d → key (corner d S x j) ≡ K → ⊥) → Upto ps K → Upto ps (suc K)
  nothing ps K none U = record {
    each = U.each;
    asc = U.asc;
    low = λ m l. let h = U.low m l in omega arith;
    full = λ j q l. go j q (eq-or-lt_of_le (le_of_suc-le-suc l));
  }
    where
      go : (j : ℕ) → j < suc d → (key (corner d S x j) ≡ K) ⊎ (key (corner d S x j) < K) → (m : ℕ) × (m < length ps) × (get_or ps m [] ≡ corner d S x j)
      go j q (inl e) = absurd (none j q e)
      go j q (inr l) = U.full j q l

  one_more_lem : (ps : List (List ℤ)) (K c : ℕ) → c < suc d → key (corner d S x c) ≡ K → Upto ps K → Upto (ps ++ (corner d S x c ∷ [])) (suc K)
  one_more_lem ps K c q e U = record {
    each = λ m l. at_place (λ y. (j : ℕ) × (j < suc d) × (y ≡ corner d S x j)) m (U.each m) (c, q, refl) (where' m l);
    low = λ m l. at_place (λ y. key y < suc K) m (λ k. let h = U.low m k in omega arith) (rw e (le_refl (suc K))) (where' m l);
    asc = λ m m' h l. at_place (λ y. key (get_or ps' m []) < key y) m'
        (λ k. let k' : m < length ps = omega arith in rw (old m k') (U.asc m m' h k))
        (let k' : m < length ps = omega (arith, length-append ps (corner d S x c ∷ [])) in rw (old m k', e) (U.low m k')) (where' m' l);
    full = λ j r l. go j r (eq-or-lt_of_le (le_of_suc-le-suc l));
  }
    where
      ps' : List (List ℤ)
      ps' = ps ++ (corner d S x c ∷ [])

      where' : (m : ℕ) → m < length ps' → (m ≡ length ps) ⊎ (m < length ps)
      where' m l = eq-or-lt_of_le (omega (arith, length-append ps (corner d S x c ∷ [])))

      old : (m : ℕ) → m < length ps → get_or ps' m [] ≡ get_or ps m []
      old m k = get_or-append ps (corner d S x c ∷ []) [] m k

      at_place : (R : List ℤ → Type 0) (m : ℕ) → (m < length ps → R (get_or ps m [])) → R (corner d S x c) → (m ≡ length ps) ⊎ (m < length ps) → R (get_or ps' m [])
      at_place R m f g (inl k) = subst R (sym (ap (λ (n : ℕ). get_or ps' n []) k ∙ get_or-append_seam ps (corner d S x c) [] [])) g
      at_place R m f g (inr k) = subst R (sym (old m k)) (f k)

      go : (j : ℕ) → j < suc d → (key (corner d S x j) ≡ K) ⊎ (key (corner d S x j) < K) → (m : ℕ) × (m < length ps') × (get_or ps' m [] ≡ corner d S x j)
      go j r (inl k) = (length ps, omega (arith, length-append ps (corner d S x c ∷ [])), get_or-append_seam ps (corner d S x c) [] [] ∙ corner_one c j q r (e ∙ sym k))
      go j r (inr k) = let t = U.full j r k in (t.0, omega (arith, length-append ps (corner d S x c ∷ []), t.1), old t.0 t.1 ∙ t.2)

  pub found : (K n : ℕ) → n ≤ suc d → (last_of n (λ j. eqb (key (corner d S x j)) K) (corner d S x) ≡ [] × ((j : ℕ) → j < n → key (corner d S x j) ≡ K → ⊥))
      ⊎ ((c : ℕ) × (c < suc d) × (key (corner d S x c) ≡ K) × (last_of n (λ j. eqb (key (corner d S x j)) K) (corner d S x) ≡ corner d S x c ∷ []))
  unfolding last_of
  found K zero h = inl (refl, λ j l. absurd (not-suc-le-zero l))
  found K (suc n) h = go (eqb (key (corner d S x n)) K) (λ t. t) (λ t. t) (found K n (omega arith))
    where
      rest : List (List ℤ)
      rest = last_of n (λ j. eqb (key (corner d S x j)) K) (corner d S x)

      go : (b : Bool) → (T b → T (eqb (key (corner d S x n)) K)) → (T (eqb (key (corner d S x n)) K) → T b)
          → ((rest ≡ []) × ((j : ℕ) → j < n → key (corner d S x j) ≡ K → ⊥)) ⊎ ((c : ℕ) × (c < suc d) × (key (corner d S x c) ≡ K) × (rest ≡ corner d S x c ∷ []))
          → ((cond b (corner d S x n ∷ []) rest ≡ []) × ((j : ℕ) → j < suc n → key (corner d S x j) ≡ K → ⊥)) ⊎ ((c : ℕ) × (c < suc d) × (key (corner d S x c) ≡ K) × (cond b (corner d S x n ∷ []) rest ≡ corner d S x c ∷ []))
      go true f g r = inr (n, h, eqb→eq (key (corner d S x n)) K (f tt), refl)
      go false f g (inl (e, none)) = inl (e, λ j l k. last j k (eq-or-lt_of_le (le_of_suc-le-suc l)))
        where
          last : (j : ℕ) → key (corner d S x j) ≡ K → (j ≡ n) ⊎ (j < n) → ⊥
          last j k (inl i) = g (subst (λ (m : ℕ). T (eqb m K)) (sym (ap (λ (j : ℕ). key (corner d S x j)) (sym i) ∙ k)) (eqb_refl K))
          last j k (inr i) = none j i k
      go false f g (inr r) = inr r

  upto : (K : ℕ) → Upto (collect K (λ k. last_of (suc d) (λ j. eqb (key (corner d S x j)) k) (corner d S x))) K
  unfolding collect
  upto zero = record { each = λ m l. absurd (not-suc-le-zero l); low = λ m l. absurd (not-suc-le-zero l); asc = λ m m' h l. absurd (not-suc-le-zero l); full = λ j q l. absurd (not-suc-le-zero l) }
  upto (suc K) = go (upto K) (found K (suc d) (le_refl (suc d)))
    where
      ps : List (List ℤ)
      ps = collect K (λ k. last_of (suc d) (λ j. eqb (key (corner d S x j)) k) (corner d S x))

      b : List (List ℤ)
      b = last_of (suc d) (λ j. eqb (key (corner d S x j)) K) (corner d S x)

      go : Upto ps K → ((b ≡ []) × ((j : ℕ) → j < suc d → key (corner d S x j) ≡ K → ⊥)) ⊎ ((c : ℕ) × (c < suc d) × (key (corner d S x c) ≡ K) × (b ≡ corner d S x c ∷ [])) → Upto (ps ++ b) (suc K)
      go U (inl (e, none)) = rw (e, append-nil ps) (nothing ps K none U)
      go U (inr (c, q, k, e)) = rw e (one_more_lem ps K c q k U)

module _ (d S : ℕ) (p : 0 < S) (x : List ℤ) where
  pub points_are : Points d S x (points d S x)
  unfolding points
  points_are = record {
    point = λ m l. let e = U.each m l in rw e.2 (corner_point d S p x e.0);
    heavy = λ m l. let e = U.each m l in rw e.2 (corner_weight d S p x e.0 e.1);
    asc = U.asc;
    full = λ y Y w. let v = a_corner d S p x y Y w in let t = U.full v.0 v.1 (remainder_lt (at (corner d S x v.0) 0) (suc d) (omega arith)) in (t.0, t.1, t.2 ∙ sym v.2);
  }
    where
      U : Upto d S p x (points d S x) (suc d)
      U = upto d S p x (suc d)

  module _ (ps : List (List ℤ)) (R : Points d S x ps) where
    -- no two have one remainder
    pub remainder_once : (m m' : ℕ) → m < length ps → m' < length ps → remainder_of d (at (get_or ps m [])) ≡ remainder_of d (at (get_or ps m' [])) → m ≡ m'
    remainder_once m m' k k' e = go (dec_lt m m') (dec_lt m' m)
      where
        go : Dec (m < m') → Dec (m' < m) → m ≡ m'
        go (yes h) b = absurd (omega (arith, e, R.asc m m' h k'))
        go (no h) (yes g) = absurd (omega (arith, e, R.asc m' m g k))
        go (no h) (no g) = omega arith

    ys : ℕ → ℕ → ℤ
    ys m = at (get_or ps m [])

    once : (m m' : ℕ) → m < length ps → m' < length ps → ((i : ℕ) → i < suc d → ys m i ≡ ys m' i) → m ≡ m'
    unfolding ys
    once m m' k k' e = remainder_once m m' k k' (ap (λ (z : ℤ). remainder z (suc d)) (e 0 (omega arith)))

    every : (y : ℕ → ℤ) → Lattice (suc d) y → 0 < weight d S (at x) y → (m : ℕ) × (m < length ps) × ((i : ℕ) → i < suc d → ys m i ≡ y i)
    unfolding ys
    every y Y w =
        let l = tab (suc d) y in
        let e : (i : ℕ) → i < suc d → at l i ≡ y i = λ i k. get_or_tab (suc d) y i (pos 0) k in
        let t = R.full l (record { size = length_tab (suc d) y; lattice = lattice_cong d y (at l) (λ i k. sym (e i k)) Y }) (rw (weight_cong d S (at x) (at l) y e) w) in
        (t.0, t.1, λ i k. ap (λ (l : List ℤ). at l i) t.2 ∙ e i k)

    pub weights_sum : over ps (λ y. pos (weight d S (at x) (at y))) ≡ pos (W d S)
    unfolding ys
    weights_sum = sym (sum_list ps [] (λ y. pos (weight d S (at x) (at y)))) ∙ weights d S p (at x) (length ps) ys (λ m k. (R.point m k).lattice) once every

    pub weights_moment : sum (suc d) (at x) ≡ pos 0 → (i : ℕ) → i < suc d → over ps (λ y. pos (weight d S (at x) (at y)) *ℤ at y i) ≡ pos (suc d) *ℤ at x i
    unfolding ys
    weights_moment z i l = sym (sum_list ps [] (λ y. pos (weight d S (at x) (at y)) *ℤ at y i)) ∙ moment d S p (at x) (length ps) ys (λ m k. (R.point m k).lattice) once every z i l

-- ---- the statements of specs/
pub one_of_each : OneOfEach
one_of_each d S p x y y' Y Y' w w' e = one_of d S p x y y' Y Y' w w' e

pub exactly_these : ExactlyThese
exactly_these d S p x = points_are d S p x

pub all_sum_to_W : WeightsSum
all_sum_to_W d S p x = weights_sum d S p x (points d S x) (points_are d S p x)

pub moment_is : Moment
moment_is d S p x z i l = weights_moment d S p x (points d S x) (points_are d S p x) z i l
