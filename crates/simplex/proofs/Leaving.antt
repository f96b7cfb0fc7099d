-- The points that leave a remainder: of the points of weight above 0 they are the corner that does.
use mathlib.Core.Path.{◌≡◌, refl, sym, ap, ap₂, ◌∙◌}
use mathlib.Core.Logic.{◌⊎◌, inl, inr, ◌≢◌}
use mathlib.Core.Bool.{Bool, true, false, cond}
use mathlib.Core.List.{List, [], ◌∷◌, ◌++◌, append-nil}
use Prim.Native.Nat.{ℕ, zero, suc, ◌≤◌, ◌<◌}
use native.Mathlib.Nat.{le_refl}
use native.Mathlib.Decide.{dec_lt, ℕ_discrete}
use native.Mathlib.Omega.{arith}
use lib.IntN.{ℤ}
use lib.Dec.{eqb}
use borrow.Author.Tests.{eq-eqb, ne_eqb}
use Rattle.whole.specs.Lists.{at, collect}
use Rattle.whole.proofs.Floor.{remainder_lt}
use Rattle.lattice.specs.Lattice.{remainder_of}
use Rattle.lattice.specs.Points.{corner, corner_of, points}
use Rattle.lattice.proofs.Points.{found}
use Rattle.simplex.specs.Slots.{leaving, point_in}

-- ---- of one list after the other
leaving_append : (d k : ℕ) (l r : List (List ℤ)) → leaving d k (l ++ r) ≡ leaving d k l ++ leaving d k r
unfolding leaving
leaving_append d k [] r = refl
leaving_append d k (y ∷ l) r = go (eqb (remainder_of d (at y)) k) (leaving_append d k l r)
  where
    go : (b : Bool) → leaving d k (l ++ r) ≡ leaving d k l ++ leaving d k r
        → cond b (y ∷ leaving d k (l ++ r)) (leaving d k (l ++ r)) ≡ cond b (y ∷ leaving d k l) (leaving d k l) ++ leaving d k r
    go true e = ap (λ (l : List (List ℤ)). y ∷ l) e
    go false e = e

leaving_one : (d k : ℕ) (y : List ℤ) → remainder_of d (at y) ≡ k → leaving d k (y ∷ []) ≡ y ∷ []
unfolding leaving
leaving_one d k y e = rw (eq-eqb (remainder_of d (at y)) k e) refl

leaving_none : (d k : ℕ) (y : List ℤ) → remainder_of d (at y) ≢ k → leaving d k (y ∷ []) ≡ []
unfolding leaving
leaving_none d k y h = rw (ne_eqb (remainder_of d (at y)) k h) refl

-- ---- of lists that have one remainder each, the list of that remainder
module _ (d k : ℕ) (g : ℕ → List (List ℤ)) (own : leaving d k (g k) ≡ g k) (other : (i : ℕ) → i ≢ k → leaving d k (g i) ≡ []) where
  before : (n : ℕ) → n ≤ k → leaving d k (collect n g) ≡ []
  unfolding collect leaving
  before zero l = refl
  before (suc n) l = leaving_append d k (collect n g) (g n) ∙ ap₂ ◌++◌ (before n (omega arith)) (other n (λ e. omega arith))

  after : (n : ℕ) → k < n → leaving d k (collect n g) ≡ g k
  unfolding collect
  after zero l = absurd (omega arith)
  after (suc n) l = leaving_append d k (collect n g) (g n) ∙ go (ℕ_discrete n k) (after n)
    where
      go : Dec (n ≡ k) → (k < n → leaving d k (collect n g) ≡ g k) → leaving d k (collect n g) ++ leaving d k (g n) ≡ g k
      go (yes e) ih = ap₂ ◌++◌ (before n (omega arith)) (ap (λ (n : ℕ). leaving d k (g n)) e ∙ own)
      go (no e) ih = ap₂ ◌++◌ (ih (omega arith)) (other n e) ∙ append-nil (g k)

-- ---- of the corners
module _ (d S : ℕ) (p : 0 < S) (x : List ℤ) (k : ℕ) where
  -- what is known of the corner of a remainder
  abbrev Found : ℕ → Type 0
  Found i = ((corner_of d S x (suc d) i ≡ []) × ((j : ℕ) → j < suc d → remainder_of d (at (corner d S x j)) ≡ i → ⊥))
      ⊎ ((c : ℕ) × (c < suc d) × (remainder_of d (at (corner d S x c)) ≡ i) × (corner_of d S x (suc d) i ≡ corner d S x c ∷ []))

  own_corner : Found k → leaving d k (corner_of d S x (suc d) k) ≡ corner_of d S x (suc d) k
  unfolding leaving
  own_corner (inl n) = rw n.0 refl
  own_corner (inr c) = rw c.3 (leaving_one d k (corner d S x c.0) c.2)

  other_corner : (i : ℕ) → i ≢ k → Found i → leaving d k (corner_of d S x (suc d) i) ≡ []
  unfolding leaving
  other_corner i h (inl n) = rw n.0 refl
  other_corner i h (inr c) = rw c.3 (leaving_none d k (corner d S x c.0) (λ e. h (sym c.2 ∙ e)))

  -- no remainder is above d
  beyond : suc d ≤ k → Found k → corner_of d S x (suc d) k ≡ []
  beyond h (inl n) = n.0
  beyond h (inr c) = absurd (omega (arith, c.2, remainder_lt (at (corner d S x c.0) 0) (suc d) (omega arith)))

  pub point_in_lem : point_in d S x k ≡ corner_of d S x (suc d) k
  unfolding points
  point_in_lem = go (dec_lt k (suc d))
    where
      known : (i : ℕ) → Found i
      known i = found d S p x i (suc d) (le_refl (suc d))

      go : Dec (k < suc d) → leaving d k (collect (suc d) (corner_of d S x (suc d))) ≡ corner_of d S x (suc d) k
      go (yes l) = after d k (corner_of d S x (suc d)) (own_corner (known k)) (λ i h. other_corner i h (known i)) (suc d) l
      go (no l) = before d k (corner_of d S x (suc d)) (own_corner (known k)) (λ i h. other_corner i h (known i)) (suc d) (omega arith) ∙ sym (beyond (omega arith) (known k))
