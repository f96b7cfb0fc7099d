-- What stands in a list at some place, and that two lists in a strict order with the same elements are one list.
use mathlib.Core.Path.{◌≡◌, refl, sym, ap₂, ◌∙◌, subst}
use mathlib.Core.Logic.{◌⊎◌, inl, inr}
use mathlib.Core.List.{List, [], ◌∷◌, map, Permᴰ}
use Prim.Native.Nat.{ℕ, zero, suc, ◌<◌}
use native.Mathlib.Nat.{not-suc-le-zero, le_of_suc-le-suc}
use native.Mathlib.Omega.{arith}
use lib.ListN.{length, get_or}
use Rattle.whole.specs.Lists.{All, Each}
use Rattle.table.proofs.Lists.{all_list}
use Rattle.listing.proofs.Rising.{all_at, all_perm}

module _ {A : Type 0} (z : A) where
  -- a stands in l
  abbrev pub Has : List A → A → Type 0
  Has l a = (i : ℕ) × (i < length l) × (get_or l i z ≡ a)

  -- so it does in any order of l
  pub has_perm : {l m : List A} → Permᴰ l m → (a : A) → Has m a → Has l a
  has_perm {l} {m} p a (i, h, e) = subst (Has l) e (all_at (Has l) m z (all_perm (Has l) p (all_list (Has l) l z (λ i h. (i, h, refl)))) i h)

  -- it is the first, or stands in the rest
  pub first_or : (b : A) (l : List A) (a : A) → Has (b ∷ l) a → (b ≡ a) ⊎ Has l a
  first_or b l a (zero, h, e) = inl e
  first_or b l a (suc i, h, e) = inr (i, le_of_suc-le-suc h, e)

  -- ---- a strict order has one list of given elements
  module _ (R : A → A → Type 0) (irreflexive : (a : A) → R a a → ⊥) (transitive : (a b c : A) → R a b → R b c → R a c) where
    after : (b : A) (l : List A) → All (R b) l → (a : A) → Has l a → R b a
    after b l u a (i, h, e) = subst (R b) e (all_at (R b) l z u i h)

    -- the first of the one is the first of the other: if not, each would stand before the other
    same_first : (a b : A) (l m : List A) → All (R a) l → All (R b) m → (b ≡ a) ⊎ Has m a → (a ≡ b) ⊎ Has l b → a ≡ b
    same_first a b l m u v (inl e) q = sym e
    same_first a b l m u v (inr p) (inl e) = e
    same_first a b l m u v (inr p) (inr q) = absurd (irreflexive a (transitive a b a (after a l u b q) (after b m v a p)))

    -- what comes after the first of the one comes after the first of the other
    same_rest : (a b : A) (l m : List A) → a ≡ b → All (R a) l → ((x : A) → Has (a ∷ l) x → Has (b ∷ m) x) → (x : A) → Has l x → Has m x
    same_rest a b l m e u f x (i, h, q) = go (first_or b m x (f x (suc i, omega arith, q)))
      where
        go : (b ≡ x) ⊎ Has m x → Has m x
        go (inl k) = absurd (irreflexive a (subst (R a) (sym (e ∙ k)) (after a l u x (i, h, q))))
        go (inr k) = k

    pub one_list : (l m : List A) → Each R l → Each R m → ((a : A) → Has l a → Has m a) → ((a : A) → Has m a → Has l a) → l ≡ m
    one_list [] [] u v f g = refl
    one_list [] (b ∷ m) u v f g = absurd (not-suc-le-zero (g b (0, omega arith, refl)).1)
    one_list (a ∷ l) [] u v f g = absurd (not-suc-le-zero (f a (0, omega arith, refl)).1)
    one_list (a ∷ l) (b ∷ m) u v f g =
        let e = same_first a b l m u.0 v.0 (first_or b m a (f a (0, omega arith, refl))) (first_or a l b (g b (0, omega arith, refl))) in
        ap₂ ◌∷◌ e (one_list l m u.1 v.1 (same_rest a b l m e u.0 f) (same_rest b a m l (sym e) v.0 g))

-- ---- a list made of another, by place
pub map_at : {A B : Type 0} (f : A → B) (l : List A) (i : ℕ) (z : A) (w : B) → i < length l → get_or (map f l) i w ≡ f (get_or l i z)
map_at f [] i z w h = absurd (not-suc-le-zero h)
map_at f (a ∷ l) zero z w h = refl
map_at f (a ∷ l) (suc i) z w h = map_at f l i z w (le_of_suc-le-suc h)
