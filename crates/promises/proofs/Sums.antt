-- A sum over a list, and a list's length, do not depend on the order; and what is made of each element is in the same order.
use mathlib.Core.Path.{◌≡◌, refl, ap, ap₂, ◌∙◌}
use mathlib.Core.HLevel.{hedberg}
use mathlib.Core.Logic.{∥∥₁_elim}
use mathlib.Core.List.{List, map, Perm, Permᴰ}
use native.Mathlib.Decide.{ℕ_discrete}
use lib.IntN.{ℤ, ℤ_set, ◌+ℤ◌}
use lib.ListN.{length}
use Rattle.whole.specs.Sum.{over}
use Rattle.whole.proofs.Linear.{on, difs, ints}
use Rattle.listing.proofs.Rising.{perm_length}

module _ {A : Type 0} where
  pub over_permᴰ : (f : A → ℤ) {l m : List A} → Permᴰ l m → over l f ≡ over m f
  unfolding over
  over_permᴰ f Permᴰ.nil = refl
  over_permᴰ f (Permᴰ.cons e p) = ap₂ ◌+ℤ◌ (ap f e) (over_permᴰ f p)
  over_permᴰ f (Permᴰ.swap {a = a} {b = b} {a' = a'} {b' = b'} {l = l} p q) = rw (p, q) (lin (f b') (f a') (over l f))
    where
      lin : (a b c : ℤ) → a +ℤ (b +ℤ c) ≡ b +ℤ (a +ℤ c)
      lin = on _ λ a b. on _ λ c d. on _ λ e f. simp difs (omega ints)
  over_permᴰ f (Permᴰ.trans p q) = over_permᴰ f p ∙ over_permᴰ f q

  pub over_perm : (f : A → ℤ) (l m : List A) → Perm l m → over l f ≡ over m f
  over_perm f l m p = ∥∥₁_elim p (ℤ_set (over l f) (over m f)) (over_permᴰ f)

  pub length_perm : (l m : List A) → Perm l m → length l ≡ length m
  length_perm l m p = ∥∥₁_elim p (hedberg ℕ_discrete (length l) (length m)) perm_length

module _ {A B : Type 0} where
  pub map_permᴰ : (f : A → B) {l m : List A} → Permᴰ l m → Permᴰ (map f l) (map f m)
  map_permᴰ f Permᴰ.nil = Permᴰ.nil
  map_permᴰ f (Permᴰ.cons e p) = Permᴰ.cons (ap f e) (map_permᴰ f p)
  map_permᴰ f (Permᴰ.swap p q) = Permᴰ.swap (ap f p) (ap f q)
  map_permᴰ f (Permᴰ.trans p q) = Permᴰ.trans (map_permᴰ f p) (map_permᴰ f q)
