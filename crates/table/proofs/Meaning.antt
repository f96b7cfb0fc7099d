-- What a table means: the pair held at each key is what its rows give to that key, and what is added to the sums over the rows is added
-- to what is held.
use mathlib.Core.Path.{◌≡◌, refl, sym, ap, ◌∙◌}
use mathlib.Core.Logic.{◌↔◌}
use mathlib.Core.Bool.{Bool, true, false}
use mathlib.Core.List.{List}
use Prim.Native.Nat.{ℕ, zero, suc, ◌<◌}
use native.Mathlib.Nat.{not-suc-le-zero}
use native.Mathlib.Omega.{arith}
use lib.IntN.{ℤ, pos, ◌+ℤ◌}
use lib.Signed.{◌≤ℤ◌}
use Rattle.whole.specs.Sum.{over}
use Rattle.whole.proofs.Parts.{le_in}
use Rattle.whole.proofs.Sum.{pick, none, one_hit}
use Rattle.index.specs.Keys.{same}
use Rattle.index.proofs.Equality.{same_eq, eq_same}
use Rattle.index.proofs.Finding.{keys_apart}
use Rattle.table.specs.Table.{Settings, Table, Row, key, mass, value, row, rows, entry, found, pair_at, held, mass_of}
use Rattle.table.specs.Sound.{Fine}
use Rattle.table.specs.Inner.{Kept}
use Rattle.table.specs.Theorems.{plus}
use Rattle.table.proofs.Lists.{over_tab}
use Rattle.table.proofs.Rows.{join, value_of, Additive, gives, given, pair_path}
use Rattle.table.proofs.Soundness.{fine_kept}
use Rattle.table.proofs.Adding.{low_found, has_key, finds_key}
use Rattle.table.proofs.Keeping.{Adds}

pub gives_additive : (f : Row → ℤ) → Additive f → (k : List ℤ) → Additive (gives f k)
gives_additive f F k a b e = go (same a.key k) (same b.key k) (ap (λ (l : List ℤ). same l k) e)
  where
    go : (x y : Bool) → x ≡ y → pick x (f (join a b)) ≡ pick x (f a) +ℤ pick y (f b)
    go true y p = rw (← p) (F a b e)
    go false y p = rw (← p)

-- ---- what is held is what the rows give
module _ (c : Settings) (some : 0 < c.C) (t : Table) (K : Kept c t) where
  one_row : (f : Row → ℤ) (k : List ℤ) (i : ℕ) → found c t k ≡ suc i → over (rows c t) (gives f k) ≡ f (row c t i)
  unfolding rows
  one_row f k i e =
      let l = low_found c some t K k i e in
      let q = has_key c some t K k i e in
      over_tab t.m (row c t) (gives f k)
      ∙ one_hit t.m (λ j. same (key c t j) k) (λ j. f (row c t j)) i l (eq_same (key c t i) k q)
      (λ j h s. keys_apart c.C t.m (key c t) (entry t) some K.indexed j i h l (same_eq (key c t j) k s ∙ sym q))

  no_row : (f : Row → ℤ) (k : List ℤ) → found c t k ≡ 0 → over (rows c t) (gives f k) ≡ pos 0
  unfolding rows
  no_row f k e = over_tab t.m (row c t) (gives f k)
      ∙ none t.m (λ j. same (key c t j) k) (λ j. f (row c t j)) (λ i l s. let h = finds_key c some t K k i l (same_eq (key c t i) k s) in omega (arith, e, h))

  pub held_given : (k : List ℤ) → held c t k ≡ given (rows c t) k
  held_given k = go (found c t k) refl
    where
      go : (e : ℕ) → found c t k ≡ e → pair_at t.sums e ≡ given (rows c t) k
      go zero e = sym (pair_path (over (rows c t) (gives mass_of k)) (over (rows c t) (gives value_of k)) (pos 0) (pos 0) (no_row mass_of k e) (no_row value_of k e))
      go (suc i) e = sym (pair_path (over (rows c t) (gives mass_of k)) (over (rows c t) (gives value_of k)) (mass t i) (value t i) (one_row mass_of k i e) (one_row value_of k i e))

  -- a point is stored exactly when its mass is above 0
  pub stored_iff : (k : List ℤ) → (0 < found c t k) ↔ (pos 1 ≤ℤ (held c t k).0)
  stored_iff k = go (found c t k) refl
    where
      not_zero : pos 1 ≤ℤ pos 0 → ⊥
      not_zero h = omega (arith, le_in (pos 1) (pos 0) h)

      go : (e : ℕ) → found c t k ≡ e → (0 < e) ↔ (pos 1 ≤ℤ (pair_at t.sums e).0)
      go zero e = (λ h. absurd (not-suc-le-zero h), λ h. absurd (not_zero h))
      go (suc i) e = (λ h. (K.good i (low_found c some t K k i e)).some, λ h. omega arith)

-- ---- what is added, at every key
module _ (c : Settings) (t u : Table) (F : Fine c t) (k : ℕ) (g : (Row → ℤ) → ℤ) (A : Adds c t u k g) where
  pub adds_held : (z : List ℤ) → held c u z ≡ plus (held c t z) (g (gives mass_of z), g (gives value_of z))
  adds_held z = held_given c F.ranged.C_least u (fine_kept c u A.fine) z
      ∙ pair_path (over (rows c u) (gives mass_of z)) (over (rows c u) (gives value_of z))
      (over (rows c t) (gives mass_of z) +ℤ g (gives mass_of z)) (over (rows c t) (gives value_of z) +ℤ g (gives value_of z))
      (A.sums (gives mass_of z) (gives_additive mass_of (λ a b e. refl) z)) (A.sums (gives value_of z) (gives_additive value_of (λ a b e. refl) z))
      ∙ ap (λ (p : ℤ × ℤ). plus p (g (gives mass_of z), g (gives value_of z))) (sym (held_given c F.ranged.C_least t (fine_kept c t F) z))
