-- Different elements that all stand in a list are at most as many as the list is long: so it is with the keys that a table stores and those that are new to it.
use mathlib.Core.Path.{◌≡◌, refl, sym, ap, ◌∙◌}
use mathlib.Core.Logic.{◌⊎◌, inl, inr, ◌≢◌}
use mathlib.Core.List.{List, [], ◌∷◌}
use Prim.Native.Nat.{ℕ, zero, suc, ◌+◌, ◌≤◌, ◌<◌}
use native.Mathlib.Nat.{not-suc-le-zero, le_of_suc-le-suc}
use native.Mathlib.Omega.{arith}
use lib.Dec.{eqb-suc-zero}
use lib.IntN.{ℤ}
use lib.ListN.{length}
use Rattle.whole.specs.Lists.{All, Each, tab}
use Rattle.whole.proofs.Lists.{length_tab}
use Rattle.index.proofs.Finding.{keys_apart}
use Rattle.table.specs.Table.{Settings, Table, Row, keys_of, key, entry, found}
use Rattle.table.specs.Sound.{Fine}
use Rattle.table.specs.Pour.{news_in, news}
use Rattle.table.proofs.Lists.{all_tab, each_tab, all_map, each_map}
use Rattle.table.proofs.Rows.{Apart}
use Rattle.table.proofs.Soundness.{fine_kept}
use Rattle.table.proofs.Adding.{finds_key}
use Rattle.promises.proofs.Sorted.{Has, first_or}

-- ---- one element taken out of a list
module _ {A : Type 0} (z : A) where
  record Without (l : List A) (a : A) : Type 0 where
    rest : List A
    shorter : length l ≡ suc (length rest)
    others : (b : A) → a ≢ b → Has z l b → Has z rest b

  -- it is the first,
  without_first : (a b : A) (l : List A) → b ≡ a → Without (b ∷ l) a
  without_first a b l e = record { rest = l; shorter = refl; others = λ x n H. go x n (first_or z b l x H) }
    where
      go : (x : A) → a ≢ x → (b ≡ x) ⊎ Has z l x → Has z l x
      go x n (inl p) = absurd (n (sym e ∙ p))
      go x n (inr k) = k

  -- or a later one
  without_later : (a b : A) (l : List A) → Without l a → Without (b ∷ l) a
  without_later a b l O = record { rest = b ∷ O.rest; shorter = ap suc O.shorter; others = λ x n H. go x n (first_or z b l x H) }
    where
      go : (x : A) → a ≢ x → (b ≡ x) ⊎ Has z l x → Has z (b ∷ O.rest) x
      go x n (inl p) = (0, omega arith, p)
      go x n (inr k) = let (j, l, q) = O.others x n k in (suc j, omega (arith, l), q)

  without : (l : List A) (a : A) → Has z l a → Without l a
  without [] a (i, h, e) = absurd (not-suc-le-zero h)
  without (b ∷ l) a (zero, h, e) = without_first a b l e
  without (b ∷ l) a (suc i, h, e) = without_later a b l (without l a (i, le_of_suc-le-suc h, e))

  -- ---- so there are no more than the list has
  others_all : (l : List A) (a : A) (O : Without l a) (xs : List A) → All (λ x. a ≢ x) xs → All (Has z l) xs → All (Has z O.rest) xs
  others_all l a O [] u h = tt
  others_all l a O (x ∷ xs) u h = (O.others x u.0 h.0, others_all l a O xs u.1 h.1)

  at_most : (xs l : List A) → Each ◌≢◌ xs → All (Has z l) xs → length xs ≤ length l
  at_most [] l u h = omega arith
  at_most (x ∷ xs) l u h =
      let O = without l x h.0 in
      omega (arith, O.shorter, at_most xs O.rest u.1 (others_all l x O xs u.0 h.1))

-- ---- keys that are new to a table, counted with keys among which none of them stands
module _ (c : Settings) (t : Table) (ks : List (List ℤ)) where
  abbrev NewTo : List (List ℤ) → List ℤ → Type 0
  NewTo xs k = found c t k ≡ 0 → All (λ x. k ≢ x) xs

  with_one : (xs : List (List ℤ)) (k : List ℤ) (ys : List (List ℤ)) → All (λ y. k ≢ y) ys → All (NewTo xs) ys → All (NewTo (k ∷ xs)) ys
  with_one xs k [] u n = tt
  with_one xs k (y ∷ ys) u n = (λ e. (λ p. u.0 (sym p), n.0 e), with_one xs k ys u.1 n.1)

  counted : (ys xs : List (List ℤ)) → Each ◌≢◌ xs → All (Has [] ks) xs → Each ◌≢◌ ys → All (Has [] ks) ys → All (NewTo xs) ys → length xs + news c t ys ≤ length ks
  unfolding news_in
  counted [] xs u h v g n = omega (arith, at_most [] xs ks u h)
  counted (k ∷ ys) xs u h v g n = go (found c t k) refl
      (λ e. counted ys (k ∷ xs) (n.0 e, u) (g.0, h) v.1 g.1 (with_one xs k ys v.0 n.1))
      (counted ys xs u h v.1 g.1 n.1)
    where
      go : (e : ℕ) → found c t k ≡ e → (found c t k ≡ 0 → suc (length xs) + news c t ys ≤ length ks) → length xs + news c t ys ≤ length ks
          → length xs + news c t (k ∷ ys) ≤ length ks
      go zero e one none = rw e (omega (arith, one e))
      go (suc i) e one none = rw (e, eqb-suc-zero i) (omega (arith, none))

-- ---- a table and rows of different points, whose keys all stand in a list
module _ (c : Settings) (t : Table) (F : Fine c t) (ks : List (List ℤ)) where
  stored_new : (k : List ℤ) → NewTo c t ks (tab t.m (key c t)) k
  stored_new k e = all_tab (λ x. k ≢ x) t.m (key c t)
      (λ i l p. let q = finds_key c F.ranged.C_least t (fine_kept c t F) k i l (sym p) in omega (arith, q, e))

  stored_apart : Each ◌≢◌ (tab t.m (key c t))
  stored_apart = each_tab ◌≢◌ t.m (key c t)
      (λ i j h l e. let q = keys_apart c.C t.m (key c t) (entry t) F.ranged.C_least F.sound.indexed i j (omega arith) l e in omega (arith, q))

  pub all_counted : (rs : List Row) → ((i : ℕ) → i < t.m → Has [] ks (key c t i)) → Each Apart rs → All (λ r. Has [] ks r.key) rs → t.m + news c t (keys_of rs) ≤ length ks
  all_counted rs h v g =
      let C = counted c t ks (keys_of rs) (tab t.m (key c t)) stored_apart (all_tab (Has [] ks) t.m (key c t) h)
      (each_map ◌≢◌ (λ (r : Row). r.key) rs v) (all_map (Has [] ks) (λ (r : Row). r.key) rs g) (all_of (keys_of rs)) in
      omega (arith, length_tab t.m (key c t), C)
    where
      all_of : (ys : List (List ℤ)) → All (NewTo c t ks (tab t.m (key c t))) ys
      all_of [] = tt
      all_of (y ∷ ys) = (stored_new y, all_of ys)
