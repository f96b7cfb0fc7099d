-- The list of points is the only one: two lists that have each point of weight above 0, in ascending remainder, are equal.
use mathlib.Core.Path.{◌≡◌, sym, ap, ◌∙◌}
use mathlib.Core.Logic.{◌⊎◌, inl, inr}
use native.Mathlib.Omega.{arith}
use lib.IntN.{ℤ}
use mathlib.Core.List.{List, []}
use Prim.Native.Nat.{ℕ, zero, suc, ◌≤◌, ◌<◌}
use native.Mathlib.Nat.{not-suc-le-zero, eq-or-lt_of_le, le_refl}
use native.Mathlib.Decide.{dec_lt}
use lib.ListN.{length, get_or}
use lib.Seq.{ext_get_or}
use Rattle.whole.specs.Lists.{at}
use Rattle.lattice.specs.Lattice.{remainder_of}
use Rattle.lattice.specs.Points.{Points, points}
use Rattle.lattice.specs.Theorems.{OnlyList}
use Rattle.lattice.proofs.Points.{exactly_these}

-- ---- one list only
module _ (d S : ℕ) (x : List ℤ) where
  abbrev key : List (List ℤ) → ℕ → ℕ
  key l m = remainder_of d (at (get_or l m []))

  ahead : (ps qs : List (List ℤ)) → Points d S x ps → Points d S x qs → (m : ℕ) → m < length ps → ((a : ℕ) → a < m → a < length qs → get_or ps a [] ≡ get_or qs a [])
      → (a : ℕ) × (m ≤ a) × (a < length qs) × (get_or qs a [] ≡ get_or ps m [])
  ahead ps qs A B m l same = let t = B.full (get_or ps m []) (A.point m l) (A.heavy m l) in (t.0, go t.0 t.1 t.2 (dec_lt t.0 m), t.1, t.2)
    where
      go : (a : ℕ) → a < length qs → get_or qs a [] ≡ get_or ps m [] → Dec (a < m) → m ≤ a
      go a k e (yes h) = absurd (omega (arith, A.asc a m h l, ap (λ (y : List ℤ). remainder_of d (at y)) (same a h k ∙ e)))
      go a k e (no h) = omega arith

  rise : (ps : List (List ℤ)) → Points d S x ps → (m a : ℕ) → a < length ps → m ≤ a → key ps a ≤ key ps m → a ≡ m
  rise ps A m a l h k = go (eq-or-lt_of_le h)
    where
      go : (m ≡ a) ⊎ (m < a) → a ≡ m
      go (inl e) = sym e
      go (inr g) = absurd (omega (arith, A.asc m a g l))

  climb : (ps : List (List ℤ)) → Points d S x ps → (m a : ℕ) → a < length ps → m ≤ a → key ps m ≤ key ps a
  climb ps A m a l h = go (eq-or-lt_of_le h)
    where
      go : (m ≡ a) ⊎ (m < a) → key ps m ≤ key ps a
      go (inl e) = rw e (le_refl (key ps a))
      go (inr g) = omega (arith, A.asc m a g l)

  agree : (ps qs : List (List ℤ)) → Points d S x ps → Points d S x qs → (j m : ℕ) → m < j → m < length ps → m < length qs → get_or ps m [] ≡ get_or qs m []
  agree ps qs A B zero m h k l = absurd (not-suc-le-zero h)
  agree ps qs A B (suc j) m h k l = go (agree ps qs A B j)
    where
      go : ((m : ℕ) → m < j → m < length ps → m < length qs → get_or ps m [] ≡ get_or qs m []) → get_or ps m [] ≡ get_or qs m []
      go ih =
          let same : (a : ℕ) → a < m → a < length qs → get_or ps a [] ≡ get_or qs a [] = λ a n i. ih a (omega arith) (omega arith) i in
          let (a, am, al, ae) = ahead ps qs A B m k same in
          let (b, bm, bl, be) = ahead qs ps B A m l (λ a n i. sym (ih a (omega arith) i (omega arith))) in
          sym ae ∙ ap (λ (c : ℕ). get_or qs c []) (rise qs B m a al am
          (omega (arith, ap (λ (y : List ℤ). remainder_of d (at y)) ae, ap (λ (y : List ℤ). remainder_of d (at y)) be, climb ps A m b bl bm)))

  shorter : (ps qs : List (List ℤ)) → Points d S x ps → Points d S x qs → length ps < length qs → ⊥
  shorter ps qs A B h =
      let t = ahead qs ps B A (length ps) h (λ a n i. sym (agree ps qs A B (length ps) a n i (omega arith))) in
      omega (arith, t.1, t.2)

  pub points_one : (ps qs : List (List ℤ)) → Points d S x ps → Points d S x qs → ps ≡ qs
  points_one ps qs A B = ext_get_or [] ps qs same (λ i l. agree ps qs A B (suc i) i (le_refl (suc i)) l (omega (arith, same)))
    where
      same : length ps ≡ length qs
      same = go (dec_lt (length ps) (length qs)) (dec_lt (length qs) (length ps))
        where
          go : Dec (length ps < length qs) → Dec (length qs < length ps) → length ps ≡ length qs
          go (yes h) b = absurd (shorter ps qs A B h)
          go (no h) (yes g) = absurd (shorter qs ps B A g)
          go (no h) (no g) = omega arith

pub only_list : OnlyList
only_list d S p x ps A = points_one d S x ps (points d S x) A (exactly_these d S p x)
