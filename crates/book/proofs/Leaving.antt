-- Points of mass 0 leave: what holds of the table while those of some rows are still to be looked at.
use mathlib.Core.Path.{◌≡◌, refl, sym, ap, subst, ◌∙◌}
use mathlib.Core.Logic.{◌⊎◌, inl, inr, ◌≢◌}
use mathlib.Core.Bool.{Bool, true, false, cond}
use mathlib.Core.List.{List, [], ◌∷◌}
use Prim.Native.Nat.{ℕ, zero, suc, ◌-◌, ◌≤◌, ◌<◌}
use native.Mathlib.Nat.{not-suc-le-zero, eq-or-lt_of_le, le_of_suc-le-suc}
use native.Mathlib.Omega.{arith}
use lib.Dec.{T}
use lib.IntN.{ℤ, pos}
use lib.Signed.{◌≤ℤ◌}
use lib.ListN.{take}
use Rattle.whole.specs.Sum.{sum}
use Rattle.whole.proofs.Parts.{le_in}
use Rattle.whole.proofs.Sum.{sum_cong}
use Rattle.lattice.specs.Lattice.{Point}
use Rattle.index.specs.Keys.{eq_z, same}
use Rattle.index.proofs.Equality.{eq_z_eq, eq_z_refl, same_eq, eq_same}
use Rattle.table.specs.Table.{Settings, Table, Row, key, mass, value, row, whole}
use Rattle.table.specs.Sound.{Shape}
use Rattle.table.specs.Reading.{Reading, mass_from, value_from}
use Rattle.table.proofs.Rows.{Additive}
use Rattle.table.proofs.Good.{GoodKey, whole_key}
use Rattle.book.specs.Withdraw.{point_of, vacated, leave_at, leave}
use Rattle.book.proofs.Given.{mass_low, none_given, zero_or_more}
use Rattle.book.proofs.Lowering.{nothing_added}
use Rattle.book.proofs.Vacating.{moved, moved_low, moved_not, moved_from, moved_apart, vacated_shape, vacated_key, vacated_row, sum_moved}

-- ---- the point that has a key
pub point_low : (m : ℕ) (key : ℕ → List ℤ) (k : List ℤ) (i : ℕ) → point_of m key k ≡ suc i → (i < m) × (key i ≡ k)
unfolding point_of
point_low zero key k i e = absurd (omega arith)
point_low (suc m) key k i e = go (same (key m) k) refl (point_low m key k i)
  where
    go : (b : Bool) → same (key m) k ≡ b → (point_of m key k ≡ suc i → (i < m) × (key i ≡ k)) → (i < suc m) × (key i ≡ k)
    go true q ih = let s : suc m ≡ suc i = ap (λ (b : Bool). cond b (suc m) (point_of m key k)) (sym q) ∙ e in
        let z : m ≡ i = omega arith in (omega arith, ap key (sym z) ∙ same_eq (key m) k (subst T (sym q) tt))
    go false q ih = let p = ih (ap (λ (b : Bool). cond b (suc m) (point_of m key k)) (sym q) ∙ e) in (omega (arith, p.0), p.1)

pub point_none : (m : ℕ) (key : ℕ → List ℤ) (k : List ℤ) → point_of m key k ≡ 0 → (i : ℕ) → i < m → key i ≢ k
unfolding point_of
point_none zero key k e i l q = absurd (not-suc-le-zero l)
point_none (suc m) key k e i l q = go (same (key m) k) refl (point_none m key k)
  where
    go : (b : Bool) → same (key m) k ≡ b → (point_of m key k ≡ 0 → (i : ℕ) → i < m → key i ≢ k) → ⊥
    go true p ih = let s : suc m ≡ 0 = ap (λ (b : Bool). cond b (suc m) (point_of m key k)) (sym p) ∙ e in absurd (omega arith)
    go false p ih = other (eq-or-lt_of_le (le_of_suc-le-suc l))
      where
        other : (i ≡ m) ⊎ (i < m) → ⊥
        other (inl z) = subst T p (eq_same (key m) k (ap key (sym z) ∙ q))
        other (inr h) = ih (ap (λ (b : Bool). cond b (suc m) (point_of m key k)) (sym p) ∙ e) i h q

-- ---- a row of the key k
abbrev pub Hit : List ℤ → List Row → Type 0
Hit k [] = ⊥
Hit k (r ∷ rs) = (r.key ≡ k) ⊎ Hit k rs

module _ (c : Settings) (rest : List Reading) (z : (Row → ℤ) → ℤ) where
  abbrev mass_at : List ℤ → ℤ
  mass_at y = mass_from c.d c.S rest y

  abbrev value_at : List ℤ → ℤ
  value_at y = value_from c.d c.S rest y

  -- the points of t have what the readings give them, and none is missing; where one has mass 0, it is among those still to be looked at
  pub record Left (ks : List Row) (t : Table) : Type 0 where
    pub shape : Shape c t
    pub room : t.m ≤ c.C
    pub apart : (i j : ℕ) → i < t.m → j < t.m → key c t i ≡ key c t j → i ≡ j
    pub good : (i : ℕ) → i < t.m → GoodKey c.d (key c t i)
    pub masses : (i : ℕ) → i < t.m → mass t i ≡ mass_at (whole (key c t i))
    pub values : (i : ℕ) → i < t.m → value t i ≡ value_at (whole (key c t i))
    pub full : (y : List ℤ) → Point c.d y → pos 1 ≤ℤ mass_at y → (i : ℕ) × (i < t.m) × (key c t i ≡ take c.d y)
    pub some : (i : ℕ) → i < t.m → (pos 1 ≤ℤ mass t i) ⊎ Hit (key c t i) ks
    pub total : (f : Row → ℤ) → Additive f → sum t.m (λ i. f (row c t i)) ≡ z f

  -- ---- one row more is looked at
  module _ (t : Table) (r : Row) (ks : List Row) (L : Left (r ∷ ks) t) where
    -- no point has its key
    left_none : point_of t.m (key c t) r.key ≡ 0 → Left ks t
    left_none e = record {
      shape = L.shape;
      room = L.room;
      apart = L.apart;
      good = L.good;
      masses = L.masses;
      values = L.values;
      full = L.full;
      some = λ i l. go i l (L.some i l);
      total = L.total;
    }
      where
        go : (i : ℕ) → i < t.m → (pos 1 ≤ℤ mass t i) ⊎ Hit (key c t i) (r ∷ ks) → (pos 1 ≤ℤ mass t i) ⊎ Hit (key c t i) ks
        go i l (inl h) = inl h
        go i l (inr (inl h)) = absurd (point_none t.m (key c t) r.key e i l (sym h))
        go i l (inr (inr h)) = inr h

    module _ (i : ℕ) (l : i < t.m) (q : key c t i ≡ r.key) where
      -- its point stays
      left_stays : mass t i ≢ pos 0 → Left ks t
      left_stays n = record {
        shape = L.shape;
        room = L.room;
        apart = L.apart;
        good = L.good;
        masses = L.masses;
        values = L.values;
        full = L.full;
        some = λ j h. go j h (L.some j h);
        total = L.total;
      }
        where
          heavy : (mass t i ≡ pos 0) ⊎ (pos 1 ≤ℤ mass t i) → pos 1 ≤ℤ mass t i
          heavy (inl e) = absurd (n e)
          heavy (inr h) = h

          here : pos 1 ≤ℤ mass t i
          here = heavy (zero_or_more (mass t i) (subst (λ (m : ℤ). pos 0 ≤ℤ m) (sym (L.masses i l)) (mass_low c.d c.S (whole (key c t i)) rest)))

          go : (j : ℕ) → j < t.m → (pos 1 ≤ℤ mass t j) ⊎ Hit (key c t j) (r ∷ ks) → (pos 1 ≤ℤ mass t j) ⊎ Hit (key c t j) ks
          go j h (inl k) = inl k
          go j h (inr (inl k)) = inl (subst (λ (j : ℕ). pos 1 ≤ℤ mass t j) (L.apart i j l h (q ∙ k)) here)
          go j h (inr (inr k)) = inr k

      -- its point leaves
      left_leaves : mass t i ≡ pos 0 → Left ks (vacated c t i)
      unfolding vacated
      left_leaves e = record {
        shape = vacated_shape c t L.shape L.room i l;
        room = fewer;
        apart = λ j k g h p. moved_apart c t L.shape L.room i l j k (low j g) (low k h) (L.apart (to j) (to k) (to_low j g) (to_low k h) (sym (key_is j g) ∙ p ∙ key_is k h));
        good = λ j g. subst (GoodKey c.d) (sym (key_is j g)) (L.good (to j) (to_low j g));
        masses = λ j g. ap (λ (a : Row). a.mass) (row_is j g) ∙ L.masses (to j) (to_low j g) ∙ ap (λ (k : List ℤ). mass_at (whole k)) (sym (key_is j g));
        values = λ j g. ap (λ (a : Row). a.value) (row_is j g) ∙ L.values (to j) (to_low j g) ∙ ap (λ (k : List ℤ). value_at (whole k)) (sym (key_is j g));
        full = λ y Y h. has y Y h (L.full y Y h);
        some = λ j g. still j g (L.some (to j) (to_low j g));
        total = λ f A. sum_cong last (λ j. f (row c (vacated c t i) j)) (λ j. f (row c t (to j))) (λ j g. ap f (row_is j g))
            ∙ sum_moved last i (λ j. f (row c t j)) (omega arith) (nothing_added f A (row c t i) e none_there) ∙ ap (λ (n : ℕ). sum n (λ j. f (row c t j))) again ∙ L.total f A;
      }
        where
          -- nor has it a value sum
          none_there : value t i ≡ pos 0
          none_there = L.values i l ∙ none_given c.d c.S (whole (key c t i)) rest (sym (L.masses i l) ∙ e)

          last : ℕ
          last = t.m - 1

          again : suc (t.m - 1) ≡ t.m
          again = omega arith

          to : ℕ → ℕ
          to = moved c t L.shape L.room i l

          points : (vacated c t i).m ≡ t.m - 1
          points = refl

          low : (j : ℕ) → j < (vacated c t i).m → j < t.m - 1
          low j g = omega (arith, points)

          fewer : (vacated c t i).m ≤ c.C
          fewer = omega (arith, points, L.room)

          to_low : (j : ℕ) → j < (vacated c t i).m → to j < t.m
          to_low j g = moved_low c t L.shape L.room i l j (low j g)

          key_is : (j : ℕ) → j < (vacated c t i).m → key c (vacated c t i) j ≡ key c t (to j)
          key_is j g = vacated_key c t L.shape L.room i l j (low j g)

          row_is : (j : ℕ) → j < (vacated c t i).m → row c (vacated c t i) j ≡ row c t (to j)
          row_is j g = vacated_row c t L.shape L.room i l j (low j g)

          has : (y : List ℤ) → Point c.d y → pos 1 ≤ℤ mass_at y → (j : ℕ) × (j < t.m) × (key c t j ≡ take c.d y)
              → (j : ℕ) × (j < (vacated c t i).m) × (key c (vacated c t i) j ≡ take c.d y)
          has y Y h (j, g, p) =
              let (k, m, f) = moved_from c t L.shape L.room i l j g (λ w. not_zero (subst (λ (x : ℤ). pos 1 ≤ℤ x) (gives_none w) h)) in
              (k, m, key_is k m ∙ ap (key c t) f ∙ p)
            where
              not_zero : pos 1 ≤ℤ pos 0 → ⊥
              not_zero h = omega (arith, le_in (pos 1) (pos 0) h)

              gives_none : j ≡ i → mass_at y ≡ pos 0
              gives_none w = ap mass_at (sym (whole_key c.d y Y) ∙ ap whole (sym p) ∙ ap (λ (j : ℕ). whole (key c t j)) w) ∙ sym (L.masses i l) ∙ e

          still : (j : ℕ) → j < (vacated c t i).m → (pos 1 ≤ℤ mass t (to j)) ⊎ Hit (key c t (to j)) (r ∷ ks) → (pos 1 ≤ℤ mass (vacated c t i) j) ⊎ Hit (key c (vacated c t i) j) ks
          still j g (inl h) = inl (subst (λ (a : Row). pos 1 ≤ℤ a.mass) (sym (row_is j g)) h)
          still j g (inr (inl h)) = absurd (moved_not c t L.shape L.room i l j (low j g) (sym (L.apart i (to j) l (to_low j g) (q ∙ h))))
          still j g (inr (inr h)) = inr (subst (λ (k : List ℤ). Hit k ks) (sym (key_is j g)) h)

    left_one : Left ks (leave_at c t (point_of t.m (key c t) r.key))
    left_one = go (point_of t.m (key c t) r.key) refl
      where
        go : (e : ℕ) → point_of t.m (key c t) r.key ≡ e → Left ks (leave_at c t e)
        go zero e = left_none e
        go (suc i) e = let (l, q) = point_low t.m (key c t) r.key i e in which l q (eq_z (mass t i) (pos 0)) refl
          where
            which : i < t.m → key c t i ≡ r.key → (b : Bool) → eq_z (mass t i) (pos 0) ≡ b → Left ks (cond b (vacated c t i) t)
            which l q true w = left_leaves i l q (eq_z_eq (mass t i) (pos 0) (subst T (sym w) tt))
            which l q false w = left_stays i l q (λ v. subst T w (subst (λ (m : ℤ). T (eq_z m (pos 0))) (sym v) (eq_z_refl (pos 0))))

  pub left_all : (ks : List Row) (t : Table) → Left ks t → Left [] (leave c t ks)
  unfolding leave
  left_all [] t L = L
  left_all (r ∷ ks) t L = left_all ks (leave_at c t (point_of t.m (key c t) r.key)) (left_one t r ks L)
