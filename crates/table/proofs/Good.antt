-- Stored points: a lattice point is told by its key, and the tests of a key and of a pair say what `Good` states.
use mathlib.Core.Path.{◌≡◌, refl, sym, ap, ◌∙◌, subst}
use mathlib.Core.List.{List, [], ◌∷◌, ◌++◌}
use Prim.Native.Nat.{ℕ, zero, suc, ◌<◌}
use native.Mathlib.Omega.{arith}
use lib.IntN.{ℤ, pos, neg_ℤ, nat_abs, ◌+ℤ◌, ◌*ℤ◌}
use lib.Signed.{le_z, ◌≤ℤ◌, le_z_yes}
use lib.Dec.{T, eqb, eqb→eq, leb, leb→le, le→leb}
use lib.ListN.{length, take, length-append, length-take, get_or-append}
use lib.Seq.{take_at}
use Rattle.whole.specs.Size.{Abs≤}
use Rattle.whole.specs.Floor.{remainder}
use Rattle.whole.specs.Sum.{sum, over}
use Rattle.whole.specs.Lists.{at}
use Rattle.whole.proofs.Linear.{on, difs, ints}
use Rattle.whole.proofs.Size.{abs_of, of_abs}
use Rattle.whole.proofs.Sum.{sum_list, over_append}
use Rattle.whole.proofs.Tests.{and_l, and_r, and_i, all_at, all_of}
use Rattle.lattice.specs.Limits.{farthest_point, most_value}
use Rattle.lattice.specs.Lattice.{Point, remainder_of}
use Rattle.index.proofs.Equality.{eq-eqb}
use Rattle.table.specs.Table.{Row, whole}
use Rattle.table.specs.Sound.{within_plus_minus, one_remainder, all_reached, good_key, good_pair, good, Good}
use Rattle.table.proofs.Rows.{join}

-- ---- a lattice point and its key
one_left : (d : ℕ) (y : List ℤ) → length y ≡ suc d → (b : ℤ) × (y ≡ take d y ++ (b ∷ []))
one_left d [] e = absurd (omega arith)
one_left zero (a ∷ []) e = (a, refl)
one_left zero (a ∷ b ∷ y) e = absurd (omega arith)
one_left (suc d) (a ∷ y) e = let t = one_left d y (omega arith) in (t.0, ap (λ (k : List ℤ). a ∷ k) t.1)

pub key_size : (d : ℕ) (y : List ℤ) → Point d y → length (take d y) ≡ d
key_size d y Y = length-take d y ∙ omega (arith, Y.size)

pub whole_key : (d : ℕ) (y : List ℤ) → Point d y → whole (take d y) ≡ y
unfolding whole over
whole_key d y Y =
    let (b, e) = one_left d y Y.size in
    let s : over (take d y ++ (b ∷ [])) (λ z. z) ≡ pos 0 = subst (λ (l : List ℤ). over l (λ z. z) ≡ pos 0) e (sym (sum_list y (pos 0) (λ z. z)) ∙ rw Y.size Y.lattice.total) in
    ap (λ (z : ℤ). take d y ++ (z ∷ [])) (lin (over (take d y) (λ z. z)) b (sym (over_append (take d y) (b ∷ []) (λ z. z)) ∙ s)) ∙ sym e
  where
    lin : (a b : ℤ) → a +ℤ (b +ℤ pos 0) ≡ pos 0 → neg_ℤ a ≡ b
    lin = on _ λ a b. on _ λ c d. simp difs (omega ints)

-- two lattice points of one key are one
pub key_tells : (d : ℕ) (y z : List ℤ) → Point d y → Point d z → take d y ≡ take d z → y ≡ z
key_tells d y z Y Z e = sym (whole_key d y Y) ∙ ap whole e ∙ whole_key d z Z

pub whole_size : (k : List ℤ) → length (whole k) ≡ suc (length k)
unfolding whole
whole_size k = length-append k (neg_ℤ (over k (λ z. z)) ∷ []) ∙ omega arith

-- the first coordinates of a point are its key's
pub kept_at : (k : List ℤ) (i : ℕ) → i < length k → at (whole k) i ≡ at k i
unfolding whole
kept_at k i l = get_or-append k (neg_ℤ (over k (λ z. z)) ∷ []) (pos 0) i l

-- the kept coordinates of a whole point
pub key_whole : (d : ℕ) (k : List ℤ) → length k ≡ d → take d (whole k) ≡ k
unfolding whole
key_whole d k e = take_at k _ d e

pub whole_sum : (d : ℕ) (k : List ℤ) → length k ≡ d → sum (suc d) (at (whole k)) ≡ pos 0
unfolding whole over
whole_sum d k e = subst (λ (n : ℕ). sum n (at (whole k)) ≡ pos 0) (whole_size k ∙ ap suc e)
    (sum_list (whole k) (pos 0) (λ z. z) ∙ over_append k (neg_ℤ (over k (λ z. z)) ∷ []) (λ z. z) ∙ lin (over k (λ z. z)))
  where
    lin : (a : ℤ) → a +ℤ (neg_ℤ a +ℤ pos 0) ≡ pos 0
    lin = on _ λ a b. simp difs (omega ints)

-- ---- the test of a key
pub record GoodKey (d : ℕ) (k : List ℤ) : Type 0 where
  pub size : length k ≡ d
  pub point : Point d (whole k)
  pub near : (j : ℕ) → j < suc d → Abs≤ (at (whole k) j) farthest_point

pub to_good_key : (d : ℕ) (k : List ℤ) → length k ≡ d → T (good_key d k) → GoodKey d k
unfolding good_key
to_good_key d k e t =
    let y = whole k in
    let a = one_remainder d y in
    let b = all_reached d y in
    record {
      size = e;
      point = record {
        size = whole_size k ∙ ap suc e;
        lattice = record {
          total = whole_sum d k e;
          same = λ j l. eqb→eq (remainder (at y j) (suc d)) (remainder_of d (at y))
              (all_at (suc d) (λ j. eqb (remainder (at y j) (suc d)) (remainder_of d (at y))) (and_l a b t) j l);
        };
      };
      near = λ j l. abs_of (at y j) farthest_point (leb→le (nat_abs (at y j)) farthest_point (all_at (suc d) (λ j. leb (nat_abs (at y j)) farthest_point) (and_r a b t) j l));
    }

pub of_good_key : (d : ℕ) (k : List ℤ) → GoodKey d k → T (good_key d k)
unfolding good_key
of_good_key d k G =
    let y = whole k in
    and_i (one_remainder d y) (all_reached d y)
    (all_of (suc d) (λ j. eqb (remainder (at y j) (suc d)) (remainder_of d (at y))) (λ j l. eq-eqb (remainder (at y j) (suc d)) (remainder_of d (at y)) (G.point.lattice.same j l)))
    (all_of (suc d) (λ j. leb (nat_abs (at y j)) farthest_point) (λ j l. le→leb (nat_abs (at y j)) farthest_point (of_abs (at y j) farthest_point (G.near j l))))

-- ---- the test of a pair
pub record GoodPair (m v : ℤ) : Type 0 where
  pub some : pos 1 ≤ℤ m
  pub low : neg_ℤ (pos most_value *ℤ m) ≤ℤ v
  pub high : v ≤ℤ (pos most_value *ℤ m)

pub to_good_pair : (m v : ℤ) → T (good_pair m v) → GoodPair m v
unfolding good_pair
to_good_pair m v t =
    let b = pos most_value *ℤ m in
    let s = and_r (le_z (pos 1) m) (within_plus_minus b v) t in
    record {
      some = le_z_yes (and_l (le_z (pos 1) m) (within_plus_minus b v) t);
      low = le_z_yes (and_l (le_z (neg_ℤ b) v) (le_z v b) s);
      high = le_z_yes (and_r (le_z (neg_ℤ b) v) (le_z v b) s);
    }

pub of_good_pair : (m v : ℤ) → GoodPair m v → T (good_pair m v)
unfolding good_pair
of_good_pair m v G =
    let b = pos most_value *ℤ m in
    and_i (le_z (pos 1) m) (within_plus_minus b v) G.some.le (and_i (le_z (neg_ℤ b) v) (le_z v b) G.low.le G.high.le)

-- ---- a stored point
pub to_good : (d : ℕ) (r : Row) → length r.key ≡ d → T (good d r) → Good d r
to_good d r e t =
    let K = to_good_key d r.key e (and_l (good_key d r.key) (good_pair r.mass r.value) t) in
    let Q = to_good_pair r.mass r.value (and_r (good_key d r.key) (good_pair r.mass r.value) t) in
    record { size = e; point = K.point; near = K.near; some = Q.some; low = Q.low; high = Q.high }

pub of_good : (d : ℕ) (r : Row) → Good d r → T (good d r)
of_good d r G = and_i (good_key d r.key) (good_pair r.mass r.value)
    (of_good_key d r.key (record { size = G.size; point = G.point; near = G.near }))
    (of_good_pair r.mass r.value (record { some = G.some; low = G.low; high = G.high }))

pub good_join : (d : ℕ) (a b : Row) → Good d a → Good d b → Good d (join a b)
good_join d a b A B = record {
  size = A.size;
  point = A.point;
  near = A.near;
  some = lin a.mass b.mass A.some B.some;
  low = lin' a.mass b.mass a.value b.value A.low B.low;
  high = lin'' a.mass b.mass a.value b.value A.high B.high;
}
  where
    lin : (a b : ℤ) → pos 1 ≤ℤ a → pos 1 ≤ℤ b → pos 1 ≤ℤ (a +ℤ b)
    lin = on _ λ a b. on _ λ c d. simp difs (omega ints)

    lin' : (a b v w : ℤ) → neg_ℤ (pos most_value *ℤ a) ≤ℤ v → neg_ℤ (pos most_value *ℤ b) ≤ℤ w → neg_ℤ (pos most_value *ℤ (a +ℤ b)) ≤ℤ (v +ℤ w)
    lin' = on _ λ a b. on _ λ c d. on _ λ e f. on _ λ g h. simp difs (omega ints)

    lin'' : (a b v w : ℤ) → v ≤ℤ (pos most_value *ℤ a) → w ≤ℤ (pos most_value *ℤ b) → (v +ℤ w) ≤ℤ (pos most_value *ℤ (a +ℤ b))
    lin'' = on _ λ a b. on _ λ c d. on _ λ e f. on _ λ g h. simp difs (omega ints)
