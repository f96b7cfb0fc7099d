-- The index: a search in one that finds each of its points finds point i if and only if i has that key, and a new key at the empty
-- place found keeps that so. What the first module says needs no more than that m of the 2·C places are used.
use Rattle.std.proofs.Common.{◌≡◌, ℕ, zero, suc, ◌*◌, ◌<◌, ◌≤◌, Bool, true, false, not, T, eqb, leb, ◌≢◌, ◌⊎◌, List, ℤ, sym, refl, ap, ◌∙◌, subst, inl, inr, le_of_suc-le-suc, eq-or-lt_of_le, arith, le→leb, eqb→eq, leb→le}
use native.Mathlib.Decide.{dec_lt, ℕ_discrete}
use lib.Dec.{eqb-suc-zero}
use Rattle.whole.specs.Sum.{all}
use Rattle.whole.proofs.Tests.{all_at, all_of, and_l, and_r, and_i}
use Rattle.index.specs.Keys.{home}
use Rattle.index.specs.Search.{walk, stops, search, Ends, up_from, FirstEnd}
use Rattle.index.specs.Indexed.{count, used, sparse, finding, Sparse, Indexed}
use Rattle.index.specs.Theorems.{StopsAtFirst, FindsExactly, EmptyPlace, KeysApart, NewPointFound}
use Rattle.index.proofs.Equality.{eq-eqb, same_eq, eq_same}
use Rattle.index.proofs.Hash.{home_lt}
use Rattle.index.proofs.Ring.{ring, ring_lt, walk_lt, ring_to, ring_mod, First, first_one, first_keep, walk_first}
use Rattle.index.proofs.Count.{count_more, count_gap}

-- ---- the tests and what they say
pub to_sparse : (C m : ℕ) (entry : ℕ → ℕ) → m ≤ C → T (sparse (2 * C) m entry) → Sparse C m entry
unfolding sparse
to_sparse C m entry room t =
    let a = all (2 * C) (λ p. leb (entry p) m) in
    let b = eqb (count (2 * C) (used entry)) m in
    record {
      room = room;
      low = λ p l. leb→le (entry p) m (all_at (2 * C) (λ p. leb (entry p) m) (and_l a b t) p l);
      full = eqb→eq (count (2 * C) (used entry)) m (and_r a b t);
    }

pub of_sparse : (C m : ℕ) (entry : ℕ → ℕ) → Sparse C m entry → T (sparse (2 * C) m entry)
unfolding sparse
of_sparse C m entry Q = and_i (all (2 * C) (λ p. leb (entry p) m)) (eqb (count (2 * C) (used entry)) m)
    (all_of (2 * C) (λ p. leb (entry p) m) (λ p l. le→leb (entry p) m (Q.low p l)))
    (eq-eqb (count (2 * C) (used entry)) m Q.full)

pub to_indexed : (C m : ℕ) (key : ℕ → List ℤ) (entry : ℕ → ℕ) → Sparse C m entry → T (finding C m key entry) → Indexed C m key entry
unfolding finding
to_indexed C m key entry Q t = record {
  sparse = Q;
  finds = λ i l. eqb→eq (entry (search C key entry (key i))) (suc i) (all_at m (λ i. eqb (entry (search C key entry (key i))) (suc i)) t i l);
}

pub of_indexed : (C m : ℕ) (key : ℕ → List ℤ) (entry : ℕ → ℕ) → Indexed C m key entry → T (finding C m key entry)
unfolding finding
of_indexed C m key entry I = all_of m (λ i. eqb (entry (search C key entry (key i))) (suc i))
    (λ i l. eq-eqb (entry (search C key entry (key i))) (suc i) (I.finds i l))

empty : (e : ℕ) → not (eqb e 0) ≡ false → e ≡ 0
empty e h = eqb→eq e 0 (tr (eqb e 0) h)
  where
    tr : (b : Bool) → not b ≡ false → T b
    tr true e = tt
    tr false e = subst T e tt

empty_stops : (key : ℕ → List ℤ) (k : List ℤ) (e : ℕ) → e ≡ 0 → T (stops key k e)
empty_stops key k e z = rw z tt

-- ---- the search: where a place is empty or names the point, it stops at the first such place
stopping : (C : ℕ) (key : ℕ → List ℤ) (entry : ℕ → ℕ) (k : List ℤ) (p : ℕ) → p < 2 * C → T (stops key k (entry p))
    → (j : ℕ) × (j < 2 * C) × T (stops key k (entry (ring (2 * C) (home C k) j))) × First (2 * C) (λ p. stops key k (entry p)) (home C k) (search C key entry k)
unfolding search
stopping C key entry k p l t =
    let r = ring_to (2 * C) (home C k) p (home_lt C k (omega arith)) l in
    let s : T (stops key k (entry (ring (2 * C) (home C k) r.0))) = rw r.2 t in
    (r.0, r.1, s, walk_first (2 * C) (λ p. stops key k (entry p)) (2 * C) (home C k) r.0 r.1 s)

-- it ends at one of the places
pub search_lt : (C : ℕ) (key : ℕ → List ℤ) (entry : ℕ → ℕ) → 0 < C → (k : List ℤ) → search C key entry k < 2 * C
unfolding search
search_lt C key entry some k = walk_lt (2 * C) (λ p. stops key k (entry p)) (2 * C) (home C k) (home_lt C k some)

module _ (C m : ℕ) (key : ℕ → List ℤ) (entry : ℕ → ℕ) (some : 0 < C) (Q : Sparse C m entry) where
  -- an empty place always exists
  pub gap : (p : ℕ) × (p < 2 * C) × (entry p ≡ 0)
  gap = let t = count_gap (2 * C) (used entry) (omega (arith, Q.room, Q.full)) in (t.0, t.1, empty (entry t.0) t.2)

  pub seek_first : (k : List ℤ) → First (2 * C) (λ p. stops key k (entry p)) (home C k) (search C key entry k)
  seek_first k = let g = gap in (stopping C key entry k g.0 g.1 (empty_stops key k (entry g.0) g.2)).3

  pub found_low : (k : List ℤ) (i : ℕ) → entry (search C key entry k) ≡ suc i → i < m
  found_low k i e = omega (arith, Q.low (search C key entry k) (search_lt C key entry some k))

  pub found_key : (k : List ℤ) (i : ℕ) → entry (search C key entry k) ≡ suc i → key i ≡ k
  found_key k i e = same_eq (key i) k (subst (λ (n : ℕ). T (stops key k n)) e (seek_first k).halt)

module _ (C m : ℕ) (key : ℕ → List ℤ) (entry : ℕ → ℕ) (some : 0 < C) (I : Indexed C m key entry) where
  pub key_found : (k : List ℤ) (i : ℕ) → i < m → key i ≡ k → entry (search C key entry k) ≡ suc i
  key_found k i l e = subst (λ (k : List ℤ). entry (search C key entry k) ≡ suc i) e (I.finds i l)

  -- ---- a new key y, at the empty place found for it
  module _ (y : List ℤ) (key' : ℕ → List ℤ) (entry' : ℕ → ℕ) (none : entry (search C key entry y) ≡ 0) (less : m < C)
      (old : (i : ℕ) → i < m → key' i ≡ key i) (new : key' m ≡ y)
      (at_place : entry' (search C key entry y) ≡ suc m) (else : (p : ℕ) → p ≢ search C key entry y → entry' p ≡ entry p) where
    -- a place that a search passes is passed after it too
    passed : (z : List ℤ) (p : ℕ) → p < 2 * C → (T (stops key z (entry p)) → ⊥) → T (stops key' z (entry' p)) → ⊥
    passed z p l h t = go (entry p) refl
      where
        elsewhere : p ≢ search C key entry y
        elsewhere e = h (empty_stops key z (entry p) (ap entry e ∙ none))

        go : (e : ℕ) → entry p ≡ e → ⊥
        go zero e = h (empty_stops key z (entry p) e)
        go (suc i) e = h (rw (e, ← (old i (omega (arith, I.sparse.low p l)))) (subst (λ (n : ℕ). T (stops key' z n)) (else p elsewhere ∙ e) t))

    kept : (z : List ℤ) (q : ℕ) → First (2 * C) (λ p. stops key z (entry p)) (home C z) q → T (stops key' z (entry' q)) → First (2 * C) (λ p. stops key' z (entry' p)) (home C z) q
    kept z q F t = first_keep (2 * C) (λ p. stops key z (entry p)) (λ p. stops key' z (entry' p)) (home C z) q F t
        (λ j. passed z (ring (2 * C) (home C z) j) (ring_lt (2 * C) (home C z) j (home_lt C z some)))

    ends : (z : List ℤ) (q : ℕ) → First (2 * C) (λ p. stops key z (entry p)) (home C z) q → T (stops key' z (entry' q)) → search C key' entry' z ≡ q
    unfolding search
    ends z q F t =
        let K = kept z q F t in
        let r = ring_to (2 * C) (home C z) q (home_lt C z some) (subst (λ (p : ℕ). p < 2 * C) F.here (ring_lt (2 * C) (home C z) F.steps (home_lt C z some))) in
        first_one (2 * C) (λ p. stops key' z (entry' p)) (home C z) (walk (2 * C) (λ p. stops key' z (entry' p)) (2 * C) (home C z)) q
        (walk_first (2 * C) (λ p. stops key' z (entry' p)) (2 * C) (home C z) r.0 r.1 (rw r.2 K.halt)) K

    finds_new : entry' (search C key' entry' y) ≡ suc m
    finds_new = ap entry' (ends y (search C key entry y) (seek_first C m key entry some I.sparse y) (rw at_place (eq_same (key' m) y new))) ∙ at_place

    finds_old : (i : ℕ) → i < m → entry' (search C key' entry' (key i)) ≡ suc i
    finds_old i l =
        let q = search C key entry (key i) in
        let e = else q (λ h. absurd (omega (arith, I.finds i l, none, ap entry h))) ∙ I.finds i l in
        ap entry' (ends (key i) q (seek_first C m key entry some I.sparse (key i)) (rw e (eq_same (key' i) (key i) (old i l)))) ∙ e

    indexed_more : Indexed C (suc m) key' entry'
    indexed_more = record {
      sparse = record {
        room = less;
        low = λ p l. low' p l (ℕ_discrete p (search C key entry y));
        full = count_more (2 * C) (used entry) (used entry') (search C key entry y) (search_lt C key entry some y) (rw none) (rw (at_place, eqb-suc-zero m)) (λ p h. rw (else p h)) ∙ ap suc I.sparse.full;
      };
      finds = λ i l. each i (eq-or-lt_of_le (le_of_suc-le-suc l));
    }
      where
        low' : (p : ℕ) → p < 2 * C → Dec (p ≡ search C key entry y) → entry' p ≤ suc m
        low' p l (yes e) = omega (arith, ap entry' e, at_place)
        low' p l (no e) = omega (arith, else p e, I.sparse.low p l)

        each : (i : ℕ) → (i ≡ m) ⊎ (i < m) → entry' (search C key' entry' (key' i)) ≡ suc i
        each i (inl e) = rw (e, new) finds_new
        each i (inr l) = rw (old i l) (finds_old i l)

-- ---- the statements of specs/Theorems.antt
to_ends : (key : ℕ → List ℤ) (entry : ℕ → ℕ) (k : List ℤ) (p : ℕ) → T (stops key k (entry p)) → Ends key entry k p
to_ends key entry k p = go (entry p)
  where
    go : (e : ℕ) → T (stops key k e) → (e ≡ 0) ⊎ ((i : ℕ) × (e ≡ suc i) × (key i ≡ k))
    go zero t = inl refl
    go (suc i) t = inr (i, refl, same_eq (key i) k t)

of_ends : (key : ℕ → List ℤ) (entry : ℕ → ℕ) (k : List ℤ) (p : ℕ) → Ends key entry k p → T (stops key k (entry p))
of_ends key entry k p (inl z) = empty_stops key k (entry p) z
of_ends key entry k p (inr e) = rw e.1 (eq_same (key e.0) k e.2)

-- a stop n steps up, fewer than 2·C: the first comes no later
first_end : (C : ℕ) (key : ℕ → List ℤ) (entry : ℕ → ℕ) (k : List ℤ) → 0 < C → (n : ℕ) → n < 2 * C → T (stops key k (entry (ring (2 * C) (home C k) n)))
    → First (2 * C) (λ p. stops key k (entry p)) (home C k) (search C key entry k) → FirstEnd C key entry k (search C key entry k)
first_end C key entry k some n l t F = go (dec_lt F.steps (2 * C))
  where
    up : (j : ℕ) → ring (2 * C) (home C k) j ≡ up_from C k j
    up j = ring_mod (2 * C) (home C k) j (home_lt C k some)

    go : Dec (F.steps < 2 * C) → FirstEnd C key entry k (search C key entry k)
    go (no h) = absurd (F.pass n (omega arith) t)
    go (yes h) = record {
      steps = F.steps;
      once_round = h;
      here = sym F.here ∙ up F.steps;
      ends = to_ends key entry k (search C key entry k) F.halt;
      passed = λ j m e. F.pass j m (of_ends key entry k (ring (2 * C) (home C k) j) (subst (Ends key entry k) (sym (up j)) e));
    }

pub stops_at_first : StopsAtFirst
stops_at_first C key entry k p l e = let g = stopping C key entry k p l (of_ends key entry k p e) in first_end C key entry k (omega arith) g.0 g.1 g.2 g.3

pub finds_exactly : FindsExactly
finds_exactly C m key entry some I k i = (
  λ e. (found_low C m key entry some I.sparse k i e, found_key C m key entry some I.sparse k i e),
  λ h. key_found C m key entry some I k i h.0 h.1,
)

pub empty_place : EmptyPlace
empty_place C m key entry some I = gap C m key entry some I.sparse

pub keys_apart : KeysApart
keys_apart C m key entry some I i j l h e = let a = key_found C m key entry some I (key j) i l e in let b = I.finds j h in omega (arith, a, b)

pub new_point_found : NewPointFound
new_point_found C m key entry some I y key' entry' none less old new at_place else = indexed_more C m key entry some I y key' entry' none less old new at_place else
