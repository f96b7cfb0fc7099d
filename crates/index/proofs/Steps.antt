-- The search in lent memory, one place at a time: what the code reads at a place, and what its next place makes of the walk. When a
-- table's memory may be searched.
use Rattle.std.proofs.Common.{◌≡◌, ℕ, zero, suc, ◌+◌, ◌-◌, ◌*◌, ◌<◌, ◌≤◌, Bool, true, false, List, length, take, drop, ℤ, sym, refl, ap, ◌∙◌, mul-le-mul_left, arith}
use native.Mathlib.Decide.{dec_lt}
use lib.ListN.{get_or-eq_default}
use Rattle.lattice.specs.Limits.{most_C}
use Rattle.index.specs.Keys.{same, key_at, home}
use Rattle.index.specs.Search.{next, walk, entry_at, stops, search, Searchable}
use Rattle.index.specs.Indexed.{Sparse}
use Rattle.index.proofs.Equality.{key_part}
use Rattle.index.proofs.Ring.{ahead, walk_stop, walk_on, ahead_falls}
use Rattle.index.proofs.Finding.{gap}

-- whether the walk for the key stops at a place
abbrev pub stop : List ℤ → List ℕ → List ℤ → ℕ → Bool
stop keys index key p = stops (key_at (length key) keys) key (entry_at index p)

-- where the walk from a place ends
abbrev pub walked : List ℤ → List ℕ → List ℤ → ℕ → ℕ → ℕ
walked keys index key places p = walk places (stop keys index key) places p

-- the place that a search in the lent memory ends at
abbrev pub sought : ℕ → List ℤ → List ℕ → List ℤ → ℕ
sought C keys index key = search C (key_at (length key) keys) (entry_at index) key

pub starts : (C : ℕ) (keys : List ℤ) (index : List ℕ) (key : List ℤ) (places h : ℕ) → places ≡ 2 * C → h ≡ home C key → sought C keys index key ≡ walked keys index key places h
unfolding search
starts C keys index key places h e f = rw (e, f)

-- the stretch of the point that an entry names lies within the keys
pub stretch : (d e n : ℕ) → (e ≡ 0 → ⊥) → d * e ≤ n → d * (e - 1) + d ≤ n
stretch d zero n h p = absurd (h refl)
stretch d (suc e) n h p = let q : suc e - 1 ≡ e = omega arith in rw q (omega arith)

stops_empty : (key : ℕ → List ℤ) (k : List ℤ) (e : ℕ) → e ≡ 0 → stops key k e ≡ true
stops_empty key k e z = rw z

-- the test at a place that is taken is the one that the code makes
stops_taken : (keys k : List ℤ) (e : ℕ) (t : Bool) → (e ≡ 0 → ⊥) → length k * e ≤ length keys
    → t ≡ same (take (length k * (e - 1) + length k - length k * (e - 1)) (drop (length k * (e - 1)) keys)) k
    → stops (key_at (length k) keys) k e ≡ t
stops_taken keys k zero t z p h = absurd (z refl)
stops_taken keys k (suc i) t z p h =
    sym (h ∙ ap (λ (s : List ℤ). same s k) (key_part (length k) keys (suc i - 1) (stretch (length k) (suc i) (length keys) z p)) ∙ ap (λ (j : ℕ). same (key_at (length k) keys j) k) q)
  where
    q : suc i - 1 ≡ i
    q = omega arith

module _ (keys : List ℤ) (index : List ℕ) (key : List ℤ) (places : ℕ) where
  pub ends : {r : ℕ} (p : ℕ) → entry_at index p ≡ 0 → r ≡ walked keys index key places p → p ≡ r
  ends p z h = sym (h ∙ walk_stop places (stop keys index key) places p (stops_empty (key_at (length key) keys) key (entry_at index p) z))

  pub finds : {r : ℕ} (p : ℕ) (t : Bool) → (entry_at index p ≡ 0 → ⊥) → length key * entry_at index p ≤ length keys
      → t ≡ same (take (length key * (entry_at index p - 1) + length key - length key * (entry_at index p - 1)) (drop (length key * (entry_at index p - 1)) keys)) key
      → t ≡ true → r ≡ walked keys index key places p → p ≡ r
  finds p t z n e y h = sym (h ∙ walk_stop places (stop keys index key) places p (stops_taken keys key (entry_at index p) t z n e ∙ y))

  module _ (hole : ℕ) (inside : hole < places) (bare : entry_at index hole ≡ 0) where
    halt : stop keys index key hole ≡ true
    halt = stops_empty (key_at (length key) keys) key (entry_at index hole) bare

    pub goes_on : {r : ℕ} (p : ℕ) (t : Bool) → p < places → (entry_at index p ≡ 0 → ⊥) → length key * entry_at index p ≤ length keys
        → t ≡ same (take (length key * (entry_at index p - 1) + length key - length key * (entry_at index p - 1)) (drop (length key * (entry_at index p - 1)) keys)) key
        → t ≡ false → r ≡ walked keys index key places p → r ≡ walked keys index key places (next places p)
    goes_on p t l z n e y h = h ∙ walk_on places (stop keys index key) hole inside halt p l (stops_taken keys key (entry_at index p) t z n e ∙ y)

    pub falls : (p : ℕ) (t : Bool) → p < places → (entry_at index p ≡ 0 → ⊥) → length key * entry_at index p ≤ length keys
        → t ≡ same (take (length key * (entry_at index p - 1) + length key - length key * (entry_at index p - 1)) (drop (length key * (entry_at index p - 1)) keys)) key
        → t ≡ false → ahead places (stop keys index key) places (next places p) < ahead places (stop keys index key) places p
    falls p t l z n e y = ahead_falls places (stop keys index key) hole inside halt p l (stops_taken keys key (entry_at index p) t z n e ∙ y)

-- an entry past the end reads as 0, which names no point
pub searchable : (d C m : ℕ) (keys : List ℤ) (index : List ℕ) → 0 < C → C ≤ most_C → length index ≡ 2 * C
    → length keys ≡ d * C → Sparse C m (entry_at index) → Searchable d C keys index
searchable d C m keys index some small places size Q =
    let g = gap C m (key_at d keys) (entry_at index) some Q in
    record { small = small; places = places; hole = g.0; hole_inside = g.1; hole_empty = g.2; named = λ p. named p (dec_lt p (2 * C)) }
  where
    named : (p : ℕ) → Dec (p < 2 * C) → d * entry_at index p ≤ length keys
    named p (yes l) = let low : entry_at index p ≤ C = omega (arith, Q.low p l, Q.room) in rw size (mul-le-mul_left d low)
    named p (no l) = rw (get_or-eq_default index 0 {n = p} (omega arith)) (omega arith)
