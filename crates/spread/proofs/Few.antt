-- A reading has at most d + 1 shares, and a slot one row; no more points are missing than there are rows.
use mathlib.Core.Bool.{Bool, true, false, cond}
use mathlib.Core.List.{List, [], ◌∷◌, map}
use Prim.Native.Nat.{ℕ, zero, suc, ◌+◌, ◌*◌, ◌≤◌}
use native.Mathlib.Omega.{arith}
use lib.Dec.{eqb}
use lib.IntN.{ℤ}
use lib.ListN.{length, get_or, length-map, length-append}
use Rattle.whole.specs.Lists.{at, tab, collect}
use Rattle.lattice.specs.Limits.{most_coords}
use Rattle.lattice.specs.Lattice.{remainder_of}
use Rattle.lattice.specs.Points.{last_of, points, corner, corner_of}
use Rattle.simplex.specs.Slots.{slot}
use Rattle.table.specs.Table.{Settings, Row, keys_of}
use Rattle.table.specs.Pour.{news_in}
use Rattle.table.specs.Reading.{Reading, share, shares}
use Rattle.table.specs.Inner.{weighed_row}
use Rattle.shares.specs.Slots.{slot_rows}
use Rattle.spread.specs.Spreading.{found_in, Lifts}

last_few : {A : Type 0} (n : ℕ) (t : ℕ → Bool) (g : ℕ → A) → length (last_of n t g) ≤ 1
unfolding last_of
last_few zero t g = omega arith
last_few (suc n) t g = go (t n) (last_few n t g)
  where
    go : (b : Bool) → length (last_of n t g) ≤ 1 → length (cond b (g n ∷ []) (last_of n t g)) ≤ 1
    go true h = omega arith
    go false h = h

-- lists one after the other, none longer than w
pub collect_few : {A : Type 0} (w n : ℕ) (g : ℕ → List A) → ((i : ℕ) → length (g i) ≤ w) → length (collect n g) ≤ w * n
unfolding collect
collect_few w zero g h = omega arith
collect_few w (suc n) g h = omega (arith, length-append (collect n g) (g n), h n, collect_few w n g h)

pub shares_few : (d S : ℕ) (r : Reading) → length (shares d S r) ≤ suc d
unfolding shares points
shares_few d S r =
    let x = r.position in
    let few = collect_few 1 (suc d) (corner_of d S x (suc d)) (λ k. last_few (suc d) (λ j. eqb (remainder_of d (at (corner d S x j))) k) (corner d S x)) in
    rw (length-map (points d S x) (share d S r)) (omega (arith, few))

pub slot_few : (d : ℕ) (ws : List ℕ) (cs : List ℤ) (v : ℤ) (k : ℕ) → length (slot_rows d ws cs v k) ≤ 1
unfolding slot_rows slot
slot_few d ws cs v k = go (eqb (get_or ws k 0) 0)
  where
    p : List ℤ × ℕ
    p = (tab (suc d) (λ i. at cs (most_coords * k + i)), get_or ws k 0)

    go : (b : Bool) → length (map (weighed_row d v) (cond b [] (p ∷ []))) ≤ 1
    go true = omega arith
    go false = omega arith

module _ (c : Settings) (keys : List ℤ) (index : List ℕ) where
  -- no more keys are new than there are
  pub news_few : (ks : List (List ℤ)) → news_in c keys index ks ≤ length ks
  unfolding news_in
  news_few [] = omega arith
  news_few (k ∷ ks) = omega (arith, one (eqb (found_in c keys index k) 0), news_few ks)
    where
      one : (b : Bool) → cond b 1 0 ≤ 1
      one true = omega arith
      one false = omega arith

  -- of lists of rows one after the other, none longer than w
  pub missing_few : (w k : ℕ) (g : ℕ → List Row) → ((i : ℕ) → length (g i) ≤ w) → {sheet left : List ℤ} {x : ℕ} → Lifts c keys index sheet (collect k g) x left → x ≤ w * k
  missing_few w k g h L = omega (arith, L.missing_are, news_few (keys_of (collect k g)), length-map (collect k g) (λ (r : Row). r.key), collect_few w k g h)
