-- The entries of a book: where each stands, the reading of one as a part of the book, and the others where one is taken out and the book closes up.
use mathlib.Core.Path.{◌≡◌, ap, ◌∙◌}
use mathlib.Core.List.{List, ◌∷◌, ◌++◌}
use Prim.Native.Nat.{ℕ, suc, ◌+◌, ◌*◌, ◌-◌, ◌≤◌, ◌<◌}
use native.Mathlib.Nat.{le_refl, mul-le-mul, mul-le-mul_left}
use native.Mathlib.Omega.{arith}
use lib.IntN.{ℤ, pos}
use lib.ListN.{length, take, drop, length-append, length-drop, length-replicate, get_or-append}
use lib.Seq.{length-take-le, get_or-take, get_or-drop}
use Rattle.whole.specs.Lists.{at, tab}
use Rattle.whole.proofs.Lists.{tab_cong, past}
use Rattle.lattice.specs.Limits.{most_d, most_readings}
use Rattle.index.proofs.Equality.{stretch_fits}
use Rattle.table.specs.Reading.{reading_of}
use Rattle.table.proofs.Lists.{tab_add, tab_parts}
use Rattle.book.specs.Book.{Numbered, entry_of, entries}
use Rattle.book.specs.Withdraw.{closed}

-- an entry is told by its d + 3 numbers
pub entry_eq : (d : ℕ) (l m : List ℤ) (i j : ℕ) → ((p : ℕ) → p < d + 3 → at l ((d + 3) * i + p) ≡ at m ((d + 3) * j + p)) → entry_of d l i ≡ entry_of d m j
entry_eq d l m i j h =
    let n : (d + 3) * i ≡ (d + 3) * i + 0 = omega arith in
    let k : (d + 3) * j + 0 ≡ (d + 3) * j = omega arith in
    λ x. record {
      number = (ap (at l) n ∙ h 0 (omega arith) ∙ ap (at m) k) x;
      reading = record {
        position = tab_cong (suc d) (λ p. at l ((d + 3) * i + suc p)) (λ p. at m ((d + 3) * j + suc p)) (λ p q. h (suc p) (omega arith)) x;
        value = h (d + 2) (omega arith) x;
      };
    }

-- ---- where the code finds one
pub entry_inside : (d n j : ℕ) → j < n → (d + 3) * j + (d + 3) ≤ (d + 3) * n
entry_inside d n j h = stretch_fits (d + 3) j n ((d + 3) * n) h (le_refl ((d + 3) * n))

-- n entries are few numbers
pub entries_few : (d n : ℕ) → d ≤ most_d → n ≤ most_readings → (d + 3) * n ≤ (most_d + 3) * most_readings
entries_few d n h k = let g : d + 3 ≤ most_d + 3 = omega arith in mul-le-mul g k

-- the numbers of entry j behind its first, as the code lends them, are its reading's own
module _ (d : ℕ) (l : List ℤ) (j from to : ℕ) (begins : from ≡ (d + 3) * j + 1) (ends : to ≡ (d + 3) * j + (d + 3)) where
  part_at : (i : ℕ) → i < d + 2 → at (take (to - from) (drop from l)) i ≡ at l (from + i)
  part_at i h = get_or-take (to - from) (drop from l) i (pos 0) (omega arith) ∙ get_or-drop from l i (pos 0)

  pub part_reading : reading_of d (take (to - from) (drop from l)) ≡ (entry_of d l j).reading
  part_reading = λ x. record {
    position = tab_cong (suc d) (at (take (to - from) (drop from l))) (λ i. at l ((d + 3) * j + suc i)) place x;
    value = (part_at (suc d) (omega arith) ∙ ap (at l) last) x;
  }
    where
      place : (i : ℕ) → i < suc d → at (take (to - from) (drop from l)) i ≡ at l ((d + 3) * j + suc i)
      place i h = let q : from + i ≡ (d + 3) * j + suc i = omega arith in part_at i (omega arith) ∙ ap (at l) q

      last : from + suc d ≡ (d + 3) * j + (d + 2)
      last = omega arith

  pub part_size : (d + 3) * j + (d + 3) ≤ length l → length (take (to - from) (drop from l)) ≡ d + 2
  part_size h = let q : to - from ≡ d + 2 = omega arith in length-take-le (to - from) (drop from l) (omega (arith, length-drop from l)) ∙ q

-- ---- one taken out
module _ (d n j : ℕ) (l : List ℤ) (less : j < n) (fit : (d + 3) * n ≤ length l) where
  span : (d + 3) * n ≡ (d + 3) * j + (d + 3) + (d + 3) * (n - 1 - j)
  span = let e : n ≡ j + (1 + (n - 1 - j)) = omega arith in ap (λ (k : ℕ). (d + 3) * k) e ∙ go (d + 3) j (n - 1 - j)
    where
      go : (w j k : ℕ) → w * (j + (1 + k)) ≡ w * j + w + w * k
      go w j k = omega arith

  next : (d + 3) * (j + 1) ≡ (d + 3) * j + (d + 3)
  next = go (d + 3) j
    where
      go : (w j : ℕ) → w * (j + 1) ≡ w * j + w
      go w j = omega arith

  front : length (take ((d + 3) * j) l) ≡ (d + 3) * j
  front = length-take-le ((d + 3) * j) l (omega (arith, span, fit))

  moved : length (take ((d + 3) * (n - 1 - j)) (drop ((d + 3) * (j + 1)) l)) ≡ (d + 3) * (n - 1 - j)
  moved = length-take-le ((d + 3) * (n - 1 - j)) (drop ((d + 3) * (j + 1)) l) (omega (arith, span, next, fit, length-drop ((d + 3) * (j + 1)) l))

  closed_before : (p : ℕ) → p < (d + 3) * j → at (closed d n j l) p ≡ at l p
  unfolding closed
  closed_before p h = get_or-append (take ((d + 3) * j) l) _ (pos 0) p (omega (arith, front)) ∙ get_or-take ((d + 3) * j) l p (pos 0) h

  closed_behind : (p : ℕ) → p < (d + 3) * (n - 1 - j) → at (closed d n j l) ((d + 3) * j + p) ≡ at l ((d + 3) * (j + 1) + p)
  unfolding closed
  closed_behind p h = past (take ((d + 3) * j) l) _ ((d + 3) * j) p (pos 0) front
      ∙ get_or-append (take ((d + 3) * (n - 1 - j)) (drop ((d + 3) * (j + 1)) l)) _ (pos 0) p (omega (arith, moved))
      ∙ get_or-take ((d + 3) * (n - 1 - j)) (drop ((d + 3) * (j + 1)) l) p (pos 0) h ∙ get_or-drop ((d + 3) * (j + 1)) l p (pos 0)

  pub closed_length : length (closed d n j l) ≡ length l
  unfolding closed
  closed_length = simp (length-append, front, moved, length-replicate, length-drop) (omega (arith, span, fit))

  -- the entries before it stay, and those behind move down by one
  entry_before : (i : ℕ) → i < j → entry_of d (closed d n j l) i ≡ entry_of d l i
  entry_before i h = entry_eq d (closed d n j l) l i i (λ p q. let m : (d + 3) * suc i ≤ (d + 3) * j = mul-le-mul_left (d + 3) h in closed_before ((d + 3) * i + p) (omega arith))

  entry_behind : (i : ℕ) → i < n - 1 - j → entry_of d (closed d n j l) (j + i) ≡ entry_of d l (j + suc i)
  entry_behind i h = entry_eq d (closed d n j l) l (j + i) (j + suc i) each
    where
      here : (w i : ℕ) → w * (j + i) ≡ w * j + w * i
      here w i = omega arith

      there : (w i : ℕ) → w * (j + suc i) ≡ w * (j + 1) + w * i
      there w i = omega arith

      each : (p : ℕ) → p < d + 3 → at (closed d n j l) ((d + 3) * (j + i) + p) ≡ at l ((d + 3) * (j + suc i) + p)
      each p q =
          let m : (d + 3) * suc i ≤ (d + 3) * (n - 1 - j) = mul-le-mul_left (d + 3) h in
          let e : (d + 3) * (j + i) + p ≡ (d + 3) * j + ((d + 3) * i + p) = omega (arith, here (d + 3) i) in
          let f : (d + 3) * (j + 1) + ((d + 3) * i + p) ≡ (d + 3) * (j + suc i) + p = omega (arith, there (d + 3) i) in
          ap (at (closed d n j l)) e ∙ closed_behind ((d + 3) * i + p) (omega arith) ∙ ap (at l) f

  -- a list of entries with one, and without it
  abbrev pub ahead : List Numbered
  ahead = tab j (entry_of d l)

  abbrev pub after : List Numbered
  after = tab (n - suc j) (λ i. entry_of d l (j + suc i))

  pub entries_with : entries d n l ≡ ahead ++ (entry_of d l j ∷ after)
  unfolding entries
  entries_with = tab_parts n (entry_of d l) j less

  pub entries_without : entries d (n - 1) (closed d n j l) ≡ ahead ++ after
  unfolding entries
  entries_without =
      let e : n - 1 ≡ j + (n - suc j) = omega arith in
      let q : n - suc j ≡ n - 1 - j = omega arith in
      ap (λ (k : ℕ). tab k (entry_of d (closed d n j l))) e ∙ tab_add j (n - suc j) (entry_of d (closed d n j l))
      ∙ (λ x. tab_cong j (entry_of d (closed d n j l)) (entry_of d l) entry_before x
      ++ tab_cong (n - suc j) (λ i. entry_of d (closed d n j l) (j + i)) (λ i. entry_of d l (j + suc i)) (λ i h. entry_behind i (omega arith)) x)
