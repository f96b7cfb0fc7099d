-- The source's rows one after the other: those of the source's table, each in its place, counted and poured.
use mathlib.Core.Path.{◌≡◌, refl, sym, ap, ap₂, subst, ◌∙◌}
use mathlib.Core.Bool.{Bool, true, false, cond}
use mathlib.Core.List.{List, [], ◌∷◌, ◌++◌}
use Prim.Native.Nat.{ℕ, zero, suc, ◌+◌, ◌*◌, ◌-◌, ◌≤◌, ◌<◌}
use native.Mathlib.Omega.{arith}
use lib.Dec.{eqb}
use lib.IntN.{ℤ, pos}
use lib.ListN.{length, take, drop}
use Rattle.whole.specs.Lists.{at, tab}
use Rattle.table.specs.declared.Head.{Head}
use Rattle.table.specs.Table.{Settings, Table, Row, row, rows, keys_of}
use Rattle.table.specs.Pour.{add, pour, one_if_new, news_in}
use Rattle.table.specs.Heads.{settings, table_with, Holds}
use Rattle.table.specs.Inner.{Addable, InTurn}
use Rattle.table.proofs.Lists.{tab_snoc, tab_parts, map_tab}
use Rattle.table.proofs.Pouring.{news_snoc}
use Rattle.table.proofs.Turns.{pour_turn, holds_of, holds_at}
use Rattle.index.specs.Keys.{key_at}
use Rattle.index.specs.Search.{entry_at, search}
use Rattle.index.proofs.Equality.{key_at_length, stretch_fits, key_part}
use Rattle.whole.proofs.Pieces.{piece_at}
use Rattle.merge.specs.Source.{source_row, first_rows}

-- all of them are those of the table, where its dimension is d
pub rows_all : (d : ℕ) (b : Settings) (s : Table) → d ≡ b.d → rows b s ≡ first_rows d s.keys s.sums s.m
unfolding rows first_rows
rows_all d b s e = ap (λ (d : ℕ). tab s.m (source_row d s.keys s.sums)) (sym e)

-- piece i of its lent keys is the key of row i
pub piece_key : (d n i : ℕ) (keys : List ℤ) {k : List ℤ} → i < n → d * n ≤ length keys → k ≡ take d (drop (d * i) keys) → k ≡ key_at d keys i
piece_key d n i keys l h e = let q : d ≡ d * i + d - d * i = omega arith in
    e ∙ ap (λ (m : ℕ). take m (drop (d * i) keys)) q ∙ key_part d keys i (stretch_fits d i n (length keys) l h)

pub piece_size : (d n i : ℕ) (keys : List ℤ) {k : List ℤ} → i < n → d * n ≤ length keys → k ≡ take d (drop (d * i) keys) → length k ≡ d
piece_size d n i keys l h e = ap length (piece_key d n i keys l h e) ∙ key_at_length d keys i

-- a number of pair i of its lent sums
pub pair_number : (sums : List ℤ) (i j : ℕ) {p : List ℤ} {x : ℤ} → j < 2 → p ≡ take 2 (drop (2 * i) sums) → x ≡ at p j → x ≡ at sums (2 * i + j)
pair_number sums i j l e q = q ∙ piece_at 2 i sums e j (pos 0) l

-- row i as it is lent on, with its key and its pair
module _ (c : Settings) (t : Table) (keys sums : List ℤ) (i : ℕ) {k : List ℤ} {m v : ℤ} (e : k ≡ key_at c.d keys i) (p : m ≡ at sums (2 * i + 0)) (q : v ≡ at sums (2 * i + 1)) where
  abbrev lent : Row
  lent = record { key = k; mass = m; value = v }

  row_is : lent ≡ source_row c.d keys sums i
  row_is = let z : 2 * i + 0 ≡ 2 * i = omega arith in λ j. record { key = e j; mass = (p ∙ ap (at sums) z) j; value = q j }

  pub row_lent : Addable c t (source_row c.d keys sums i) → Addable c t lent
  row_lent A = subst (Addable c t) (sym row_is) A

  pub row_added : {points : ℕ} {keys' sums' : List ℤ} {index' : List ℕ} → Holds (add c t lent) points keys' sums' index' → Holds (add c t (source_row c.d keys sums i)) points keys' sums' index'
  row_added H = holds_at H (ap (add c t) (sym row_is))

module _ (d : ℕ) (keys sums : List ℤ) where
  rows_none : first_rows d keys sums 0 ≡ []
  unfolding first_rows tab
  rows_none = refl

  rows_more : (i : ℕ) → first_rows d keys sums (i + 1) ≡ first_rows d keys sums i ++ (source_row d keys sums i ∷ [])
  unfolding first_rows
  rows_more i = let e : i + 1 ≡ suc i = omega arith in ap (first_rows d keys sums) e ∙ tab_snoc i (source_row d keys sums)

  -- ---- pouring
  pub poured_none : (c : Settings) (t : Table) → t ≡ pour c t (first_rows d keys sums 0)
  unfolding pour
  poured_none c t = sym (ap (pour c t) rows_none)

  pub row_addable : (c : Settings) (t u : Table) (m i : ℕ) → i < m → InTurn c t (first_rows d keys sums m) → u ≡ pour c t (first_rows d keys sums i) → Addable c u (source_row d keys sums i)
  unfolding first_rows
  row_addable c t u m i l Q e = subst (λ (u : Table). Addable c u (source_row d keys sums i)) (sym e)
      (Q.each (first_rows d keys sums i) (tab (m - suc i) (λ j. source_row d keys sums (i + suc j))) (source_row d keys sums i) (tab_parts m (source_row d keys sums) i l))

-- one row more is poured
pub row_turn : (h : Head) (t : Table) (d : ℕ) (ks ss : List ℤ) (i points points' : ℕ) (keys keys' sums sums' : List ℤ) (index index' : List ℕ)
    → table_with h points keys sums index ≡ pour (settings h) t (first_rows d ks ss i) → Holds (add (settings h) (table_with h points keys sums index) (source_row d ks ss i)) points' keys' sums' index'
    → table_with h points' keys' sums' index' ≡ pour (settings h) t (first_rows d ks ss (i + 1))
unfolding pour
row_turn h t d ks ss i points points' keys keys' sums sums' index index' e H =
    pour_turn (settings h) h t (first_rows d ks ss i) (source_row d ks ss i ∷ []) (first_rows d ks ss (i + 1)) points points' keys keys' sums sums' index index' e (holds_at H refl) (rows_more d ks ss i)

-- all rows are poured
pub ended : (h : Head) (t : Table) (d : ℕ) (ks ss : List ℤ) (i m : ℕ) → i ≡ m → (points : ℕ) (keys sums : List ℤ) (index : List ℕ)
    → table_with h points keys sums index ≡ pour (settings h) t (first_rows d ks ss i) → Holds (pour (settings h) t (first_rows d ks ss m)) points keys sums index
ended h t d ks ss i m q points keys sums index e = holds_of h (pour (settings h) t (first_rows d ks ss m)) points keys sums index (e ∙ ap (λ (k : ℕ). pour (settings h) t (first_rows d ks ss k)) q)

-- ---- counting, in the target's keys and index
module _ (c : Settings) (keys : List ℤ) (index : List ℕ) (d : ℕ) (source : List ℤ) where
  pub count_none : 0 ≡ news_in c keys index (tab 0 (key_at d source))
  unfolding news_in tab
  count_none = refl

  pub count_all : (n i m : ℕ) → i ≡ m → n ≡ news_in c keys index (tab i (key_at d source)) → n ≡ news_in c keys index (tab m (key_at d source))
  count_all n i m q e = e ∙ ap (λ (k : ℕ). news_in c keys index (tab k (key_at d source))) q

  pub count_more : (i n k : ℕ) → n ≡ news_in c keys index (tab i (key_at d source)) → k ≡ one_if_new c keys index (key_at d source i)
      → n + k ≡ news_in c keys index (tab (i + 1) (key_at d source))
  count_more i n k e q =
      let s : i + 1 ≡ suc i = omega arith in
      ap₂ ◌+◌ e q ∙ sym (ap (λ (j : ℕ). news_in c keys index (tab j (key_at d source))) s ∙ ap (news_in c keys index) (tab_snoc i (key_at d source)) ∙ news_snoc c keys index (tab i (key_at d source)) (key_at d source i))

-- at most one more is counted
pub one_most : (c : Settings) (keys : List ℤ) (index : List ℕ) (key : List ℤ) (k : ℕ) → k ≡ one_if_new c keys index key → k ≤ 1
one_most c keys index key k e = go (eqb (entry_at index (search c.C (key_at c.d keys) (entry_at index) key)) 0) e
  where
    go : (b : Bool) → k ≡ cond b 1 0 → k ≤ 1
    go true e = omega (arith, e)
    go false e = omega (arith, e)

-- no more are new than there are
pub news_few : (c : Settings) (keys : List ℤ) (index : List ℕ) (m : ℕ) (f : ℕ → List ℤ) → news_in c keys index (tab m f) ≤ m
unfolding tab news_in
news_few c keys index zero f = omega arith
news_few c keys index (suc m) f = omega (arith, one_most c keys index (f 0) _ refl, news_few c keys index m (λ i. f (suc i)))

-- the keys of a table's rows are the stretches of its keys
pub keys_all : (d : ℕ) (b : Settings) (s : Table) → d ≡ b.d → keys_of (rows b s) ≡ tab s.m (key_at d s.keys)
unfolding rows
keys_all d b s e = map_tab (λ (r : Row). r.key) s.m (row b s) ∙ ap (λ (d : ℕ). tab s.m (key_at d s.keys)) (sym e)
