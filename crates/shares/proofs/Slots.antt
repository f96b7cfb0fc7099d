-- The rows of a slot, and of the slots one after the other.
use mathlib.Core.Path.{◌≡◌, refl, sym, ap, ap₂, ◌∙◌}
use mathlib.Core.Bool.{Bool, true, false, cond}
use mathlib.Core.List.{List, [], ◌∷◌, ◌++◌, map}
use Prim.Native.Nat.{ℕ, suc, ◌+◌, ◌*◌, ◌≤◌, ◌<◌}
use native.Mathlib.Numerals.{add-one}
use native.Mathlib.Omega.{arith}
use lib.Dec.{eqb}
use lib.IntN.{ℤ, pos, ◌*ℤ◌}
use lib.ListN.{length, get_or, take, drop}
use lib.Seq.{length-take-le}
use borrow.Author.Tests.{eq-eqb, ne_eqb}
use Rattle.whole.specs.Lists.{at, tab, collect}
use Rattle.whole.proofs.Lists.{length_tab}
use Rattle.index.specs.Keys.{key_at}
use Rattle.index.specs.Search.{entry_at, search}
use Rattle.simplex.specs.Slots.{slot}
use Rattle.simplex.proofs.Slots.{kept_part}
use Rattle.table.specs.Table.{Settings, Table, Row}
use Rattle.table.specs.Pour.{pour, add, one_if_new, news_in}
use Rattle.table.specs.Inner.{Addable, InTurn}
use Rattle.shares.specs.Slots.{slot_rows, rows_to, slot_keys, keys_to}
use Rattle.table.proofs.Lists.{collect_parts}
use Rattle.table.proofs.Pouring.{news_append}
use Rattle.table.proofs.Turns.{in_turn_part, holds_of}
use Rattle.table.specs.declared.Head.{Head}
use Rattle.table.specs.Heads.{settings, table_with, Holds}

-- a slot of weight 0 has no row
pub slot_none : (d : ℕ) (ws : List ℕ) (cs : List ℤ) (v : ℤ) (k : ℕ) → get_or ws k 0 ≡ 0 → slot_rows d ws cs v k ≡ []
unfolding slot_rows slot
slot_none d ws cs v k e = rw (eq-eqb (get_or ws k 0) 0 e)

-- another has one
pub slot_one : (d : ℕ) (ws : List ℕ) (cs : List ℤ) (v : ℤ) (k : ℕ) (key : List ℤ) (m s : ℤ) → d ≤ 5 → k < suc d → length cs ≡ 36 → 0 < get_or ws k 0
    → key ≡ take d (drop (6 * k) cs) → m ≡ pos (get_or ws k 0) → s ≡ pos (get_or ws k 0) *ℤ v
    → slot_rows d ws cs v k ≡ record { key = key; mass = m; value = s } ∷ []
unfolding slot_rows slot
slot_one d ws cs v k key m s h l e w p q r =
    rw (ne_eqb (get_or ws k 0) 0 (λ z. omega (arith, w, z))) (λ i. record { key = sym (p ∙ kept_part d cs k h l e) i; mass = sym q i; value = sym r i } ∷ [])

-- and so for its key
pub slot_no_key : (d : ℕ) (ws : List ℕ) (cs : List ℤ) (k : ℕ) → get_or ws k 0 ≡ 0 → slot_keys d ws cs k ≡ []
unfolding slot_keys slot
slot_no_key d ws cs k e = rw (eq-eqb (get_or ws k 0) 0 e)

pub slot_key : (d : ℕ) (ws : List ℕ) (cs : List ℤ) (k : ℕ) {key : List ℤ} → d ≤ 5 → k < suc d → length cs ≡ 36 → (0 < get_or ws k 0) × (key ≡ take d (drop (6 * k) cs))
    → slot_keys d ws cs k ≡ key ∷ []
unfolding slot_keys slot
slot_key d ws cs k h l e w = rw (ne_eqb (get_or ws k 0) 0 (λ z. omega (arith, w.0, z))) (λ i. sym (w.1 ∙ kept_part d cs k h l e) i ∷ [])

-- ---- pouring one, and one after the other
pub pour_none : (c : Settings) (t : Table) (rs : List Row) → rs ≡ [] → pour c t rs ≡ t
unfolding pour
pour_none c t rs e = ap (pour c t) e

pub pour_one : (c : Settings) (t : Table) (rs : List Row) (r : Row) → rs ≡ r ∷ [] → pour c t rs ≡ add c t r
unfolding pour
pour_one c t rs r e = ap (pour c t) e

pub one_addable : (c : Settings) (t : Table) (rs : List Row) (r : Row) → InTurn c t rs → rs ≡ r ∷ [] → Addable c t r
unfolding pour
one_addable c t rs r Q e = Q.each [] [] r e

module _ (c : Settings) (keys : List ℤ) (index : List ℕ) (ks : List (List ℤ)) where
  pub news_none : ks ≡ [] → 0 ≡ news_in c keys index ks
  unfolding news_in
  news_none e = sym (ap (news_in c keys index) e)

  pub news_one : {x : ℕ} (k : List ℤ) → x ≡ one_if_new c keys index k → ks ≡ k ∷ [] → x ≡ news_in c keys index ks
  unfolding news_in
  news_one k q e = q ∙ omega arith ∙ sym (ap (news_in c keys index) e)

-- ---- the slots one after the other
pub rows_none : (d : ℕ) (ws : List ℕ) (cs : List ℤ) (v : ℤ) → rows_to d ws cs v 0 ≡ []
unfolding rows_to collect
rows_none d ws cs v = refl

pub rows_more : (d : ℕ) (ws : List ℕ) (cs : List ℤ) (v : ℤ) (k : ℕ) → rows_to d ws cs v (k + 1) ≡ rows_to d ws cs v k ++ slot_rows d ws cs v k
unfolding rows_to collect
rows_more d ws cs v k = rw add-one

pub slot_pourable : (c : Settings) (t u : Table) (d : ℕ) (ws : List ℕ) (cs : List ℤ) (v : ℤ) (n k : ℕ) → k < n
    → InTurn c t (rows_to d ws cs v n) → u ≡ pour c t (rows_to d ws cs v k) → InTurn c u (slot_rows d ws cs v k)
unfolding rows_to
slot_pourable c t u d ws cs v n k l Q e = let s = collect_parts n (slot_rows d ws cs v) k l in
    in_turn_part c t u (collect n (slot_rows d ws cs v)) (collect k (slot_rows d ws cs v)) (slot_rows d ws cs v k) s.0 Q s.1 e

-- ---- counting, in the table's keys and index
module _ (c : Settings) (keys : List ℤ) (index : List ℕ) (d : ℕ) (ws : List ℕ) (cs : List ℤ) where
  pub count_none : 0 ≡ news_in c keys index (keys_to d ws cs 0)
  unfolding news_in keys_to collect
  count_none = refl

  -- a slot has at most one point
  pub count_few : (k b : ℕ) → b ≡ news_in c keys index (slot_keys d ws cs k) → b ≤ 1
  unfolding slot_keys slot news_in
  count_few k b q = omega (arith, q, go (eqb (get_or ws k 0) 0))
    where
      p : List ℤ × ℕ
      p = (tab (suc d) (λ i. at cs (6 * k + i)), get_or ws k 0)

      one : (b : Bool) → cond b 1 0 + 0 ≤ 1
      one true = omega arith
      one false = omega arith

      go : (b : Bool) → news_in c keys index (map (λ (p : List ℤ × ℕ). take d p.0) (cond b [] (p ∷ []))) ≤ 1
      go true = omega arith
      go false = one (eqb (entry_at index (search c.C (key_at c.d keys) (entry_at index) (take d p.0))) 0)

  -- one slot more is counted
  pub count_more : (k a b : ℕ) → a ≡ news_in c keys index (keys_to d ws cs k) → b ≡ news_in c keys index (slot_keys d ws cs k) → a + b ≡ news_in c keys index (keys_to d ws cs (k + 1))
  unfolding keys_to collect
  count_more k a b p q = omega (arith, p, q, ap (news_in c keys index) more ∙ news_append c keys index (keys_to d ws cs k) (slot_keys d ws cs k))
    where
      more : keys_to d ws cs (k + 1) ≡ keys_to d ws cs k ++ slot_keys d ws cs k
      more = rw add-one

  -- the number of slots is named otherwise
  pub count_all : (k n a : ℕ) → k ≡ n → a ≡ news_in c keys index (keys_to d ws cs k) → a ≡ news_in c keys index (keys_to d ws cs n)
  count_all k n a e p = p ∙ ap (λ (j : ℕ). news_in c keys index (keys_to d ws cs j)) e

pub kept_size : (d : ℕ) (cs : List ℤ) (k : ℕ) {key : List ℤ} → d ≤ 5 → k < suc d → length cs ≡ 36 → key ≡ take d (drop (6 * k) cs) → length key ≡ d
kept_size d cs k h l e p = let y = tab (suc d) (λ i. at cs (6 * k + i)) in
    ap length (p ∙ kept_part d cs k h l e) ∙ length-take-le d y (omega (arith, length_tab (suc d) (λ i. at cs (6 * k + i))))

-- all slots are poured
pub ended : (v v' : ℤ) → v' ≡ v → (h : Head) (t : Table) (ws : List ℕ) (cs : List ℤ) (k n : ℕ) → k ≡ n → (points : ℕ) (keys sums : List ℤ) (index : List ℕ)
    → table_with h points keys sums index ≡ pour (settings h) t (rows_to h.d ws cs v' k) → Holds (pour (settings h) t (rows_to h.d ws cs v n)) points keys sums index
ended v v' p h t ws cs k n q points keys sums index e =
    holds_of h (pour (settings h) t (rows_to h.d ws cs v n)) points keys sums index (e ∙ ap₂ (λ (v : ℤ) (k : ℕ). pour (settings h) t (rows_to h.d ws cs v k)) p q)
