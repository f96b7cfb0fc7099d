-- Rows poured into lent memory, one stretch of them after the other.
use mathlib.Core.Path.{◌≡◌, refl, sym, ap, subst, ◌∙◌}
use mathlib.Core.List.{List, [], ◌∷◌, ◌++◌, append_assoc}
use Prim.Native.Nat.{ℕ, zero, suc}
use lib.IntN.{ℤ}
use Rattle.table.specs.declared.Head.{Head}
use Rattle.table.specs.Table.{Settings, Table, Row, found}
use Rattle.table.specs.Pour.{append, raise, add_at, add, pour}
use Rattle.table.specs.Heads.{table_with, Holds}
use Rattle.table.specs.Inner.{Addable, InTurn}
use Rattle.table.proofs.Pouring.{Pourable, addable, pour_append}

-- the number of readings stays
add_n : (c : Settings) (t : Table) (r : Row) (e : ℕ) → (add_at c t r e).n ≡ t.n
unfolding append raise
add_n c t r zero = refl
add_n c t r (suc i) = refl

pub pour_n : (c : Settings) (t : Table) (rs : List Row) → (pour c t rs).n ≡ t.n
unfolding pour
pour_n c t [] = refl
pour_n c t (r ∷ rs) = pour_n c (add c t r) rs ∙ add_n c t r (found c t r.key)

-- memory that holds a table, with its number of readings, is that table
pub same_table : (h : Head) (u : Table) (points : ℕ) (keys sums : List ℤ) (index : List ℕ) → u.n ≡ h.readings → Holds u points keys sums index → table_with h points keys sums index ≡ u
same_table h u points keys sums index e H = λ i. record { n = sym e i; m = H.points_are i; keys = H.keys_are i; sums = H.sums_are i; index = H.index_are i }

pub holds_of : (h : Head) (u : Table) (points : ℕ) (keys sums : List ℤ) (index : List ℕ) → table_with h points keys sums index ≡ u → Holds u points keys sums index
holds_of h u points keys sums index e = record {
  points_are = ap (λ (t : Table). t.m) e;
  keys_are = ap (λ (t : Table). t.keys) e;
  sums_are = ap (λ (t : Table). t.sums) e;
  index_are = ap (λ (t : Table). t.index) e;
}

-- a stretch more
pub pour_turn : (c : Settings) (h : Head) (t : Table) (x y z : List Row) (points points' : ℕ) (keys keys' sums sums' : List ℤ) (index index' : List ℕ)
    → table_with h points keys sums index ≡ pour c t x → Holds (pour c (table_with h points keys sums index) y) points' keys' sums' index' → z ≡ x ++ y
    → table_with h points' keys' sums' index' ≡ pour c t z
pour_turn c h t x y z points points' keys keys' sums sums' index index' e H q =
    let s = table_with h points keys sums index in
    same_table h (pour c s y) points' keys' sums' index' (pour_n c s y) H ∙ ap (λ (u : Table). pour c u y) e ∙ sym (pour_append c t x y) ∙ ap (pour c t) (sym q)

-- rows that may be added in turn may be so from the middle on
pub in_turn_part : (c : Settings) (t u : Table) (rs x y z : List Row) → InTurn c t rs → rs ≡ x ++ (y ++ z) → u ≡ pour c t x → InTurn c u y
in_turn_part c t u rs x y z Q e q = record {
  each = λ a b r s. subst (λ (w : Table). Addable c w r) (pour_append c t x a ∙ ap (λ (w : Table). pour c w a) (sym q))
      (Q.each (x ++ a) (b ++ z) r (e ∙ ap (λ (l : List Row). x ++ (l ++ z)) s ∙ lists a b r));
}
  where
    lists : (a b : List Row) (r : Row) → x ++ ((a ++ (r ∷ b)) ++ z) ≡ (x ++ a) ++ (r ∷ (b ++ z))
    lists a b r = ap (λ (l : List Row). x ++ l) (append_assoc a (r ∷ b) z) ∙ sym (append_assoc x a (r ∷ (b ++ z)))

-- what may be poured may be added in turn
pub in_turn : (c : Settings) (t : Table) (rs : List Row) → Pourable c t rs → InTurn c t rs
in_turn c t rs Q = record { each = λ a b r e. addable c t rs a r b Q e }

-- nothing has changed
pub holds_same : (t : Table) → {u : Table} → u ≡ t → Holds u t.m t.keys t.sums t.index
holds_same t e = record {
  points_are = ap (λ (t : Table). t.m) (sym e);
  keys_are = ap (λ (t : Table). t.keys) (sym e);
  sums_are = ap (λ (t : Table). t.sums) (sym e);
  index_are = ap (λ (t : Table). t.index) (sym e);
}

-- the table is named otherwise
pub holds_at : {t u : Table} {points : ℕ} {keys sums : List ℤ} {index : List ℕ} → Holds t points keys sums index → u ≡ t → Holds u points keys sums index
holds_at H e = record {
  points_are = H.points_are ∙ ap (λ (t : Table). t.m) (sym e);
  keys_are = H.keys_are ∙ ap (λ (t : Table). t.keys) (sym e);
  sums_are = H.sums_are ∙ ap (λ (t : Table). t.sums) (sym e);
  index_are = H.index_are ∙ ap (λ (t : Table). t.index) (sym e);
}
