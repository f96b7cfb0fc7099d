-- Rows of points that are stored, poured into a table: no point is added, and each point has more by what the rows give to its key. With the other sign
-- this takes a reading's shares back.
use mathlib.Core.Path.{◌≡◌, refl, sym, ap, ap₂, ◌∙◌}
use mathlib.Core.Bool.{Bool, true, false}
use mathlib.Core.List.{List, [], ◌∷◌, map}
use Prim.Native.Nat.{ℕ, zero, suc, ◌<◌}
use native.Mathlib.Decide.{ℕ_discrete}
use native.Mathlib.Omega.{arith}
use lib.IntN.{ℤ, pos, neg_ℤ, neg_ℤ-+ℤ, +ℤ_idr, +ℤ_assoc, ◌+ℤ◌}
use Rattle.whole.specs.Sum.{over}
use Rattle.whole.specs.Lists.{All}
use Rattle.whole.proofs.Linear.{on, difs, ints}
use Rattle.whole.proofs.Lists.{length_tab, get_or_tab}
use Rattle.whole.proofs.Sum.{pick}
use Rattle.whole.proofs.Tests.{T_true, T_false}
use Rattle.index.specs.Keys.{same}
use Rattle.index.specs.Indexed.{Indexed}
use Rattle.index.proofs.Equality.{same_eq, eq_same}
use Rattle.index.proofs.Finding.{found_low, found_key, keys_apart}
use Rattle.table.specs.Table.{Settings, Table, Row, key, row, rows, entry, found}
use Rattle.table.specs.Sound.{Shape}
use Rattle.table.specs.Pour.{raise, add_at, pour}
use Rattle.table.proofs.Lists.{over_set}
use Rattle.table.proofs.Rows.{row_eq, join, Additive, gives}
use Rattle.table.proofs.Store.{shape_raise, row_raised, row_else, rows_raise}
use Rattle.book.specs.Withdraw.{negated}

module _ (c : Settings) (some : 0 < c.C) where
  -- the points of t are found
  pub record Seen (t : Table) : Type 0 where
    pub shape : Shape c t
    pub indexed : Indexed c.C t.m (key c t) (entry t)

  -- u has the points of t, and each has more by what the rows give to its key
  pub record Raised (t : Table) (rs : List Row) (u : Table) : Type 0 where
    pub same_n : u.n ≡ t.n
    pub same_m : u.m ≡ t.m
    pub same_keys : u.keys ≡ t.keys
    pub shape : Shape c u
    pub sums : (f : Row → ℤ) → Additive f → over (rows c u) f ≡ over (rows c t) f +ℤ over rs f
    pub more : (f : Row → ℤ) → Additive f → (i : ℕ) → i < t.m → f (row c u i) ≡ f (row c t i) +ℤ over rs (gives f (key c t i))

  -- ---- one row
  module _ (t : Table) (K : Seen t) (r : Row) (j : ℕ) (e : found c t r.key ≡ suc j) where
    low : j < t.m
    low = found_low c.C t.m (key c t) (entry t) some K.indexed.sparse r.key j e

    is_key : key c t j ≡ r.key
    is_key = found_key c.C t.m (key c t) (entry t) some K.indexed.sparse r.key j e

    room : j < c.C
    room = omega (arith, low, K.indexed.sparse.room)

    seen_raise : Seen (raise t j r)
    unfolding raise
    seen_raise = record { shape = shape_raise c t j r K.shape room; indexed = K.indexed }

    more_one : (f : Row → ℤ) → Additive f → (i : ℕ) → i < t.m → f (row c (raise t j r) i) ≡ f (row c t i) +ℤ gives f (key c t i) r
    more_one f F i l = go (ℕ_discrete i j)
      where
        go : Dec (i ≡ j) → f (row c (raise t j r) i) ≡ f (row c t i) +ℤ gives f (key c t i) r
        go (yes q) = rw q (ap f (row_raised c t j r K.shape room) ∙ F (row c t j) r is_key
            ∙ ap (λ (b : Bool). f (row c t j) +ℤ pick b (f r)) (sym (T_true (same r.key (key c t j)) (eq_same r.key (key c t j) (sym is_key)))))
        go (no q) = ap f (row_else c t j r K.shape room i q) ∙ sym (+ℤ_idr (f (row c t i)))
            ∙ ap (λ (b : Bool). f (row c t i) +ℤ pick b (f r)) (sym (T_false (same r.key (key c t i))
            (λ s. q (keys_apart c.C t.m (key c t) (entry t) some K.indexed i j l low (sym (same_eq r.key (key c t i) s) ∙ sym is_key)))))

    sums_one : (f : Row → ℤ) → Additive f → over (rows c (raise t j r)) f ≡ over (rows c t) f +ℤ f r
    unfolding rows
    sums_one f F = ap (λ (l : List Row). over l f) (rows_raise c t j r K.shape room low)
        ∙ over_set f (rows c t) j (join (row c t j) r) r (f r) (rw (length_tab t.m (row c t)) low)
        (F (row c t j) r is_key ∙ ap (λ (a : Row). f a +ℤ f r) (sym (get_or_tab t.m (row c t) j r low)))

  -- ---- all of them
  pub raised : (rs : List Row) (t : Table) → Seen t → All (λ r. 0 < found c t r.key) rs → Raised t rs (pour c t rs)
  unfolding pour over raise
  raised [] t K G = record { same_n = refl; same_m = refl; same_keys = refl; shape = K.shape; sums = λ f F. sym (+ℤ_idr (over (rows c t) f)); more = λ f F i l. sym (+ℤ_idr (f (row c t i))) }
  raised (r ∷ rs) t K G = go (found c t r.key) refl (λ j. raised rs (raise t j r))
    where
      go : (e : ℕ) → found c t r.key ≡ e → ((j : ℕ) → Seen (raise t j r) → All (λ r'. 0 < found c (raise t j r) r'.key) rs → Raised (raise t j r) rs (pour c (raise t j r) rs))
          → Raised t (r ∷ rs) (pour c (add_at c t r e) rs)
      go zero q ih = absurd (omega (arith, G.0, q))
      go (suc j) q ih = let P = ih j (seen_raise t K r j q) G.1 in record {
        same_n = P.same_n;
        same_m = P.same_m;
        same_keys = P.same_keys;
        shape = P.shape;
        sums = λ f F. P.sums f F ∙ ap (λ (z : ℤ). z +ℤ over rs f) (sums_one t K r j q f F) ∙ +ℤ_assoc (over (rows c t) f) (f r) (over rs f);
        more = λ f F i l. P.more f F i l ∙ ap (λ (z : ℤ). z +ℤ over rs (gives f (key c t i))) (more_one t K r j q f F i l)
            ∙ +ℤ_assoc (f (row c t i)) (gives f (key c t i) r) (over rs (gives f (key c t i)));
      }

-- ---- a row that has nothing, and one with the other sign, in a sum in which pairs for one point may be joined
module _ (f : Row → ℤ) (F : Additive f) where
  pub nothing_added : (r : Row) → r.mass ≡ pos 0 → r.value ≡ pos 0 → f r ≡ pos 0
  nothing_added r m v = twice (f r) (ap f (row_eq r (join r r) refl (rw m refl) (rw v refl)) ∙ F r r refl)
    where
      twice : (x : ℤ) → x ≡ x +ℤ x → x ≡ pos 0
      twice = on _ λ a b. simp difs (omega ints)

  pub other_sign : (r : Row) → f (negated r) ≡ neg_ℤ (f r)
  other_sign r = opposite (f r) (f (negated r)) (sym (F r (negated r) refl) ∙ nothing_added (join r (negated r)) (none r.mass) (none r.value))
    where
      none : (x : ℤ) → x +ℤ neg_ℤ x ≡ pos 0
      none = on _ λ a b. simp difs (omega ints)

      opposite : (x y : ℤ) → x +ℤ y ≡ pos 0 → y ≡ neg_ℤ x
      opposite = on _ λ a b. on _ λ c d. simp difs (omega ints)

-- ---- with the other sign
pub over_negated : (f : Row → ℤ) → ((r : Row) → f (negated r) ≡ neg_ℤ (f r)) → (rs : List Row) → over (map negated rs) f ≡ neg_ℤ (over rs f)
unfolding over
over_negated f h [] = refl
over_negated f h (r ∷ rs) = ap₂ ◌+ℤ◌ (h r) (over_negated f h rs) ∙ sym (neg_ℤ-+ℤ (f r) (over rs f))

pub given_negated : (f : Row → ℤ) → ((r : Row) → f (negated r) ≡ neg_ℤ (f r)) → (k : List ℤ) (rs : List Row) → over (map negated rs) (gives f k) ≡ neg_ℤ (over rs (gives f k))
given_negated f h k rs = over_negated (gives f k) (λ r. go r (same r.key k)) rs
  where
    go : (r : Row) (b : Bool) → pick b (f (negated r)) ≡ neg_ℤ (pick b (f r))
    go r true = h r
    go r false = refl
