-- A point that leaves a table: the last point takes its number, and every other keeps its own.
use mathlib.Core.Path.{◌≡◌, refl, sym, ap, subst, ◌∙◌}
use mathlib.Core.Logic.{◌≢◌}
use mathlib.Core.Bool.{Bool, true, false, cond}
use mathlib.Core.List.{List}
use Prim.Native.Nat.{ℕ, suc, ◌+◌, ◌*◌, ◌-◌, ◌≤◌, ◌<◌}
use native.Mathlib.Nat.{mul-le-mul_left}
use native.Mathlib.Decide.{ℕ_discrete, dec_lt}
use native.Mathlib.Omega.{arith}
use lib.Dec.{T, eqb, eqb→eq}
use lib.IntN.{ℤ, pos, +ℤ_idl, +ℤ_idr, ◌+ℤ◌}
use lib.ListN.{length, replicate, length-replicate}
use Rattle.whole.specs.Sum.{sum}
use Rattle.whole.specs.Lists.{at, splice}
use Rattle.whole.proofs.Lists.{tab_cong, get_or_splice_after}
use Rattle.whole.proofs.Sum.{pick, none, one_hit, sum_cong, sum_add}
use Rattle.whole.proofs.Tests.{T_true, T_false}
use Rattle.index.specs.Keys.{key_at}
use Rattle.index.proofs.Equality.{eq-eqb, key_at_length}
use Rattle.table.specs.Table.{Settings, Table, key, mass, value, row}
use Rattle.table.specs.Sound.{Shape}
use Rattle.table.specs.Pour.{set_pair}
use Rattle.table.proofs.Rows.{row_eq}
use Rattle.table.proofs.Store.{begins, put_length, put_before, put_key, pair_length, pair_mass, pair_value, pair_else}
use Rattle.book.specs.Withdraw.{vacated}

-- ---- a key put into its stretch: every other stretch stays
module _ (d C i : ℕ) (l k : List ℤ) (size : length l ≡ d * C) (less : i < C) (fit : length k ≡ d) where
  put_after : (j : ℕ) → i < j → key_at d (splice l (d * i) k) j ≡ key_at d l j
  unfolding key_at
  put_after j h = tab_cong d (λ e. at (splice l (d * i) k) (d * j + e)) (λ e. at l (d * j + e))
      (λ e g.
      let m : d * suc i ≤ d * j = mul-le-mul_left d h in
      let x = d * j + e - (d * i + d) in
      let p : d * j + e ≡ d * i + (length k + x) = omega arith in
      let q : d * i + length k + x ≡ d * j + e = omega arith in
      ap (at (splice l (d * i) k)) p ∙ get_or_splice_after l (d * i) k x (pos 0) (begins d C i l k size less fit) ∙ ap (at l) q)

  put_other : (j : ℕ) → j ≢ i → key_at d (splice l (d * i) k) j ≡ key_at d l j
  put_other j n = go (dec_lt j i)
    where
      go : Dec (j < i) → key_at d (splice l (d * i) k) j ≡ key_at d l j
      go (yes h) = put_before d C i l k size less fit j h
      go (no h) = put_after j (omega arith)

-- ---- point i leaves
module _ (c : Settings) (t : Table) (H : Shape c t) (room : t.m ≤ c.C) (i : ℕ) (less : i < t.m) where
  abbrev last : ℕ
  last = t.m - 1

  -- which point of t has the number j afterwards
  abbrev pub moved : ℕ → ℕ
  moved j = cond (eqb j i) (t.m - 1) j

  pub moved_here : moved i ≡ last
  moved_here = ap (λ (b : Bool). cond b last i) (T_true (eqb i i) (eq-eqb i i refl))

  pub moved_else : (j : ℕ) → j ≢ i → moved j ≡ j
  moved_else j n = ap (λ (b : Bool). cond b last j) (T_false (eqb j i) (λ s. n (eqb→eq j i s)))

  pub moved_low : (j : ℕ) → j < last → moved j < t.m
  moved_low j h = go (ℕ_discrete j i)
    where
      go : Dec (j ≡ i) → moved j < t.m
      go (yes q) = omega (arith, ap moved q, moved_here)
      go (no q) = omega (arith, moved_else j q)

  -- it is another than i
  pub moved_not : (j : ℕ) → j < last → moved j ≢ i
  moved_not j h e = go (ℕ_discrete j i)
    where
      go : Dec (j ≡ i) → ⊥
      go (yes q) = absurd (omega (arith, ap moved q, moved_here, e))
      go (no q) = q (sym (moved_else j q) ∙ e)

  -- every point but i has a number afterwards
  pub moved_from : (j : ℕ) → j < t.m → j ≢ i → (k : ℕ) × (k < last) × (moved k ≡ j)
  moved_from j h n = go (ℕ_discrete j last)
    where
      go : Dec (j ≡ last) → (k : ℕ) × (k < last) × (moved k ≡ j)
      go (yes q) = (i, omega arith, moved_here ∙ sym q)
      go (no q) = (j, omega arith, moved_else j n)

  -- and no two have one
  pub moved_apart : (j k : ℕ) → j < last → k < last → moved j ≡ moved k → j ≡ k
  moved_apart j k g h e = go (ℕ_discrete j i) (ℕ_discrete k i)
    where
      go : Dec (j ≡ i) → Dec (k ≡ i) → j ≡ k
      go (yes p) (yes q) = omega arith
      go (yes p) (no q) = absurd (omega (arith, ap moved p, moved_here, moved_else k q, e))
      go (no p) (yes q) = absurd (omega (arith, ap moved q, moved_here, moved_else j p, e))
      go (no p) (no q) = omega (arith, moved_else j p, moved_else k q, e)

  zeros : List ℤ
  zeros = replicate c.d (pos 0)

  first : List ℤ
  first = splice t.keys (c.d * i) (key c t last)

  first_size : length first ≡ c.d * c.C
  unfolding first
  first_size = put_length c.d c.C i t.keys (key c t last) H.keys (omega arith) (key_at_length c.d t.keys last)

  pub vacated_shape : Shape c (vacated c t i)
  unfolding vacated first zeros
  vacated_shape = record {
    keys = put_length c.d c.C last first zeros first_size (omega arith) (length-replicate c.d (pos 0));
    sums = pair_length (set_pair t.sums i (mass t last) (value t last)) last (pos 0) (pos 0) ∙ pair_length t.sums i (mass t last) (value t last) ∙ H.sums;
    index = H.index;
  }

  -- the first of the two stores
  first_key : (j : ℕ) → key_at c.d first j ≡ key c t (moved j)
  unfolding first
  first_key j = go (ℕ_discrete j i)
    where
      go : Dec (j ≡ i) → key_at c.d first j ≡ key c t (moved j)
      go (yes q) = ap (key_at c.d first) q ∙ put_key c.d c.C i t.keys (key c t last) H.keys (omega arith) (key_at_length c.d t.keys last)
          ∙ ap (key c t) (sym (ap moved q ∙ moved_here))
      go (no q) = put_other c.d c.C i t.keys (key c t last) H.keys (omega arith) (key_at_length c.d t.keys last) j q ∙ ap (key c t) (sym (moved_else j q))

  pub vacated_key : (j : ℕ) → j < last → key c (vacated c t i) j ≡ key c t (moved j)
  unfolding vacated first zeros
  vacated_key j h = put_other c.d c.C last first zeros first_size (omega arith) (length-replicate c.d (pos 0)) j (λ e. omega arith) ∙ first_key j

  sums_first : List ℤ
  sums_first = set_pair t.sums i (mass t last) (value t last)

  first_mass : (j : ℕ) → at sums_first (2 * j) ≡ mass t (moved j)
  unfolding sums_first
  first_mass j = go (ℕ_discrete j i)
    where
      go : Dec (j ≡ i) → at sums_first (2 * j) ≡ mass t (moved j)
      go (yes q) = ap (λ (j : ℕ). at sums_first (2 * j)) q ∙ pair_mass t.sums i (mass t last) (value t last) (omega (arith, H.sums)) ∙ ap (mass t) (sym (ap moved q ∙ moved_here))
      go (no q) = pair_else t.sums i (mass t last) (value t last) (2 * j) (λ e. q (omega arith)) (λ e. omega arith) ∙ ap (mass t) (sym (moved_else j q))

  first_value : (j : ℕ) → at sums_first (2 * j + 1) ≡ value t (moved j)
  unfolding sums_first
  first_value j = go (ℕ_discrete j i)
    where
      go : Dec (j ≡ i) → at sums_first (2 * j + 1) ≡ value t (moved j)
      go (yes q) = ap (λ (j : ℕ). at sums_first (2 * j + 1)) q ∙ pair_value t.sums i (mass t last) (value t last) (omega (arith, H.sums)) ∙ ap (value t) (sym (ap moved q ∙ moved_here))
      go (no q) = pair_else t.sums i (mass t last) (value t last) (2 * j + 1) (λ e. omega arith) (λ e. q (omega arith)) ∙ ap (value t) (sym (moved_else j q))

  pub vacated_row : (j : ℕ) → j < last → row c (vacated c t i) j ≡ row c t (moved j)
  unfolding vacated sums_first
  vacated_row j h = row_eq (row c (vacated c t i) j) (row c t (moved j)) (vacated_key j h)
      (pair_else sums_first last (pos 0) (pos 0) (2 * j) (λ e. omega arith) (λ e. omega arith) ∙ first_mass j)
      (pair_else sums_first last (pos 0) (pos 0) (2 * j + 1) (λ e. omega arith) (λ e. omega arith) ∙ first_value j)

-- ---- what is summed over the points
-- f at the numbers afterwards, where f is 0 at the point that left
pub sum_moved : (l i : ℕ) (f : ℕ → ℤ) → i ≤ l → f i ≡ pos 0 → sum l (λ j. f (cond (eqb j i) l j)) ≡ sum (suc l) f
unfolding sum
sum_moved l i f h e = sum_cong l (λ j. f (cond (eqb j i) l j)) (λ j. f j +ℤ pick (eqb j i) (f l)) each ∙ sum_add l f (λ j. pick (eqb j i) (f l)) ∙ go (dec_lt i l)
  where
    each : (j : ℕ) → j < l → f (cond (eqb j i) l j) ≡ f j +ℤ pick (eqb j i) (f l)
    each j g = at_each (eqb j i) refl
      where
        at_each : (b : Bool) → eqb j i ≡ b → f (cond b l j) ≡ f j +ℤ pick b (f l)
        at_each true q = sym (ap (λ (z : ℤ). z +ℤ f l) (ap f (eqb→eq j i (subst T (sym q) tt)) ∙ e) ∙ +ℤ_idl (f l))
        at_each false q = sym (+ℤ_idr (f j))

    go : Dec (i < l) → sum l f +ℤ sum l (λ j. pick (eqb j i) (f l)) ≡ sum l f +ℤ f l
    go (yes g) = ap (λ (z : ℤ). sum l f +ℤ z) (one_hit l (λ j. eqb j i) (λ j. f l) i g (eq-eqb i i refl) (λ j m s. eqb→eq j i s))
    go (no g) =
        let same : l ≡ i = omega arith in
        ap (λ (z : ℤ). sum l f +ℤ z) (none l (λ j. eqb j i) (λ j. f l) (λ j m s. omega (arith, m, eqb→eq j i s)) ∙ sym (ap f same ∙ e))
