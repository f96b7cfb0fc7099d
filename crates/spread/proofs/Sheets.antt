-- Rows on a sheet, one after the other, and how far its numbers go.
use mathlib.Core.Path.{◌≡◌, refl, sym, ap, ap₂, subst, ◌∙◌}
use mathlib.Core.List.{List, [], ◌∷◌, ◌++◌, map-append}
use Prim.Native.Nat.{ℕ, zero, suc, ◌+◌, ◌*◌, ◌≤◌, ◌<◌}
use native.Mathlib.Decide.{ℕ_discrete}
use native.Mathlib.Omega.{arith}
use lib.IntN.{ℤ, pos, ◌+ℤ◌}
use lib.ListN.{length, replicate, length-replicate}
use Rattle.whole.specs.Size.{Abs≤}
use Rattle.whole.specs.Lists.{at, collect, All}
use Rattle.whole.proofs.Lists.{zeros}
use Rattle.whole.proofs.Signed.{zlin}
use Rattle.whole.proofs.Size.{zabs}
use Rattle.index.proofs.Steps.{searchable}
use Rattle.table.specs.Table.{Settings, Table, Row, keys_of}
use Rattle.table.specs.Pour.{set_pair, news_in}
use Rattle.table.specs.Sound.{Fine}
use Rattle.table.proofs.Soundness.{fine_searched}
use Rattle.table.proofs.Store.{pair_length, pair_mass, pair_value, pair_else}
use Rattle.table.proofs.Pouring.{news_append}
use Rattle.pour.specs.Inner.{most_share}
use Rattle.spread.specs.Spreading.{found_in, lift_at, lift_all, Lifts, SmallTo, SheetAfter}
use Rattle.spread.specs.Inner.{Light}

module _ (c : Settings) (keys : List ℤ) (index : List ℕ) where
  -- ---- one after the other
  pub lift_append : (a b : List Row) (sheet : List ℤ) → lift_all c keys index sheet (a ++ b) ≡ lift_all c keys index (lift_all c keys index sheet a) b
  unfolding lift_all
  lift_append [] b sheet = refl
  lift_append (r ∷ a) b sheet = lift_append a b (lift_at sheet r (found_in c keys index r.key))

  one_length : (r : Row) (sheet : List ℤ) (e : ℕ) → length (lift_at sheet r e) ≡ length sheet
  one_length r sheet zero = refl
  one_length r sheet (suc i) = pair_length sheet i (at sheet (2 * i) +ℤ r.mass) (at sheet (2 * i + 1) +ℤ r.value)

  pub lift_length : (rs : List Row) (sheet : List ℤ) → length (lift_all c keys index sheet rs) ≡ length sheet
  unfolding lift_all
  lift_length [] sheet = refl
  lift_length (r ∷ rs) sheet = let e = found_in c keys index r.key in lift_length rs (lift_at sheet r e) ∙ one_length r sheet e

  pub lifts_none : (sheet : List ℤ) (rs : List Row) → rs ≡ [] → Lifts c keys index sheet rs 0 sheet
  unfolding news_in lift_all
  lifts_none sheet rs e = record { missing_are = ap (λ (rs : List Row). news_in c keys index (keys_of rs)) (sym e); left_is = ap (lift_all c keys index sheet) (sym e) }

  pub lifts_more : {sheet mid left : List ℤ} {x y : ℕ} (a b z : List Row) → Lifts c keys index sheet a x mid → Lifts c keys index mid b y left → z ≡ a ++ b → Lifts c keys index sheet z (x + y) left
  lifts_more {sheet} a b z P Q e = record {
    missing_are = ap₂ ◌+◌ P.missing_are Q.missing_are
        ∙ sym (ap (λ (rs : List Row). news_in c keys index (keys_of rs)) e ∙ ap (news_in c keys index) (map-append (λ (r : Row). r.key) a b) ∙ news_append c keys index (keys_of a) (keys_of b));
    left_is = Q.left_is ∙ ap (λ (s : List ℤ). lift_all c keys index s b) P.left_is ∙ sym (ap (lift_all c keys index sheet) e ∙ lift_append a b sheet);
  }

  -- the rows are named otherwise
  pub lifts_as : {sheet left : List ℤ} {x : ℕ} (a b : List Row) → Lifts c keys index sheet a x left → a ≡ b → Lifts c keys index sheet b x left
  lifts_as {sheet} {left} {x} a b L e = subst (λ (rs : List Row). Lifts c keys index sheet rs x left) e L

-- ---- how far the numbers go
abs_more : (a b : ℤ) (s : ℕ) → Abs≤ a (most_share * s) → Abs≤ b most_share → Abs≤ (a +ℤ b) (most_share * (s + 1))
abs_more a b s x y = zabs (search zlin depth 14) (omega arith)

pub small_wider : (s q : ℕ) (sheet : List ℤ) → s ≤ q → SmallTo s sheet → SmallTo q sheet
small_wider s q sheet l h p = let x = h p in record { abs = omega (arith, x.abs) }

small_raise : (s i : ℕ) (sheet : List ℤ) (r : Row) → 2 * i + 1 < length sheet → SmallTo s sheet → Light r → SmallTo (s + 1) (lift_at sheet r (suc i))
small_raise s i sheet r l h L p = go (ℕ_discrete p (2 * i)) (ℕ_discrete p (2 * i + 1))
  where
    m : ℤ
    m = at sheet (2 * i) +ℤ r.mass

    v : ℤ
    v = at sheet (2 * i + 1) +ℤ r.value

    go : Dec (p ≡ 2 * i) → Dec (p ≡ 2 * i + 1) → Abs≤ (at (set_pair sheet i m v) p) (most_share * (s + 1))
    go (yes q) b = rw (q, pair_mass sheet i m v (omega arith)) (abs_more (at sheet (2 * i)) r.mass s (h (2 * i)) L.mass_small)
    go (no q) (yes w) = rw (w, pair_value sheet i m v l) (abs_more (at sheet (2 * i + 1)) r.value s (h (2 * i + 1)) L.value_small)
    go (no q) (no w) = rw (pair_else sheet i m v p q w) (small_wider s (s + 1) sheet (omega arith) h p)

module _ (c : Settings) (keys : List ℤ) (index : List ℕ) where
  abbrev After : ℕ → List ℤ → Type 0
  After s sheet = SheetAfter s c.d c.C keys index sheet

  pub after_wider : (s q : ℕ) (sheet : List ℤ) → s ≤ q → After s sheet → After q sheet
  after_wider s q sheet l A = record { searchable = A.searchable; paired = A.paired; small = small_wider s q sheet l A.small }

  -- one row more
  after_one : (s : ℕ) (sheet : List ℤ) (r : Row) → After s sheet → Light r → After (s + 1) (lift_at sheet r (found_in c keys index r.key))
  after_one s sheet r A L = let e = found_in c keys index r.key in record {
    searchable = A.searchable;
    paired = λ p. rw (one_length c keys index r sheet e) (A.paired p);
    small = go e (A.paired _);
  }
    where
      go : (e : ℕ) → 2 * e ≤ length sheet → SmallTo (s + 1) (lift_at sheet r e)
      go zero h = small_wider s (s + 1) sheet (omega arith) A.small
      go (suc i) h = small_raise s i sheet r (omega arith) A.small L

  pub after_all : (rs : List Row) (s : ℕ) (sheet : List ℤ) → After s sheet → All Light rs → After (s + length rs) (lift_all c keys index sheet rs)
  unfolding lift_all
  after_all [] s sheet A L = after_wider s (s + 0) sheet (omega arith) A
  after_all (r ∷ rs) s sheet A L =
      let sheet' = lift_at sheet r (found_in c keys index r.key) in
      after_wider (s + 1 + length rs) (s + suc (length rs)) (lift_all c keys index sheet' rs) (omega arith) (after_all rs (s + 1) sheet' (after_one s sheet r A L.0) L.1)

  -- lists of rows one after the other, none longer than w
  pub after_collected : (g : ℕ → List Row) (w n : ℕ) → ((k : ℕ) → k < n → All Light (g k)) → ((k : ℕ) → k < n → length (g k) ≤ w) → (s : ℕ) (sheet : List ℤ) → After s sheet
      → (k : ℕ) → k ≤ n → After (s + w * k) (lift_all c keys index sheet (collect k g))
  unfolding collect lift_all
  after_collected g w n L F s sheet A zero h = after_wider s (s + w * 0) sheet (omega arith) A
  after_collected g w n L F s sheet A (suc k) h =
      let mid = lift_all c keys index sheet (collect k g) in
      let ih = after_collected g w n L F s sheet A k (omega arith) in
      subst (After (s + w * suc k)) (sym (lift_append c keys index (collect k g) (g k) sheet))
      (after_wider (s + w * k + length (g k)) (s + w * suc k) (lift_all c keys index mid (g k)) (omega (arith, F k (omega arith))) (after_all (g k) (s + w * k) mid ih (L k (omega arith))))

-- ---- a sheet that is 0, beside a sound table
pub sheet_clear : (c : Settings) (t : Table) {sheet : List ℤ} → Fine c t → sheet ≡ replicate (2 * c.C) (pos 0) → SheetAfter 0 c.d c.C t.keys t.index sheet
sheet_clear c t {sheet} F clear = record {
  searchable = fine_searched c t F;
  -- what the index names has a pair among 2·C numbers as it has a key of two numbers among them
  paired = (searchable 2 c.C t.m sheet t.index F.ranged.C_least F.ranged.C_most F.shape.index (ap length clear ∙ length-replicate (2 * c.C) (pos 0)) F.sound.indexed.sparse).named;
  small = λ p. rw (clear, zeros (2 * c.C) p) (record { abs = omega arith });
}
