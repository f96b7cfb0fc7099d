-- The slots of a simplex weighed with a sheet: what one slot gives, what one slot more adds, and that the three sums stay in 64 bits.
use mathlib.Core.Path.{◌≡◌, refl, sym, ap, ap₂, subst, ◌∙◌}
use mathlib.Core.Bool.{Bool, true, false, cond}
use mathlib.Core.List.{List, [], ◌∷◌, ◌++◌}
use Prim.Native.Nat.{ℕ, suc, ◌+◌, ◌*◌, ◌≤◌, ◌<◌}
use native.Mathlib.Decide.{ℕ_discrete}
use native.Mathlib.Numerals.{add-one}
use native.Mathlib.Omega.{arith}
use lib.Dec.{lit<}
use lib.IntN.{ℤ, pos, ◌+ℤ◌, ◌*ℤ◌, +ℤ_idr, zero-*ℤ, *ℤ-zero}
use lib.ListN.{get_or, take, drop}
use lib.Signed.{◌≤ℤ◌, ≤ℤ_refl}
use mir.Syntax.{w64}
use mir.Val.{SFits}
use mir.ValLaws.{to_z-of_z}
use borrow.Author.Tests.{eq-eqb, ne_eqb, ltb-false}
use Rattle.whole.specs.Size.{Abs≤}
use Rattle.whole.specs.Sum.{over}
use Rattle.whole.specs.Lists.{at, tab, collect}
use Rattle.whole.proofs.Parts.{le_in}
use Rattle.whole.proofs.Linear.{on, difs, ints}
use Rattle.whole.proofs.Signed.{W64}
use Rattle.whole.proofs.Size.{abs_times, fits64, back64}
use Rattle.whole.proofs.Sum.{over_append}
use Rattle.lattice.specs.Limits.{most_W}
use Rattle.simplex.specs.Slots.{slot}
use Rattle.simplex.proofs.Slots.{kept_part}
use Rattle.table.specs.Table.{Settings, Table, found, pair_at}
use Rattle.table.proofs.Lists.{collect_parts}
use Rattle.blur.specs.Blur.{is_stored, masses, values}
use Rattle.blur.specs.Inner.{most_blurred, Readable, PairIs}
use Rattle.blur.proofs.Stored.{held_small}
use Rattle.blur.proofs.Passing.{small_back}
use Rattle.filter.specs.Inner.{ones, weighed_over, WeighedIs, Weighable}
use Rattle.filter.proofs.Bounds.{weighed_small}

-- ---- all weights of a list of points together
abbrev heft : List (List ℤ × ℕ) → ℤ
heft ps = over ps (λ p. pos p.1)

heft_low : (ps : List (List ℤ × ℕ)) → pos 0 ≤ℤ heft ps
unfolding over
heft_low [] = ≤ℤ_refl (pos 0)
heft_low (p ∷ ps) = lin p.1 (heft ps) (heft_low ps)
  where
    lin : (w : ℕ) (z : ℤ) → pos 0 ≤ℤ z → pos 0 ≤ℤ (pos w +ℤ z)
    lin w = on _ λ a b. simp difs (omega ints)

-- a part weighs no more than the whole
heft_parts : (l m r : List (List ℤ × ℕ)) (w : ℤ) → heft (l ++ (m ++ r)) ≤ℤ w → (heft l ≤ℤ w) × (heft (l ++ m) ≤ℤ w) × (heft m ≤ℤ w)
heft_parts l m r w h =
    let f : List ℤ × ℕ → ℤ = λ p. pos p.1 in
    let k : (heft l +ℤ (heft m +ℤ heft r)) ≤ℤ w = subst (λ (z : ℤ). z ≤ℤ w) (over_append l (m ++ r) f ∙ ap (λ (z : ℤ). heft l +ℤ z) (over_append m r f)) h in
    (first (heft l) (heft m) (heft r) w (heft_low m) (heft_low r) k, rw (over_append l m f) (left (heft l) (heft m) (heft r) w (heft_low r) k), right (heft l) (heft m) (heft r) w (heft_low l) (heft_low r) k)
  where
    first : (a b c w : ℤ) → pos 0 ≤ℤ b → pos 0 ≤ℤ c → (a +ℤ (b +ℤ c)) ≤ℤ w → a ≤ℤ w
    first = on _ λ a b. on _ λ c d. on _ λ e f. on _ λ g h. simp difs (omega ints)

    left : (a b c w : ℤ) → pos 0 ≤ℤ c → (a +ℤ (b +ℤ c)) ≤ℤ w → (a +ℤ b) ≤ℤ w
    left = on _ λ a b. on _ λ c d. on _ λ e f. on _ λ g h. simp difs (omega ints)

    right : (a b c w : ℤ) → pos 0 ≤ℤ a → pos 0 ≤ℤ c → (a +ℤ (b +ℤ c)) ≤ℤ w → b ≤ℤ w
    right = on _ λ a b. on _ λ c d. on _ λ e f. on _ λ g h. simp difs (omega ints)

-- ---- in 64 bits
small_fits : {z : ℤ} → Abs≤ z (most_blurred * most_W) → SFits w64 z
small_fits h = fits64 h (lit< tt)

-- three sums
pub record Fitting (weight mass value : ℤ) : Type 0 where
  pub weight_fits : SFits w64 weight
  pub mass_fits : SFits w64 mass
  pub value_fits : SFits w64 value

-- ---- a sheet of numbers that are small
module _ (c : Settings) (t : Table) (R : Readable c t) (small : (j : ℕ) → Abs≤ (at t.sums j) most_blurred) where
  sheet_small : (y : List ℤ) → Abs≤ (masses c t y) most_blurred × Abs≤ (values c t y) most_blurred
  sheet_small = held_small c t R most_blurred small

  -- the pair of a point is small, and is what is read back from its bits
  module _ {y : List ℤ} {stored : Bool} {mass value : ℤ} (X : PairIs c t y stored mass value) where
    pub pair_small : Abs≤ mass most_blurred × Abs≤ value most_blurred
    pair_small = rw (X.mass_is, X.value_is) (sheet_small y)

    pub pair_back : PairIs c t y stored (W64 mass) (W64 value)
    pair_back = record { stored_is = X.stored_is; mass_is = small_back pair_small.0 ∙ X.mass_is; value_is = small_back pair_small.1 ∙ X.value_is }

  -- the sums over points that together weigh at most 384 fit, and are what is read back
  module _ (ps : List (List ℤ × ℕ)) (light : heft ps ≤ℤ pos most_W) {weight mass value : ℤ} (X : WeighedIs c t ps weight mass value) where
    light_fits : Fitting weight mass value
    light_fits = record {
      weight_fits = subst (SFits w64) (sym X.weight_is) (each (ones c t) (λ y. one (is_stored c t y)));
      mass_fits = subst (SFits w64) (sym X.mass_is) (each (masses c t) (λ y. (sheet_small y).0));
      value_fits = subst (SFits w64) (sym X.value_is) (each (values c t) (λ y. (sheet_small y).1));
    }
      where
        one : (b : Bool) → Abs≤ (cond b (pos 1) (pos 0)) most_blurred
        one true = record { abs = omega arith }
        one false = record { abs = omega arith }

        each : (f : List ℤ → ℤ) → ((y : List ℤ) → Abs≤ (f y) most_blurred) → SFits w64 (weighed_over c.d ps f)
        each f h = small_fits (weighed_small c.d ps light f most_blurred h)

    light_back : WeighedIs c t ps (W64 weight) (W64 mass) (W64 value)
    light_back = record {
      weight_is = to_z-of_z w64 weight light_fits.weight_fits ∙ X.weight_is;
      mass_is = to_z-of_z w64 mass light_fits.mass_fits ∙ X.mass_is;
      value_is = to_z-of_z w64 value light_fits.value_fits ∙ X.value_is;
    }

-- ---- lists of points one after the other
module _ (c : Settings) (t : Table) (g : ℕ → List (List ℤ × ℕ)) where
  pub weighed_none : WeighedIs c t (collect 0 g) (pos 0) (pos 0) (pos 0)
  unfolding collect over
  weighed_none = record { weight_is = refl; mass_is = refl; value_is = refl }

  weighed_more : (k : ℕ) {weight mass value w m v : ℤ} → WeighedIs c t (collect k g) weight mass value → WeighedIs c t (g k) w m v
      → WeighedIs c t (collect (k + 1) g) (weight +ℤ w) (mass +ℤ m) (value +ℤ v)
  unfolding collect
  weighed_more k X Y = rw add-one record {
    weight_is = each (ones c t) X.weight_is Y.weight_is;
    mass_is = each (masses c t) X.mass_is Y.mass_is;
    value_is = each (values c t) X.value_is Y.value_is;
  }
    where
      each : (f : List ℤ → ℤ) {a b : ℤ} → a ≡ weighed_over c.d (collect k g) f → b ≡ weighed_over c.d (g k) f → a +ℤ b ≡ weighed_over c.d (collect k g ++ g k) f
      each f p q = ap₂ ◌+ℤ◌ p q ∙ sym (over_append (collect k g) (g k) (λ p. pos p.1 *ℤ f (take c.d p.0)))

  -- how many there are is named otherwise
  pub weighed_at : (k n : ℕ) → k ≡ n → {weight mass value : ℤ} → WeighedIs c t (collect k g) weight mass value → WeighedIs c t (collect n g) weight mass value
  weighed_at k n e {weight} {mass} {value} X = subst (λ (k : ℕ). WeighedIs c t (collect k g) weight mass value) e X

-- ---- a slot
-- a sum over it is one term, where the term is 0 in a slot that has no point
slot_over : (d : ℕ) (ws : List ℕ) (cs : List ℤ) (k : ℕ) (f : List ℤ × ℕ → ℤ) → let p : List ℤ × ℕ = (tab (suc d) (λ i. at cs (6 * k + i)), get_or ws k 0) in
    (get_or ws k 0 ≡ 0 → f p ≡ pos 0) → over (slot d ws cs k) f ≡ f p
unfolding slot over
slot_over d ws cs k f h = go (ℕ_discrete (get_or ws k 0) 0)
  where
    p : List ℤ × ℕ
    p = (tab (suc d) (λ i. at cs (6 * k + i)), get_or ws k 0)

    go : Dec (get_or ws k 0 ≡ 0) → over (slot d ws cs k) f ≡ f p
    go (yes e) = rw (eq-eqb (get_or ws k 0) 0 e) (sym (h e))
    go (no e) = rw (ne_eqb (get_or ws k 0) 0 e) (+ℤ_idr (f p))

-- one of weight 0 gives nothing
pub slot_empty : (c : Settings) (t : Table) (ws : List ℕ) (cs : List ℤ) (k : ℕ) → get_or ws k 0 ≡ 0 → WeighedIs c t (slot c.d ws cs k) (pos 0) (pos 0) (pos 0)
unfolding slot over
slot_empty c t ws cs k e = rw (eq-eqb (get_or ws k 0) 0 e) (record { weight_is = refl; mass_is = refl; value_is = refl })

module _ (c : Settings) (t : Table) (ws : List ℕ) (cs : List ℤ) (Q : Weighable c t ws cs) (k : ℕ) (l : k < suc c.d) where
  -- the slots before it, they with it, and it alone weigh at most 384
  light : (heft (collect k (slot c.d ws cs)) ≤ℤ pos most_W) × (heft (collect k (slot c.d ws cs) ++ slot c.d ws cs k) ≤ℤ pos most_W) × (heft (slot c.d ws cs k) ≤ℤ pos most_W)
  light = let s = collect_parts (suc c.d) (slot c.d ws cs) k l in
      heft_parts (collect k (slot c.d ws cs)) (slot c.d ws cs k) s.0 (pos most_W) (subst (λ (ps : List (List ℤ × ℕ)). heft ps ≤ℤ pos most_W) s.1 Q.light)

  pub weight_small : get_or ws k 0 ≤ most_W
  weight_small = omega (arith, le_in (pos (get_or ws k 0)) (pos most_W) (subst (λ (z : ℤ). z ≤ℤ pos most_W) (slot_over c.d ws cs k (λ p. pos p.1) (λ e. ap pos e)) light.2))

  -- the key of its point
  module _ {key : List ℤ} (e : key ≡ take c.d (drop (6 * k) cs)) where
    slot_weighed : (f : List ℤ → ℤ) → weighed_over c.d (slot c.d ws cs k) f ≡ pos (get_or ws k 0) *ℤ f key
    slot_weighed f = let y = take c.d (tab (suc c.d) (λ i. at cs (6 * k + i))) in
        slot_over c.d ws cs k (λ p. pos p.1 *ℤ f (take c.d p.0)) (λ e. ap (λ (w : ℕ). pos w *ℤ f y) e ∙ zero-*ℤ (f y))
        ∙ ap (λ (y : List ℤ). pos (get_or ws k 0) *ℤ f y) (sym (e ∙ kept_part c.d cs k Q.readable.ranged.d_most l Q.coords_size))

    -- a point that is not stored gives nothing
    pub slot_absent : {m v : ℤ} → PairIs c t key false m v → WeighedIs c t (slot c.d ws cs k) (pos 0) (pos 0) (pos 0)
    slot_absent X = record {
      weight_is = sym (slot_weighed (ones c t) ∙ ap (λ (b : Bool). pos (get_or ws k 0) *ℤ cond b (pos 1) (pos 0)) (sym X.stored_is) ∙ *ℤ-zero (pos (get_or ws k 0)));
      mass_is = sym (slot_weighed (masses c t) ∙ ap (λ (n : ℕ). pos (get_or ws k 0) *ℤ (pair_at t.sums n).0) none ∙ *ℤ-zero (pos (get_or ws k 0)));
      value_is = sym (slot_weighed (values c t) ∙ ap (λ (n : ℕ). pos (get_or ws k 0) *ℤ (pair_at t.sums n).1) none ∙ *ℤ-zero (pos (get_or ws k 0)));
    }
      where
        none : found c t key ≡ 0
        none = omega (arith, ltb-false 0 (found c t key) (sym X.stored_is))

    -- one that is stored gives its weight, and its numbers times the weight: they fit, and are what is read back from their bits
    module _ {w m v : ℤ} (X : PairIs c t key true m v) (p : w ≡ pos (get_or ws k 0)) where
      light_weight : Abs≤ (pos (get_or ws k 0)) most_W
      light_weight = let l = weight_small in record { abs = omega arith }

      weight_back : W64 w ≡ pos (get_or ws k 0)
      weight_back = rw p (back64 light_weight (lit< tt))

      -- a number of the pair
      module _ {z : ℤ} (h : Abs≤ z most_blurred) where
        product_is : W64 w *ℤ W64 z ≡ pos (get_or ws k 0) *ℤ z
        product_is = ap₂ ◌*ℤ◌ weight_back (small_back h)

        product_fits : SFits w64 (W64 w *ℤ W64 z)
        product_fits = rw product_is (small_fits (abs_times (pos (get_or ws k 0)) z {B = most_W} {C = most_blurred} light_weight h (omega arith)))

        product_back : W64 (W64 w *ℤ W64 z) ≡ pos (get_or ws k 0) *ℤ z
        product_back = to_z-of_z w64 (W64 w *ℤ W64 z) product_fits ∙ product_is

      pub mass_fits : SFits w64 (W64 w *ℤ W64 m)
      mass_fits = product_fits (pair_small c t Q.readable Q.small X).0

      pub value_fits : SFits w64 (W64 w *ℤ W64 v)
      value_fits = product_fits (pair_small c t Q.readable Q.small X).1

      pub slot_present : WeighedIs c t (slot c.d ws cs k) (W64 w) (W64 (W64 w *ℤ W64 m)) (W64 (W64 w *ℤ W64 v))
      slot_present = record {
        weight_is = weight_back ∙ sym (slot_weighed (ones c t) ∙ ap (λ (b : Bool). pos (get_or ws k 0) *ℤ cond b (pos 1) (pos 0)) (sym X.stored_is) ∙ once (get_or ws k 0));
        mass_is = product_back (pair_small c t Q.readable Q.small X).0 ∙ ap (λ (z : ℤ). pos (get_or ws k 0) *ℤ z) X.mass_is ∙ sym (slot_weighed (masses c t));
        value_is = product_back (pair_small c t Q.readable Q.small X).1 ∙ ap (λ (z : ℤ). pos (get_or ws k 0) *ℤ z) X.value_is ∙ sym (slot_weighed (values c t));
      }
        where
          once : (w : ℕ) → pos w *ℤ pos 1 ≡ pos w
          once w = let e : w * 1 ≡ w = omega arith in ap pos e

-- ---- one slot more is weighed: the new sums fit, and are what is read back from their bits
pub slot_more : (c : Settings) (t : Table) (ws : List ℕ) (cs : List ℤ) → Weighable c t ws cs → (k : ℕ) → k < c.d + 1
    → {weight mass value w m v : ℤ} → WeighedIs c t (collect k (slot c.d ws cs)) weight mass value → WeighedIs c t (slot c.d ws cs k) w m v
    → Fitting (W64 weight +ℤ W64 w) (W64 mass +ℤ W64 m) (W64 value +ℤ W64 v)
    × WeighedIs c t (collect (k + 1) (slot c.d ws cs)) (W64 (W64 weight +ℤ W64 w)) (W64 (W64 mass +ℤ W64 m)) (W64 (W64 value +ℤ W64 v))
unfolding collect
slot_more c t ws cs Q k h X Y =
    let l = light c t ws cs Q k (omega arith) in
    let g = slot c.d ws cs in
    let Z = weighed_more c t g k (light_back c t Q.readable Q.small (collect k g) l.0 X) (light_back c t Q.readable Q.small (g k) l.2 Y) in
    let both : heft (collect (k + 1) g) ≤ℤ pos most_W = rw add-one l.1 in
    (light_fits c t Q.readable Q.small (collect (k + 1) g) both Z, light_back c t Q.readable Q.small (collect (k + 1) g) both Z)
