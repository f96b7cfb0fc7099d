-- One pass: the key of a stored point as a part of the keys, the point's new pair from its own and its neighbours', and the sheet filled with the new pairs.
use mathlib.Core.Path.{◌≡◌, refl, sym, ap, ap₂, subst, ◌∙◌}
use mathlib.Core.Bool.{Bool, true, false}
use mathlib.Core.List.{List}
use Prim.Native.Nat.{ℕ, suc, ◌+◌, ◌-◌, ◌*◌, ◌≤◌, ◌<◌}
use native.Mathlib.Nat.{le_refl, mul-le-mul}
use native.Mathlib.Decide.{ℕ_discrete}
use native.Mathlib.Omega.{arith}
use lib.Dec.{lit<}
use lib.IntN.{ℤ, pos, ◌+ℤ◌, ◌*ℤ◌}
use lib.ListN.{length, take, drop}
use mir.Syntax.{w64}
use mir.Val.{SFits}
use mir.Facts.{to_z-of_z}
use Rattle.std.specs.Prelude.{Option, Some, None, unwrap_or}
use Rattle.whole.specs.Size.{Abs≤}
use Rattle.whole.specs.Lists.{at}
use Rattle.whole.proofs.Signed.{W64}
use Rattle.whole.proofs.Size.{back64}
use Rattle.index.proofs.Equality.{key_at_length, key_part}
use Rattle.table.specs.Table.{Settings, Table, key, held}
use Rattle.table.specs.Pour.{set_pair}
use Rattle.table.proofs.Store.{pair_length, pair_mass, pair_value, pair_else}
use Rattle.blur.specs.declared.pair.Pair.{Pair}
use Rattle.blur.specs.Blur.{plus_step, minus_step, pass, is_stored, masses, values}
use Rattle.blur.specs.Inner.{most_blurred, Movable, neighbour_of, PairFound, NumbersAre, Passable, NewPair, NewPairs}
use Rattle.blur.proofs.Stored.{own_stored, own_pair, held_small}

-- ---- numbers of a sheet
-- each is small enough to be what is read back from its bits
pub small_back : {z : ℤ} → Abs≤ z most_blurred → W64 z ≡ z
small_back h = back64 h (lit< tt)

blendable : {x p m : ℤ} → Abs≤ x most_blurred → Abs≤ p most_blurred → Abs≤ m most_blurred
    → Abs≤ (W64 x) most_blurred × (Abs≤ (W64 p) most_blurred × Abs≤ (W64 m) most_blurred)
blendable a b c = rw (small_back a, small_back b, small_back c) (a, (b, c))

blended : {x p m r : ℤ} → Abs≤ x most_blurred → Abs≤ p most_blurred → Abs≤ m most_blurred → SFits w64 r
    → r ≡ pos 2 *ℤ W64 x +ℤ W64 p +ℤ W64 m → W64 r ≡ pos 2 *ℤ x +ℤ p +ℤ m
blended a b c f e = to_z-of_z f ∙ (rw (small_back a, small_back b, small_back c) at e)

-- the new number of a stored point
pass_stored : (stored : List ℤ → Bool) (d k : ℕ) (f : List ℤ → ℤ) (y : List ℤ) → stored y ≡ true
    → pass stored d k f y ≡ pos 2 *ℤ f y +ℤ f (plus_step d k y) +ℤ f (minus_step d k y)
unfolding pass
pass_stored stored d k f y e = rw e refl

-- the pair of a point that is not stored
abbrev pub nothing : Pair
nothing = record { mass = pos 0; value = pos 0 }

numbers_are : (c : Settings) (t : Table) (y : List ℤ) (found : Option Pair) → PairFound c t y found → NumbersAre c t y (unwrap_or found nothing).mass (unwrap_or found nothing).value
numbers_are c t y None P = record { mass_is = P.mass_is; value_is = P.value_is }
numbers_are c t y (Some pair) P = record { mass_is = P.mass_is; value_is = P.value_is }

-- what is found for a key is a number of the sheet, or 0
module _ (c : Settings) (t : Table) (Q : Passable c t) where
  mass_small : {y : List ℤ} {mass value : ℤ} → NumbersAre c t y mass value → Abs≤ mass most_blurred
  mass_small {y} P = rw P.mass_is (held_small c t Q.readable most_blurred Q.small y).0

  value_small : {y : List ℤ} {mass value : ℤ} → NumbersAre c t y mass value → Abs≤ value most_blurred
  value_small {y} P = rw P.value_is (held_small c t Q.readable most_blurred Q.small y).1

module _ (c : Settings) (t : Table) (Q : Passable c t) (i : ℕ) (l : i < t.m) where
  -- ---- the key of point i
  pub stretch_in : c.d * i + c.d ≤ length t.keys
  stretch_in =
      let n : suc i ≤ c.C = omega (arith, Q.readable.indexed.sparse.room) in
      omega (arith, Q.readable.shape.keys, mul-le-mul (le_refl c.d) n)

  pub keys_short : length t.keys ≤ 40960
  keys_short = omega (arith, Q.readable.shape.keys, mul-le-mul Q.readable.ranged.d_most Q.readable.ranged.C_most)

  -- the part of the keys that the code lends
  abbrev part : List ℤ
  part = take (c.d * i + c.d - c.d * i) (drop (c.d * i) t.keys)

  part_is : part ≡ key c t i
  part_is = key_part c.d t.keys i stretch_in

  pub part_movable : Movable part
  part_movable = rw part_is (Q.movable i l)

  part_size : length part ≡ c.d
  part_size = ap length part_is ∙ key_at_length c.d t.keys i

  -- the pair that is found for the neighbour's key is that of the neighbour
  module _ (plus : Bool) (k : ℕ) {ns : List ℤ} (e : ns ≡ neighbour_of plus (length part) k part) where
    key_is : ns ≡ neighbour_of plus c.d k (key c t i)
    key_is = e ∙ ap₂ (λ (n : ℕ) (y : List ℤ). neighbour_of plus n k y) part_size part_is

    pub neighbour_is : (found : Option Pair) {pair : Pair} → PairFound c t ns found → pair ≡ unwrap_or found nothing
        → NumbersAre c t (neighbour_of plus c.d k (key c t i)) pair.mass pair.value
    neighbour_is found {pair} P w = subst (λ (y : List ℤ). NumbersAre c t y pair.mass pair.value) key_is (rw w (numbers_are c t _ found P))

  -- ---- its pair
  own : held c t (key c t i) ≡ (at t.sums (2 * i), at t.sums (2 * i + 1))
  own = own_pair c t Q.readable i l

  -- and its new pair, from those of the neighbours
  module _ (k : ℕ) {mass₁ value₁ mass₂ value₂ : ℤ} (P : NumbersAre c t (neighbour_of true c.d k (key c t i)) mass₁ value₁)
      (M : NumbersAre c t (neighbour_of false c.d k (key c t i)) mass₂ value₂) where
    pub mass_blendable : Abs≤ (W64 (at t.sums (2 * i))) most_blurred × (Abs≤ (W64 mass₁) most_blurred × Abs≤ (W64 mass₂) most_blurred)
    mass_blendable = blendable (Q.small (2 * i)) (mass_small c t Q P) (mass_small c t Q M)

    pub value_blendable : Abs≤ (W64 (at t.sums (2 * i + 1))) most_blurred × (Abs≤ (W64 value₁) most_blurred × Abs≤ (W64 value₂) most_blurred)
    value_blendable = blendable (Q.small (2 * i + 1)) (value_small c t Q P) (value_small c t Q M)

    pub new_pair : {mass value : ℤ} → SFits w64 mass → SFits w64 value → mass ≡ pos 2 *ℤ W64 (at t.sums (2 * i)) +ℤ W64 mass₁ +ℤ W64 mass₂
        → value ≡ pos 2 *ℤ W64 (at t.sums (2 * i + 1)) +ℤ W64 value₁ +ℤ W64 value₂ → NewPair c t k (key c t i) (W64 mass) (W64 value)
    new_pair f g m v = record {
      mass_is = blended (Q.small (2 * i)) (mass_small c t Q P) (mass_small c t Q M) f m
          ∙ sum (sym (ap (λ (p : ℤ × ℤ). p.0) own)) P.mass_is M.mass_is ∙ sym (pass_stored (is_stored c t) c.d k (masses c t) (key c t i) (own_stored c t Q.readable i l));
      value_is = blended (Q.small (2 * i + 1)) (value_small c t Q P) (value_small c t Q M) g v
          ∙ sum (sym (ap (λ (p : ℤ × ℤ). p.1) own)) P.value_is M.value_is ∙ sym (pass_stored (is_stored c t) c.d k (values c t) (key c t i) (own_stored c t Q.readable i l));
    }
      where
        sum : {x y z x' y' z' : ℤ} → x ≡ x' → y ≡ y' → z ≡ z' → pos 2 *ℤ x +ℤ y +ℤ z ≡ pos 2 *ℤ x' +ℤ y' +ℤ z'
        sum e f g = ap₂ ◌+ℤ◌ (ap₂ (λ (x y : ℤ). pos 2 *ℤ x +ℤ y) e f) g

  -- ---- the sheet with the new pairs
  pub pair_in : (to : List ℤ) → length to ≡ 2 * c.C → 2 * i + 1 < length to
  pair_in to s = omega (arith, s, Q.readable.indexed.sparse.room)

  -- one pair more; it was passed on in 64 bits
  pub passed_more : (k : ℕ) {to to' : List ℤ} {mass value : ℤ} → SFits w64 mass → SFits w64 value → NewPairs c t k i to → NewPair c t k (key c t i) mass value
      → to' ≡ set_pair to i (W64 mass) (W64 value) → NewPairs c t k (i + 1) to'
  passed_more k {to} {mass} {value} f g S N e = rw (e ∙ ap₂ (set_pair to i) (to_z-of_z f) (to_z-of_z g))
      (record { size = pair_length to i mass value ∙ S.size; pairs = λ j q. go j q (ℕ_discrete j i) })
    where
      go : (j : ℕ) → j < i + 1 → Dec (j ≡ i) → NewPair c t k (key c t j) (at (set_pair to i mass value) (2 * j)) (at (set_pair to i mass value) (2 * j + 1))
      go j q (yes h) = rw (h, pair_mass to i mass value (omega (arith, pair_in to S.size)), pair_value to i mass value (pair_in to S.size)) N
      go j q (no h) = rw (pair_else to i mass value (2 * j) (omega arith) (omega arith), pair_else to i mass value (2 * j + 1) (omega arith) (omega arith)) (S.pairs j (omega arith))

pub passed_none : (c : Settings) (t : Table) (k : ℕ) {to : List ℤ} → length to ≡ 2 * c.C → NewPairs c t k 0 to
passed_none c t k s = record { size = s; pairs = λ i h. absurd (omega arith) }
