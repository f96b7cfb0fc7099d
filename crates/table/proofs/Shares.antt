-- What an accepted reading adds: good rows of different points, whose masses sum to W, and which give each lattice point its weight and
-- its weight times the value.
use mathlib.Core.Path.{◌≡◌, refl, sym, ap, ◌∙◌}
use mathlib.Core.Logic.{◌⊎◌, inl, inr}
use mathlib.Core.List.{List, [], ◌∷◌, map}
use Prim.Native.Nat.{ℕ, ◌+◌, ◌*◌, ◌≤◌, ◌<◌}
use native.Mathlib.Nat.{eq-zero-or-pos, mul-le-mul_left}
use native.Mathlib.Omega.{arith}
use lib.IntN.{ℤ, zero-*ℤ, pos, neg_ℤ, ◌*ℤ◌}
use lib.Signed.{◌≤ℤ◌}
use lib.Dec.{T}
use lib.ListN.{length, get_or, take}
use Rattle.whole.specs.Size.{Abs≤}
use Rattle.whole.specs.Sum.{sum, over}
use Rattle.whole.specs.Lists.{at, All, Each}
use Rattle.whole.proofs.Linear.{on, difs, ints, dif_le}
use Rattle.whole.proofs.Parts.{le_out}
use Rattle.whole.proofs.Size.{abs_lo, abs_hi}
use Rattle.whole.proofs.Sum.{none, one_hit, sum_list}
use Rattle.lattice.specs.Limits.{most_value, most_readings}
use Rattle.lattice.specs.Lattice.{Point, remainder_of}
use Rattle.lattice.specs.Weight.{W, weight}
use Rattle.lattice.specs.Points.{Points, points, weighed}
use Rattle.lattice.specs.Position.{Position}
use Rattle.lattice.proofs.Points.{remainder_once, exactly_these, all_sum_to_W}
use Rattle.lattice.proofs.Reach.{reach}
use Rattle.index.specs.Keys.{same}
use Rattle.index.proofs.Equality.{same_eq, eq_same}
use Rattle.table.specs.Table.{Settings, Table, Row, mass_of, keys_of}
use Rattle.table.specs.Sound.{Good, Ranged}
use Rattle.table.specs.Pour.{news}
use Rattle.table.specs.Reading.{Reading, share, shares}
use Rattle.table.specs.Inner.{weighed_row}
use Rattle.table.proofs.Lists.{all_list, each_list, all_map, each_map, over_map}
use Rattle.table.proofs.Rows.{Apart, value_of, gives, given, pair_path}
use Rattle.table.proofs.Good.{key_size, whole_key, key_tells}

-- ---- an accepted reading
pub record Accepted (c : Settings) (t : Table) (r : Reading) : Type 0 where
  pub position : Position c.d r.position
  pub fair : Abs≤ r.value most_value
  pub few : t.n + 1 ≤ most_readings
  pub room : t.m + news c t (keys_of (shares c.d c.S r)) ≤ c.C

-- ---- a weight times a value
pub fair_low : (w : ℕ) (v : ℤ) → neg_ℤ (pos most_value) ≤ℤ v → neg_ℤ (pos most_value *ℤ pos w) ≤ℤ (pos w *ℤ v)
fair_low w = on _ λ a b. simp difs (λ h. let l : w * b ≤ w * (1000000 + a) = mul-le-mul_left w (omega ints) in dif_le 0 (1000000 * w) (w * a + 0 * b) (w * b + 0 * a) (omega arith))

pub fair_high : (w : ℕ) (v : ℤ) → v ≤ℤ pos most_value → (pos w *ℤ v) ≤ℤ (pos most_value *ℤ pos w)
fair_high w = on _ λ a b. simp difs (λ h. let l : w * a ≤ w * (1000000 + b) = mul-le-mul_left w (omega ints) in dif_le (w * a + 0 * b) (w * b + 0 * a) (1000000 * w) 0 (omega arith))

-- ---- the rows of a reading
module _ (d S : ℕ) (fine : 0 < S) (r : Reading) where
  ps : List (List ℤ)
  ps = points d S r.position

  abbrev weigh : List ℤ → ℕ
  weigh y = weight d S (at r.position) (at y)

  the : Points d S r.position ps
  unfolding ps
  the = exactly_these d S fine r.position

  pub shares_apart : Each Apart (shares d S r)
  unfolding shares ps
  shares_apart = each_map Apart (share d S r) ps (each_list (λ y z. Apart (share d S r y) (share d S r z)) ps [] (λ i j h l e.
      let l' : i < length ps = omega arith in
      let q = key_tells d (get_or ps i []) (get_or ps j []) (the.point i l') (the.point j l) e in
      omega (arith, the.asc i j h l, ap (λ (y : List ℤ). remainder_of d (at y)) q)))

  pub shares_mass : over (shares d S r) mass_of ≡ pos (W d S)
  unfolding shares
  shares_mass = over_map (share d S r) (points d S r.position) mass_of ∙ all_sum_to_W d S fine r.position

  -- ---- what it gives to a lattice point: its weight, and its weight times the value
  spell : (f : Row → ℤ) → over (shares d S r) f ≡ sum (length ps) (λ m. f (share d S r (get_or ps m [])))
  unfolding shares ps
  spell f = over_map (share d S r) ps f ∙ sym (sum_list ps [] (λ y. f (share d S r y)))

  once : (i j : ℕ) → i < length ps → j < length ps → get_or ps i [] ≡ get_or ps j [] → i ≡ j
  once i j h l e = remainder_once d S fine r.position ps the i j h l (ap (λ (z : List ℤ). remainder_of d (at z)) e)

  -- one of its points has the key, or none has
  over_at : (f : Row → ℤ) → ((y : List ℤ) → weigh y ≡ 0 → f (share d S r y) ≡ pos 0)
      → (y : List ℤ) → Point d y → over (shares d S r) (gives f (take d y)) ≡ f (share d S r y)
  over_at f zero_at y Y = spell (gives f k) ∙ go (eq-zero-or-pos (weigh y))
    where
      k : List ℤ
      k = take d y

      tells : (m : ℕ) → m < length ps → T (same (take d (get_or ps m [])) k) → get_or ps m [] ≡ y
      tells m l s = key_tells d (get_or ps m []) y (the.point m l) Y (same_eq (take d (get_or ps m [])) k s)

      go : (weigh y ≡ 0) ⊎ (0 < weigh y) → sum (length ps) (λ m. gives f k (share d S r (get_or ps m []))) ≡ f (share d S r y)
      go (inl e) = none (length ps) (λ m. same (take d (get_or ps m [])) k) (λ m. f (share d S r (get_or ps m [])))
          (λ m l s. let q = ap weigh (tells m l s) in omega (arith, q, e, the.heavy m l)) ∙ sym (zero_at y e)
      go (inr w) =
          let (m, l, e) = the.full y Y w in
          one_hit (length ps) (λ m. same (take d (get_or ps m [])) k) (λ m. f (share d S r (get_or ps m []))) m l
          (eq_same (take d (get_or ps m [])) k (ap (take d) e))
          (λ j h s. once j m h l (tells j h s ∙ sym e))
          ∙ ap (λ (z : List ℤ). f (share d S r z)) e

  pub share_given : (y : List ℤ) → Point d y → given (shares d S r) (take d y) ≡ (let w = pos (weight d S (at r.position) (at y)) in (w, w *ℤ r.value))
  share_given y Y = pair_path (over (shares d S r) (gives mass_of (take d y))) (over (shares d S r) (gives value_of (take d y)))
      (mass_of (share d S r y)) (value_of (share d S r y))
      (over_at mass_of (λ y e. ap pos e) y Y) (over_at value_of (λ y e. ap (λ (w : ℕ). pos w *ℤ r.value) e ∙ zero-*ℤ r.value) y Y)

-- ---- they are good
module _ (c : Settings) (G : Ranged c) (r : Reading) (X : Position c.d r.position) (fair : Abs≤ r.value most_value) where
  share_good : (y : List ℤ) → Point c.d y → 0 < weight c.d c.S (at r.position) (at y) → Good c.d (share c.d c.S r y)
  share_good y Y w = record {
    size = key_size c.d y Y;
    point = rw (whole_key c.d y Y) Y;
    near = λ j l. rw (whole_key c.d y Y) (reach c.d c.S G.d_most G.S_least r.position y X Y w j l);
    some = le_out (pos 1) (pos weigh) (omega arith);
    low = fair_low weigh r.value (abs_lo fair);
    high = fair_high weigh r.value (abs_hi fair);
  }
    where
      weigh : ℕ
      weigh = weight c.d c.S (at r.position) (at y)

  pub shares_good : All (Good c.d) (shares c.d c.S r)
  unfolding shares
  shares_good =
      let ps = points c.d c.S r.position in
      let the = exactly_these c.d c.S G.S_least r.position in
      all_map (Good c.d) (share c.d c.S r) ps
      (all_list (λ y. Good c.d (share c.d c.S r y)) ps [] (λ m l. share_good (get_or ps m []) (the.point m l) (the.heavy m l)))

-- ---- the rows as they are made of the weighed points
pub shares_weighed : (d S : ℕ) (r : Reading) → shares d S r ≡ map (weighed_row d r.value) (weighed d S r.position)
unfolding shares weighed
shares_weighed d S r = go (points d S r.position)
  where
    go : (l : List (List ℤ)) → map (share d S r) l ≡ map (weighed_row d r.value) (map (λ y. (y, weight d S (at r.position) (at y))) l)
    go [] = refl
    go (y ∷ l) = ap (λ (t : List Row). share d S r y ∷ t) (go l)
