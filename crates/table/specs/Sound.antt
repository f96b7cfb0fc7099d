-- Soundness: document 01's sentence, as a test that computes and as the facts that it stands for. And settings in range and slices of their lengths, as facts.
use Rattle.std.specs.Prelude.{◌≡◌, Bool, ◌&&◌, List, ℕ, suc, ◌*◌, ◌≤◌, ◌<◌, eqb, leb, ℤ, pos, neg_ℤ, nat_abs, ◌*ℤ◌, length, ◌≤ℤ◌}
use Rattle.std.specs.Int.Signed.{le_z}
use Rattle.whole.specs.Size.{Abs≤}
use Rattle.whole.specs.Floor.{remainder}
use Rattle.whole.specs.Sum.{sum, all}
use Rattle.whole.specs.Lists.{at}
use Rattle.lattice.specs.Limits.{most_d, most_S, most_C, farthest_point, most_value, most_readings}
use Rattle.lattice.specs.Lattice.{Point, remainder_of}
use Rattle.lattice.specs.Weight.{W}
use Rattle.index.specs.Keys.{eq_z}
use Rattle.index.specs.Indexed.{sparse, finding, Indexed}
use Rattle.table.specs.Table.{Settings, Table, Row, key, mass, row, whole, entry}

-- z is from -b to b
abbrev pub within_plus_minus : ℤ → ℤ → Bool
within_plus_minus b z = le_z (neg_ℤ b) z && le_z z b

-- "each key has one common remainder"
abbrev pub one_remainder : ℕ → List ℤ → Bool
one_remainder d y = all (suc d) (λ j. eqb (remainder (at y j) (suc d)) (remainder_of d (at y)))

-- "all d+1 coordinates are within ±1,000,005"
abbrev pub all_reached : ℕ → List ℤ → Bool
all_reached d y = all (suc d) (λ j. leb (nat_abs (at y j)) farthest_point)

-- what is asked of a key: "one common remainder" and coordinates within ±1,000,005, of the whole point that it stands for
unfoldable pub good_key : ℕ → List ℤ → Bool
good_key d k = one_remainder d (whole k) && all_reached d (whole k)

-- "each mass is at least 1; each value sum is within ±1,000,000 times its mass";
unfoldable pub good_pair : ℤ → ℤ → Bool
good_pair m v = le_z (pos 1) m && within_plus_minus (pos most_value *ℤ m) v

-- what is asked of each stored point
abbrev pub good : ℕ → Row → Bool
good d r = good_key d r.key && good_pair r.mass r.value

-- "m is at most C and n at most 4,096; every index entry is 0 to m and exactly m are not 0; searching for each of the m keys finds that
-- same point";
unfoldable pub indexed : Settings → Table → Bool
indexed c t = leb t.m c.C && leb t.n most_readings && (sparse (2 * c.C) t.m (entry t) && finding c.C t.m (key c t) (entry t))

-- all of soundness: the index, each stored point, and "the masses sum to W·n."
unfoldable pub sound : Settings → Table → Bool
sound c t = indexed c t && (all t.m (λ i. good c.d (row c t i)) && eq_z (sum t.m (mass t)) (pos (W c.d c.S * t.n)))

-- What `good` tests, as facts: a stored point.
pub record Good (d : ℕ) (r : Row) : Type 0 where
  pub size : length r.key ≡ d
  pub point : Point d (whole r.key)
  pub near : (j : ℕ) → j < suc d → Abs≤ (at (whole r.key) j) farthest_point
  pub some : pos 1 ≤ℤ r.mass
  pub low : neg_ℤ (pos most_value *ℤ r.mass) ≤ℤ r.value
  pub high : r.value ≤ℤ (pos most_value *ℤ r.mass)

-- What `sound` tests, as facts: a sound table.
pub record Sound (c : Settings) (t : Table) : Type 0 where
  pub indexed : Indexed c.C t.m (key c t) (entry t)
  pub few : t.n ≤ most_readings
  pub good : (i : ℕ) → i < t.m → Good c.d (row c t i)
  pub masses : sum t.m (mass t) ≡ pos (W c.d c.S * t.n)

-- "Dimension d: 1 to 5. Fineness S: 1 to 64. Capacity C: 1 to 8,192 points."
pub record Ranged (c : Settings) : Type 0 where
  pub d_least : 1 ≤ c.d
  pub d_most : c.d ≤ most_d
  pub S_least : 1 ≤ c.S
  pub S_most : c.S ≤ most_S
  pub C_least : 1 ≤ c.C
  pub C_most : c.C ≤ most_C

-- "three lent slices: keys (d·C signed 32-bit numbers), sums (2·C signed 64-bit numbers …), index (2·C unsigned 16-bit numbers)"
pub record Shape (c : Settings) (t : Table) : Type 0 where
  pub keys : length t.keys ≡ c.d * c.C
  pub sums : length t.sums ≡ 2 * c.C
  pub index : length t.index ≡ 2 * c.C

-- Settings in range, lengths, and soundness: a table that is itself no reason for 1, 2 or 3; what else a call is lent may be.
pub record Fine (c : Settings) (t : Table) : Type 0 where
  pub ranged : Ranged c
  pub shape : Shape c t
  pub sound : Sound c t
