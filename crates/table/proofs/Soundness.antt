-- Soundness, settings in range and slices of their lengths: the tests say what the records state. What a sound table's masses come to.
use mathlib.Core.Path.{◌≡◌, subst, sym}
use mathlib.Core.Logic.{◌⊎◌, inl, inr}
use mathlib.Core.Bool.{Bool, ◌&&◌}
use Prim.Native.Nat.{ℕ, zero, suc, ◌*◌, ◌≤◌, ◌<◌}
use native.Mathlib.Nat.{not-suc-le-zero, le_refl, eq-or-lt_of_le, le_of_suc-le-suc, mul-le-mul}
use native.Mathlib.Omega.{arith}
use lib.IntN.{ℤ, pos, ◌+ℤ◌}
use lib.Signed.{◌≤ℤ◌, ≤ℤ_refl}
use lib.Dec.{T, eqb, eqb→eq, leb, leb→le, le→leb}
use lib.ListN.{length}
use Rattle.whole.specs.Sum.{sum, over, all}
use Rattle.whole.proofs.Linear.{on, difs, ints}
use Rattle.whole.proofs.Tests.{and_l, and_r, and_i, all_at, all_of}
use Rattle.lattice.specs.Limits.{most_d, most_S, most_C, most_W, most_readings}
use Rattle.lattice.specs.Weight.{W}
use Rattle.index.specs.Keys.{eq_z}
use Rattle.index.specs.Search.{Searchable}
use Rattle.index.specs.Indexed.{sparse, finding, Sparse}
use Rattle.index.proofs.Equality.{eq-eqb, eq_z_eq, eq_z_refl, key_at_length}
use Rattle.index.proofs.Steps.{searchable}
use Rattle.index.proofs.Finding.{to_sparse, of_sparse, to_indexed, of_indexed}
use Rattle.table.specs.Table.{Settings, Table, key, mass, row, rows, entry, mass_of}
use Rattle.table.specs.Sound.{good, indexed, sound, Sound, Ranged, Shape, Fine}
use Rattle.table.specs.Calls.{ranged, fits}
use Rattle.table.specs.Inner.{Kept}
use Rattle.table.proofs.Lists.{over_tab}
use Rattle.table.proofs.Good.{to_good, of_good}

-- ---- number 1
module _ (c : Settings) where
  abbrev d₁ : Bool
  d₁ = leb 1 c.d

  abbrev d₂ : Bool
  d₂ = leb c.d most_d

  abbrev S₁ : Bool
  S₁ = leb 1 c.S

  abbrev S₂ : Bool
  S₂ = leb c.S most_S

  abbrev C₁ : Bool
  C₁ = leb 1 c.C

  abbrev C₂ : Bool
  C₂ = leb c.C most_C

  pub to_ranged : T (ranged c) → Ranged c
  unfolding ranged
  to_ranged t =
      let u = and_l (d₁ && d₂ && (S₁ && S₂)) (C₁ && C₂) t in
      let a = and_l (d₁ && d₂) (S₁ && S₂) u in
      let b = and_r (d₁ && d₂) (S₁ && S₂) u in
      let e = and_r (d₁ && d₂ && (S₁ && S₂)) (C₁ && C₂) t in
      record {
        d_least = leb→le 1 c.d (and_l d₁ d₂ a);
        d_most = leb→le c.d most_d (and_r d₁ d₂ a);
        S_least = leb→le 1 c.S (and_l S₁ S₂ b);
        S_most = leb→le c.S most_S (and_r S₁ S₂ b);
        C_least = leb→le 1 c.C (and_l C₁ C₂ e);
        C_most = leb→le c.C most_C (and_r C₁ C₂ e);
      }

  pub of_ranged : Ranged c → T (ranged c)
  unfolding ranged
  of_ranged G = and_i (d₁ && d₂ && (S₁ && S₂)) (C₁ && C₂)
      (and_i (d₁ && d₂) (S₁ && S₂)
      (and_i d₁ d₂ (le→leb 1 c.d G.d_least) (le→leb c.d most_d G.d_most))
      (and_i S₁ S₂ (le→leb 1 c.S G.S_least) (le→leb c.S most_S G.S_most)))
      (and_i C₁ C₂ (le→leb 1 c.C G.C_least) (le→leb c.C most_C G.C_most))

-- ---- number 2
module _ (c : Settings) (t : Table) where
  abbrev keys_fit : Bool
  keys_fit = eqb (length t.keys) (c.d * c.C)

  abbrev sums_fit : Bool
  sums_fit = eqb (length t.sums) (2 * c.C)

  abbrev index_fits : Bool
  index_fits = eqb (length t.index) (2 * c.C)

  pub to_shape : T (fits c t) → Shape c t
  unfolding fits
  to_shape h = record {
    keys = eqb→eq (length t.keys) (c.d * c.C) (and_l keys_fit sums_fit (and_l (keys_fit && sums_fit) index_fits h));
    sums = eqb→eq (length t.sums) (2 * c.C) (and_r keys_fit sums_fit (and_l (keys_fit && sums_fit) index_fits h));
    index = eqb→eq (length t.index) (2 * c.C) (and_r (keys_fit && sums_fit) index_fits h);
  }

  pub of_shape : Shape c t → T (fits c t)
  unfolding fits
  of_shape H = and_i (keys_fit && sums_fit) index_fits
      (and_i keys_fit sums_fit (eq-eqb (length t.keys) (c.d * c.C) H.keys) (eq-eqb (length t.sums) (2 * c.C) H.sums))
      (eq-eqb (length t.index) (2 * c.C) H.index)

-- ---- number 3
module _ (c : Settings) (t : Table) where
  abbrev room : Bool
  room = leb t.m c.C

  abbrev few : Bool
  few = leb t.n most_readings

  abbrev thin : Bool
  thin = sparse (2 * c.C) t.m (entry t)

  abbrev finds : Bool
  finds = finding c.C t.m (key c t) (entry t)

  abbrev goods : Bool
  goods = all t.m (λ i. good c.d (row c t i))

  abbrev weighs : Bool
  weighs = eq_z (sum t.m (mass t)) (pos (W c.d c.S * t.n))

  pub to_sound : T (sound c t) → Sound c t
  unfolding sound indexed
  to_sound h =
      let i = and_l (indexed c t) (goods && weighs) h in
      let g = and_r (indexed c t) (goods && weighs) h in
      let f = and_l (room && few) (thin && finds) i in
      let e = and_r (room && few) (thin && finds) i in
      record {
        indexed = to_indexed c.C t.m (key c t) (entry t)
            (to_sparse c.C t.m (entry t) (leb→le t.m c.C (and_l room few f)) (and_l thin finds e)) (and_r thin finds e);
        few = leb→le t.n most_readings (and_r room few f);
        good = λ i l. to_good c.d (row c t i) (key_at_length c.d t.keys i) (all_at t.m (λ i. good c.d (row c t i)) (and_l goods weighs g) i l);
        masses = eq_z_eq (sum t.m (mass t)) (pos (W c.d c.S * t.n)) (and_r goods weighs g);
      }

  pub of_sound : Sound c t → T (sound c t)
  unfolding sound indexed
  of_sound Q = and_i (indexed c t) (goods && weighs)
      (and_i (room && few) (thin && finds)
      (and_i room few (le→leb t.m c.C Q.indexed.sparse.room) (le→leb t.n most_readings Q.few))
      (and_i thin finds (of_sparse c.C t.m (entry t) Q.indexed.sparse) (of_indexed c.C t.m (key c t) (entry t) Q.indexed)))
      (and_i goods weighs
      (all_of t.m (λ i. good c.d (row c t i)) (λ i l. of_good c.d (row c t i) (Q.good i l)))
      (subst (λ (z : ℤ). T (eq_z (sum t.m (mass t)) z)) Q.masses (eq_z_refl (sum t.m (mass t)))))

pub fine_kept : (c : Settings) (t : Table) → Fine c t → Kept c t
fine_kept c t F = record { shape = F.shape; indexed = F.sound.indexed; good = F.sound.good }

-- keys can be searched for in the lent memory
pub table_searched : (c : Settings) (t : Table) → Ranged c → Shape c t → Sparse c.C t.m (entry t) → Searchable c.d c.C t.keys t.index
table_searched c t R H Q = searchable c.d c.C t.m t.keys t.index R.C_least R.C_most H.index H.keys Q

pub fine_searched : (c : Settings) (t : Table) → Fine c t → Searchable c.d c.C t.keys t.index
fine_searched c t F = table_searched c t F.ranged F.shape F.sound.indexed.sparse

-- ---- no mass passes the sum of the masses
pub sum_low : (n : ℕ) (f : ℕ → ℤ) → ((i : ℕ) → i < n → pos 1 ≤ℤ f i) → pos 0 ≤ℤ sum n f
unfolding sum
sum_low zero f h = ≤ℤ_refl (pos 0)
sum_low (suc n) f h = lin (sum n f) (f n) (sum_low n f (λ i l. h i (omega arith))) (h n (le_refl (suc n)))
  where
    lin : (a b : ℤ) → pos 0 ≤ℤ a → pos 1 ≤ℤ b → pos 0 ≤ℤ (a +ℤ b)
    lin = on _ λ a b. on _ λ c d. simp difs (omega ints)

pub sum_one : (n : ℕ) (f : ℕ → ℤ) → ((i : ℕ) → i < n → pos 1 ≤ℤ f i) → (i : ℕ) → i < n → f i ≤ℤ sum n f
unfolding sum
sum_one zero f h i l = absurd (not-suc-le-zero l)
sum_one (suc n) f h i l = go (eq-or-lt_of_le (le_of_suc-le-suc l)) (sum_one n f h' i)
  where
    h' : (i : ℕ) → i < n → pos 1 ≤ℤ f i
    h' i l = h i (omega arith)

    lin : (a b : ℤ) → pos 0 ≤ℤ a → b ≤ℤ (a +ℤ b)
    lin = on _ λ a b. on _ λ c d. simp difs (omega ints)

    lin' : (a b x : ℤ) → x ≤ℤ a → pos 1 ≤ℤ b → x ≤ℤ (a +ℤ b)
    lin' = on _ λ a b. on _ λ c d. on _ λ e f. simp difs (omega ints)

    go : (i ≡ n) ⊎ (i < n) → (i < n → f i ≤ℤ sum n f) → f i ≤ℤ (sum n f +ℤ f n)
    go (inl e) ih = rw e (lin (sum n f) (f n) (sum_low n f h'))
    go (inr k) ih = lin' (sum n f) (f n) (f i) (ih k) (h n (le_refl (suc n)))

pub masses_over : (c : Settings) (t : Table) → over (rows c t) mass_of ≡ sum t.m (mass t)
unfolding rows
masses_over c t = over_tab t.m (row c t) mass_of

pub mass_over : (c : Settings) (t : Table) → Kept c t → (i : ℕ) → i < t.m → mass t i ≤ℤ over (rows c t) mass_of
mass_over c t K i l = subst (λ (z : ℤ). mass t i ≤ℤ z) (sym (masses_over c t)) (sum_one t.m (mass t) (λ i l. (K.good i l).some) i l)

-- in a sound table that sum is W·n
pub mass_bound : (c : Settings) (t : Table) → Sound c t → (i : ℕ) → i < t.m → mass t i ≤ℤ pos (W c.d c.S * t.n)
mass_bound c t Q i l = subst (λ (z : ℤ). mass t i ≤ℤ z) Q.masses (sum_one t.m (mass t) (λ i l. (Q.good i l).some) i l)

-- and W is at most 384
pub W_most : (c : Settings) → Ranged c → W c.d c.S ≤ most_W
W_most c G = let h : suc c.d ≤ suc most_d = omega (arith, G.d_most) in mul-le-mul h G.S_most

pub total_most : (c : Settings) (n : ℕ) → Ranged c → n ≤ most_readings → W c.d c.S * n ≤ most_W * most_readings
total_most c n G h = mul-le-mul (W_most c G) h
