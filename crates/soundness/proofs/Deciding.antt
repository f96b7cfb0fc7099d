-- What the tests of a table decide together: that it is sound, and by which number a call on it is refused.
use mathlib.Core.Path.{◌≡◌, refl, ap, sym, ◌∙◌}
use mathlib.Core.Bool.{Bool, true, false}
use Prim.Native.Nat.{ℕ, ◌*◌, ◌<◌, ◌≤◌}
use native.Mathlib.Nat.{mul-le-mul, le_refl}
use native.Mathlib.Omega.{arith}
use lib.ListN.{length}
use borrow.Author.Tests.{le-leb, lt-leb}
use Rattle.lattice.specs.Limits.{most_readings}
use Rattle.lattice.specs.Weight.{W}
use Rattle.index.specs.Indexed.{sparse, finding}
use Rattle.index.proofs.Finding.{to_sparse}
use Rattle.table.specs.Table.{Settings, Table, key, entry}
use Rattle.table.specs.Sound.{sound, indexed, Ranged, Shape}
use Rattle.table.proofs.Refusals.{T_of}
use Rattle.table.proofs.Soundness.{table_searched}
use Rattle.soundness.specs.Inner.{good_rows, Findable, Rows}

module _ (c : Settings) (t : Table) where
  abbrev pub thin : Bool
  thin = sparse (2 * c.C) t.m (entry t)

  -- as the lent index has its places
  pub of_places : {r : Bool} → Shape c t → r ≡ sparse (length t.index) t.m (entry t) → r ≡ thin
  of_places H e = e ∙ ap (λ (n : ℕ). sparse n t.m (entry t)) H.index

  abbrev pub found : Bool
  found = finding c.C t.m (key c t) (entry t)

  -- the slices have the points that are counted
  pub rows_of : Ranged c → Shape c t → t.m ≤ c.C → Rows c.d t.m t.keys t.sums
  rows_of R H m = record {
    d_least = R.d_least;
    d_most = R.d_most;
    few = omega (arith, R.C_most, m);
    stretches = omega (arith, H.keys, mul-le-mul (le_refl c.d) m);
    pairs = omega (arith, H.sums, m);
  }

  pub findable : Ranged c → Shape c t → t.m ≤ c.C → thin ≡ true → Findable c.d c.C t.m t.keys t.index
  findable R H m e = record {
    searchable = table_searched c t R H (to_sparse c.C t.m (entry t) m (T_of e));
    few = (rows_of R H m).few;
    stretches = (rows_of R H m).stretches;
  }

  pub too_many_points : c.C < t.m → false ≡ sound c t
  unfolding sound indexed
  too_many_points h = sym (rw (lt-leb t.m c.C h) refl)

  pub too_many_readings : t.m ≤ c.C → most_readings < t.n → false ≡ sound c t
  unfolding sound indexed
  too_many_readings m h = sym (rw (le-leb t.m c.C m, lt-leb t.n most_readings h) refl)

  module _ (m : t.m ≤ c.C) (n : t.n ≤ most_readings) where
    pub not_thin : thin ≡ false → false ≡ sound c t
    unfolding sound indexed
    not_thin e = sym (rw (le-leb t.m c.C m, le-leb t.n most_readings n, e) refl)

    pub not_found : thin ≡ true → found ≡ false → false ≡ sound c t
    unfolding sound indexed
    not_found e f = sym (rw (le-leb t.m c.C m, le-leb t.n most_readings n, e, f) refl)

    pub by_rows : {r : Bool} {total : ℕ} → thin ≡ true → found ≡ true → total ≡ W c.d c.S * t.n → r ≡ good_rows total c.d t.m t.keys t.sums → r ≡ sound c t
    unfolding sound indexed good_rows
    by_rows e f o g = g ∙ ap (λ (n : ℕ). good_rows n c.d t.m t.keys t.sums) o ∙ sym (rw (le-leb t.m c.C m, le-leb t.n most_readings n, e, f) refl)
