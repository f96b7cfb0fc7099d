-- Soundness is kept: by accepting rows, hence by entering readings and by merging a table; a fresh table is sound. What each adds to the
-- sums over the rows.
use mathlib.Core.Path.{◌≡◌, refl, sym, ap, ap₂, ◌∙◌, subst}
use mathlib.Core.Bool.{false}
use mathlib.Core.List.{List}
use Prim.Native.Nat.{ℕ, zero, suc, ◌+◌, ◌*◌, ◌≤◌}
use native.Mathlib.Nat.{not-suc-le-zero}
use native.Mathlib.Omega.{arith}
use lib.IntN.{ℤ, pos, ◌+ℤ◌}
use lib.Signed.{◌≤ℤ◌}
use lib.ListN.{length-replicate, get_or-replicate}
use Rattle.whole.specs.Sum.{sum, over}
use Rattle.whole.specs.Lists.{All, Each}
use Rattle.whole.proofs.Parts.{le_out}
use Rattle.lattice.specs.Limits.{most_W, most_readings}
use Rattle.lattice.specs.Weight.{W}
use Rattle.index.specs.Indexed.{count, used}
use Rattle.index.proofs.Count.{count_cong}
use Rattle.index.proofs.Finding.{keys_apart}
use Rattle.table.specs.Table.{Settings, Table, Row, key, row, rows, entry, mass_of, keys_of}
use Rattle.table.specs.Sound.{Good, Ranged, Fine}
use Rattle.table.specs.Pour.{pour, news, accept}
use Rattle.table.specs.Reading.{Reading, shares, entered}
use Rattle.table.specs.Calls.{fresh, merged}
use Rattle.table.proofs.Lists.{all_tab, each_tab}
use Rattle.table.proofs.Rows.{Apart, Additive}
use Rattle.table.proofs.Soundness.{fine_kept, masses_over, total_most}
use Rattle.table.proofs.Pouring.{Pourable, poured_all}
use Rattle.table.proofs.Shares.{Accepted, shares_apart, shares_mass, shares_good}

-- ---- accepting rows
rows_counted : (c : Settings) (t : Table) (rs : List Row) (k : ℕ) → rows c (accept c t rs k) ≡ rows c (pour c t rs)
unfolding rows
rows_counted c t rs k = refl

-- rows that stand for k readings more
pub record Acceptable (c : Settings) (t : Table) (rs : List Row) (k : ℕ) : Type 0 where
  pub fine : Fine c t
  pub good : All (Good c.d) rs
  pub apart : Each Apart rs
  pub room : t.m + news c t (keys_of rs) ≤ c.C
  pub few : t.n + k ≤ most_readings
  pub total : over rs mass_of ≡ pos (W c.d c.S * k)

both : (w a b : ℕ) → pos (w * a) +ℤ pos (w * b) ≡ pos (w * (a + b))
both w a b = let e : w * a + w * b ≡ w * (a + b) = omega arith in ap pos e

pub acceptable_pours : (c : Settings) (t : Table) (rs : List Row) (k : ℕ) → Acceptable c t rs k → Pourable c t rs
acceptable_pours c t rs k A =
    let w = W c.d c.S in
    record {
      ranged = A.fine.ranged;
      kept = fine_kept c t A.fine;
      good = A.good;
      apart = A.apart;
      room = A.room;
      light = subst (λ (z : ℤ). z ≤ℤ pos (most_W * most_readings)) (sym (ap₂ ◌+ℤ◌ (masses_over c t ∙ A.fine.sound.masses) A.total ∙ both w t.n k))
          (le_out (pos (w * (t.n + k))) (pos (most_W * most_readings)) (omega (arith, total_most c (t.n + k) A.fine.ranged A.few)));
    }

-- u is t with k readings more, which add g to each sum over the rows
pub record Adds (c : Settings) (t u : Table) (k : ℕ) (g : (Row → ℤ) → ℤ) : Type 0 where
  pub fine : Fine c u
  pub count : u.n ≡ t.n + k
  pub sums : (f : Row → ℤ) → Additive f → over (rows c u) f ≡ over (rows c t) f +ℤ g f

pub accept_adds : (c : Settings) (t : Table) (rs : List Row) (k : ℕ) → Acceptable c t rs k → Adds c t (accept c t rs k) k (over rs)
accept_adds c t rs k A =
    let O = poured_all c t rs (acceptable_pours c t rs k A) in
    let w = W c.d c.S in
    record {
      fine = record {
        ranged = A.fine.ranged;
        shape = record { keys = O.kept.shape.keys; sums = O.kept.shape.sums; index = O.kept.shape.index };
        sound = record {
          indexed = O.kept.indexed;
          few = omega (arith, O.same_n, A.few);
          good = O.kept.good;
          masses = sym (masses_over c (pour c t rs)) ∙ O.adds mass_of (λ a b e. refl)
              ∙ ap₂ ◌+ℤ◌ (masses_over c t ∙ A.fine.sound.masses) A.total ∙ both w t.n k ∙ ap (λ (n : ℕ). pos (w * (n + k))) (sym O.same_n);
        };
      };
      count = ap (λ (n : ℕ). n + k) O.same_n;
      sums = λ f H. ap (λ (l : List Row). over l f) (rows_counted c t rs k) ∙ O.adds f H;
    }

-- ---- entering a reading
pub reading_acceptable : (c : Settings) (t : Table) (r : Reading) → Fine c t → Accepted c t r → Acceptable c t (shares c.d c.S r) 1
reading_acceptable c t r F A =
    let one : W c.d c.S ≡ W c.d c.S * 1 = omega arith in
    record {
      fine = F;
      good = shares_good c F.ranged r A.position A.fair;
      apart = shares_apart c.d c.S F.ranged.S_least r;
      room = A.room;
      few = A.few;
      total = shares_mass c.d c.S F.ranged.S_least r ∙ ap pos one;
    }

pub entered_adds : (c : Settings) (t : Table) (r : Reading) → Fine c t → Accepted c t r → Adds c t (entered c t r) 1 (over (shares c.d c.S r))
entered_adds c t r F A = accept_adds c t (shares c.d c.S r) 1 (reading_acceptable c t r F A)

-- ---- merging
pub record Mergeable (c : Settings) (t : Table) (b : Settings) (s : Table) : Type 0 where
  pub target : Fine c t
  pub source : Fine b s
  pub same_d : c.d ≡ b.d
  pub same_S : c.S ≡ b.S
  pub few : t.n + s.n ≤ most_readings
  pub room : t.m + news c t (keys_of (rows b s)) ≤ c.C

module _ (b : Settings) (s : Table) (F : Fine b s) where
  pub rows_apart : Each Apart (rows b s)
  unfolding rows
  rows_apart = each_tab Apart s.m (row b s)
      (λ i j h l e. let q = keys_apart b.C s.m (key b s) (entry s) F.ranged.C_least F.sound.indexed i j (omega arith) l e in omega (arith, q))

  pub rows_good : All (Good b.d) (rows b s)
  unfolding rows
  rows_good = all_tab (Good b.d) s.m (row b s) F.sound.good

  pub rows_mass : over (rows b s) mass_of ≡ pos (W b.d b.S * s.n)
  rows_mass = masses_over b s ∙ F.sound.masses

pub source_acceptable : (c : Settings) (t : Table) (b : Settings) (s : Table) → Mergeable c t b s → Acceptable c t (rows b s) s.n
source_acceptable c t b s M = record {
  fine = M.target;
  good = subst (λ (d : ℕ). All (Good d) (rows b s)) (sym M.same_d) (rows_good b s M.source);
  apart = rows_apart b s M.source;
  room = M.room;
  few = M.few;
  total = rows_mass b s M.source ∙ ap₂ (λ (d S : ℕ). pos (W d S * s.n)) (sym M.same_d) (sym M.same_S);
}

pub merged_adds : (c : Settings) (t : Table) (b : Settings) (s : Table) → Mergeable c t b s → Adds c t (merged c t b s) s.n (over (rows b s))
merged_adds c t b s M = accept_adds c t (rows b s) s.n (source_acceptable c t b s M)

-- ---- a fresh table
pub fresh_fine : (c : Settings) → Ranged c → Fine c (fresh c)
unfolding fresh sum count
fresh_fine c G = record {
  ranged = G;
  shape = record { keys = length-replicate (c.d * c.C) (pos 0); sums = length-replicate (2 * c.C) (pos 0); index = length-replicate (2 * c.C) 0 };
  sound = record {
    indexed = record {
      sparse = record {
        room = omega arith;
        low = λ p l. omega (arith, get_or-replicate {A = ℕ} (2 * c.C) p 0 0 l);
        full = count_cong (2 * c.C) (used (entry (fresh c))) (λ p. false) (λ p l. rw (get_or-replicate {A = ℕ} (2 * c.C) p 0 0 l)) ∙ no_place (2 * c.C);
      };
      finds = λ i l. absurd (not-suc-le-zero l);
    };
    few = omega arith;
    good = λ i l. absurd (not-suc-le-zero l);
    masses = ap pos (omega arith);
  };
}
  where
    no_place : (n : ℕ) → count n (λ p. false) ≡ 0
    no_place zero = refl
    no_place (suc n) = rw (no_place n)
