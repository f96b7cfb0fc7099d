-- A reading's weights subtracted, and its points gone that have no mass.
use mathlib.Core.Path.{◌≡◌, refl, sym, ap, ap₂, ◌∙◌}
use mathlib.Core.Bool.{Bool, true, false, cond}
use mathlib.Core.List.{List, [], ◌∷◌, map}
use Prim.Native.Nat.{ℕ, zero, suc, ◌+◌, ◌-◌, ◌<◌}
use native.Mathlib.Omega.{arith}
use lib.IntN.{ℤ, pos}
use lib.ListN.{length, take, drop}
use Rattle.whole.specs.Lists.{All}
use Rattle.index.specs.Keys.{eq_z}
use Rattle.simplex.specs.Slots.{Encloses, Placed}
use Rattle.table.specs.Table.{Settings, Table, Row, key, mass, keys_of, found}
use Rattle.table.specs.Pour.{raise, add_at, pour}
use Rattle.table.specs.Reading.{reading_of, shares}
use Rattle.table.proofs.Limits.{of_lawful}
use Rattle.shares.specs.Slots.{keys_to, Arrays}
use Rattle.shares.proofs.Simplex.{enclosable, arrays, slots_keys}
use Rattle.book.specs.Withdraw.{negated, lowered, point_of, vacated, leave_at, leave}
use Rattle.book.proofs.Testing.{news_none}
use Rattle.book.proofs.Lowering.{raised}
use Rattle.withdraw.specs.Inner.{unindexed, PointsIn, leave_keys, Lowerable}
use Rattle.withdraw.proofs.Opposite.{negated_found}

-- ---- leaving looks at keys and sums alone
leave_keys_lem : (c : Settings) (rs : List Row) (t : Table) → leave_keys c t (keys_of rs) ≡ leave c t rs
unfolding leave_keys leave
leave_keys_lem c [] t = refl
leave_keys_lem c (r ∷ rs) t = leave_keys_lem c rs (leave_at c t (point_of t.m (key c t) r.key))

-- the points of w beside the readings and the index of t
abbrev beside : Table → Table → Table
beside t w = record { n = t.n; m = w.m; keys = w.keys; sums = w.sums; index = t.index }

beside_one : (c : Settings) (t w : Table) (e : ℕ) → leave_at c (beside t w) e ≡ beside t (leave_at c w e)
unfolding vacated
beside_one c t w zero = refl
beside_one c t w (suc i) = go (eq_z (mass w i) (pos 0))
  where
    go : (b : Bool) → cond b (vacated c (beside t w) i) (beside t w) ≡ beside t (cond b (vacated c w i) w)
    go true = refl
    go false = refl

beside_all : (c : Settings) (ks : List (List ℤ)) (t w : Table) → leave_keys c (beside t w) ks ≡ beside t (leave_keys c w ks)
unfolding leave_keys
beside_all c [] t w = refl
beside_all c (k ∷ ks) t w = let e = point_of w.m (key c w) k in ap (λ (u : Table). leave_keys c u ks) (beside_one c t w e) ∙ beside_all c ks t (leave_at c w e)

-- ---- rows of stored points change the sums alone
pour_stored : (c : Settings) (rs : List Row) (t : Table) → All (λ r. 0 < found c t r.key) rs → pour c t rs ≡ beside t (unindexed t.m t.keys (pour c t rs).sums)
unfolding pour raise
pour_stored c [] t h = refl
pour_stored c (r ∷ rs) t h = go (found c t r.key) refl (λ i. pour_stored c rs (raise t i r))
  where
    go : (e : ℕ) → found c t r.key ≡ e
        → ((i : ℕ) → All (λ s. 0 < found c t s.key) rs → pour c (raise t i r) rs ≡ beside t (unindexed t.m t.keys (pour c (raise t i r) rs).sums))
        → pour c (add_at c t r e) rs ≡ beside t (unindexed t.m t.keys (pour c (add_at c t r e) rs).sums)
    go zero e ih = absurd (omega (arith, h.0, e))
    go (suc i) e ih = ih i h.1

-- ---- both
module _ (c : Settings) (t : Table) (l : List ℤ) (Q : Lowerable c t l) where
  abbrev rs : List Row
  rs = shares c.d c.S (reading_of c.d l)

  all_found : All (λ r. 0 < found c t r.key) (map negated rs)
  all_found = negated_found c t Q.fine.ranged.C_least Q.fine.sound.indexed.sparse rs (news_none c t rs Q.stored)

  pub can_enclose : Placed c.d c.S (take (c.d + 1 - 0) (drop 0 l))
  can_enclose = enclosable c l Q.fine.ranged Q.size (of_lawful (reading_of c.d l) c.d Q.lawful)

  module _ {sums : List ℤ} (s : sums ≡ (lowered c t rs).sums) where
    pub points_in : PointsIn c (unindexed t.m t.keys sums)
    points_in = record {
      d_most = Q.fine.ranged.d_most;
      C_most = Q.fine.ranged.C_most;
      room = Q.fine.sound.indexed.sparse.room;
      keys_size = Q.fine.shape.keys;
      sums_size = ap length s ∙ (raised c Q.fine.ranged.C_least (map negated rs) t (record { shape = Q.fine.shape; indexed = Q.fine.sound.indexed }) all_found).shape.sums;
    }

    module _ {ws : List ℕ} {cs : List ℤ} (E : Encloses c.d c.S (take (c.d + 1 - 0) (drop 0 l)) ws cs) where
      pub the_arrays : Arrays ws cs
      the_arrays = arrays c (take (c.d + 1 - 0) (drop 0 l)) ws cs Q.fine.ranged E

      pub unpoured : {w : Table} → w ≡ leave_keys c (unindexed t.m t.keys sums) (keys_to c.d ws cs (suc c.d)) → beside t w ≡ leave c (lowered c t rs) rs
      unpoured e = ap (beside t) (e ∙ ap₂ (λ (z : List ℤ) (ks : List (List ℤ)). leave_keys c (unindexed t.m t.keys z) ks) s (slots_keys c l ws cs Q.fine.ranged Q.size E))
          ∙ sym (ap (λ (u : Table). leave c u rs) (pour_stored c (map negated rs) t all_found) ∙ sym (leave_keys_lem c rs (beside t low)) ∙ beside_all c (keys_of rs) t low)
        where
          low : Table
          low = unindexed t.m t.keys (lowered c t rs).sums
