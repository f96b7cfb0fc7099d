-- The point of a slot leaves, or all stays; and so one slot after the other.
use mathlib.Core.Path.{◌≡◌, refl, sym, ap, subst, ◌∙◌}
use mathlib.Core.Logic.{◌≢◌}
use mathlib.Core.Bool.{Bool, true, false, cond}
use mathlib.Core.List.{List, [], ◌∷◌, ◌++◌}
use Prim.Native.Nat.{ℕ, zero, suc, ◌+◌, ◌*◌, ◌-◌, ◌≤◌, ◌<◌}
use native.Mathlib.Numerals.{add-one}
use native.Mathlib.Omega.{arith}
use lib.IntN.{ℤ, pos}
use lib.ListN.{length, replicate, length-replicate}
use Rattle.whole.specs.Lists.{at, splice, collect}
use Rattle.whole.proofs.Tests.{T_true, T_false}
use Rattle.index.specs.Keys.{eq_z, key_at}
use Rattle.index.proofs.Equality.{eq_z_eq, eq_z_refl, stretch_fits}
use Rattle.table.specs.Table.{Settings, Table, key, mass}
use Rattle.table.specs.Sound.{Shape}
use Rattle.table.specs.Pour.{set_pair}
use Rattle.shares.specs.Slots.{slot_keys, keys_to}
use Rattle.book.specs.Withdraw.{point_of, vacated, leave_at}
use Rattle.book.proofs.Vacating.{vacated_shape}
use Rattle.withdraw.specs.Inner.{unindexed, PointsIn, leave_keys}
use Rattle.withdraw.proofs.Downward.{point_down, sought_low}

-- ---- no key, and one key after others
pub leave_none : (c : Settings) (t : Table) (ks : List (List ℤ)) → ks ≡ [] → t ≡ leave_keys c t ks
unfolding leave_keys
leave_none c t ks e = sym (ap (leave_keys c t) e)

leave_append : (c : Settings) (a b : List (List ℤ)) (t : Table) → leave_keys c t (a ++ b) ≡ leave_keys c (leave_keys c t a) b
unfolding leave_keys
leave_append c [] b t = refl
leave_append c (k ∷ a) b t = leave_append c a b (leave_at c t (point_of t.m (key c t) k))

-- ---- one key
module _ (c : Settings) (m : ℕ) (keys sums : List ℤ) (k : List ℤ) (ks : List (List ℤ)) (one : ks ≡ k ∷ []) where
  abbrev here : Table
  here = unindexed m keys sums

  leave_one : {place : ℕ} → place ≡ point_of m (key_at c.d keys) k → leave_keys c here ks ≡ leave_at c here place
  unfolding leave_keys
  leave_one f = ap (leave_keys c here) one ∙ ap (leave_at c here) (sym f)

  -- no point has it
  pub stays_unstored : 0 ≡ point_of m (key_at c.d keys) k → here ≡ leave_keys c here ks
  stays_unstored f = sym (leave_one f)

  -- point i has it
  module _ {i : ℕ} (f : suc i ≡ point_of m (key_at c.d keys) k) where
    pub stays_heavy : mass here i ≢ pos 0 → here ≡ leave_keys c here ks
    stays_heavy n = sym (leave_one f ∙ ap (λ (b : Bool). cond b (vacated c here i) here) (T_false (eq_z (mass here i) (pos 0)) (λ u. n (eq_z_eq (mass here i) (pos 0) u))))

    pub goes : mass here i ≡ pos 0 → {keys' sums' : List ℤ}
        → keys' ≡ splice (splice keys (c.d * i) (key_at c.d keys (m - 1))) (c.d * (m - 1)) (replicate c.d (pos 0))
        → sums' ≡ set_pair (set_pair sums i (at sums (2 * (m - 1))) (at sums (2 * (m - 1) + 1))) (m - 1) (pos 0) (pos 0)
        → unindexed (m - 1) keys' sums' ≡ leave_keys c here ks
    unfolding vacated
    goes z p q = (λ i. unindexed (m - 1) (p i) (q i)) ∙ sym (leave_one f ∙ ap (λ (b : Bool). cond b (vacated c here i) here) (T_true (eq_z (mass here i) (pos 0)) (rw z (eq_z_refl (pos 0)))))

-- ---- what is left has its lengths, and room
pub last_fits : (c : Settings) (t : Table) → PointsIn c t → 0 < t.m → c.d * (t.m - 1) + c.d ≤ length t.keys
last_fits c t P h = stretch_fits c.d (t.m - 1) c.C (length t.keys) (omega (arith, P.room)) (omega (arith, P.keys_size))

vacated_in : (c : Settings) (t : Table) (i : ℕ) → i < t.m → PointsIn c t → PointsIn c (vacated c t i)
unfolding vacated
vacated_in c t i l P = record { d_most = P.d_most; C_most = P.C_most; room = omega (arith, P.room); keys_size = S.keys; sums_size = S.sums }
  where
    -- with an index of its length, which does not matter
    u : Table
    u = record { n = 0; m = t.m; keys = t.keys; sums = t.sums; index = replicate (2 * c.C) 0 }

    S : Shape c (vacated c u i)
    S = vacated_shape c u (record { keys = P.keys_size; sums = P.sums_size; index = length-replicate (2 * c.C) 0 }) P.room i l

leave_in : (c : Settings) (ks : List (List ℤ)) (t : Table) → PointsIn c t → PointsIn c (leave_keys c t ks)
unfolding leave_keys
leave_in c [] t P = P
leave_in c (k ∷ ks) t P = leave_in c ks (leave_at c t (point_of t.m (key c t) k)) (one (point_of t.m (key c t) k) refl)
  where
    one : (e : ℕ) → point_of t.m (key c t) k ≡ e → PointsIn c (leave_at c t e)
    one zero e = P
    one (suc i) e = go (eq_z (mass t i) (pos 0))
      where
        go : (b : Bool) → PointsIn c (cond b (vacated c t i) t)
        go true = vacated_in c t i (sought_low (point_down (key c t) k) t.m i e) P
        go false = P

-- ---- one slot after the other
module _ (c : Settings) (t : Table) (d : ℕ) (ws : List ℕ) (cs : List ℤ) where
  pub slots_none : t ≡ leave_keys c t (keys_to d ws cs 0)
  unfolding keys_to collect
  slots_none = leave_none c t [] refl

  module _ (j p : ℕ) (keys sums : List ℤ) (e : unindexed p keys sums ≡ leave_keys c t (keys_to d ws cs j)) where
    pub slots_in : PointsIn c t → PointsIn c (unindexed p keys sums)
    slots_in P = subst (PointsIn c) (sym e) (leave_in c (keys_to d ws cs j) t P)

    pub slots_more : {u : Table} → u ≡ leave_keys c (unindexed p keys sums) (slot_keys d ws cs j) → u ≡ leave_keys c t (keys_to d ws cs (j + 1))
    unfolding keys_to collect
    slots_more f = f ∙ ap (λ (w : Table). leave_keys c w (slot_keys d ws cs j)) e ∙ sym (ap (leave_keys c t) more ∙ leave_append c (keys_to d ws cs j) (slot_keys d ws cs j) t)
      where
        more : keys_to d ws cs (j + 1) ≡ keys_to d ws cs j ++ slot_keys d ws cs j
        more = rw add-one

    pub slots_all : (n : ℕ) → j ≡ n → unindexed p keys sums ≡ leave_keys c t (keys_to d ws cs n)
    slots_all n q = e ∙ ap (λ (i : ℕ). leave_keys c t (keys_to d ws cs i)) q
