-- What a table whose points are found has at a point: a stored point's own pair, and 0 elsewhere.
use mathlib.Core.Path.{◌≡◌, refl, ap, subst}
use mathlib.Core.Bool.{true, false}
use mathlib.Core.List.{List}
use Prim.Native.Nat.{ℕ, zero, suc, ◌+◌, ◌*◌, ◌<◌}
use native.Mathlib.Omega.{arith}
use lib.Dec.{T, ltb, lt→ltb}
use lib.IntN.{ℤ, pos}
use lib.ListN.{length}
use borrow.Author.Tests.{lt-ltb}
use Rattle.whole.specs.Size.{Abs≤}
use Rattle.whole.specs.Lists.{at}
use Rattle.index.proofs.Finding.{found_low}
use Rattle.table.specs.Table.{Settings, Table, key, mass, value, entry, found, pair_at, held}
use Rattle.table.specs.Sound.{Fine}
use Rattle.blur.specs.Blur.{is_stored, masses, values}
use Rattle.blur.specs.Sheet.{with_sums}
use Rattle.blur.specs.Inner.{Readable}

-- ---- which tables these are
pub fine_readable : (c : Settings) (t : Table) → Fine c t → Readable c t
fine_readable c t F = record { ranged = F.ranged; shape = F.shape; indexed = F.sound.indexed }

-- a sheet in place of the sums changes nothing of it
pub sheet_readable : (c : Settings) (t : Table) (sheet : List ℤ) → Readable c t → length sheet ≡ 2 * c.C → Readable c (with_sums t sheet)
sheet_readable c t sheet R e = record { ranged = R.ranged; shape = record { keys = R.shape.keys; sums = e; index = R.shape.index }; indexed = R.indexed }

-- ---- what is held
-- what is not stored has the pair of 0
pub not_stored : (c : Settings) (t : Table) (y : List ℤ) → is_stored c t y ≡ false → held c t y ≡ (pos 0, pos 0)
not_stored c t y = go (found c t y)
  where
    go : (e : ℕ) → ltb 0 e ≡ false → pair_at t.sums e ≡ (pos 0, pos 0)
    go zero h = refl
    go (suc i) h = absurd (subst T h (lt→ltb 0 (suc i) (omega arith)))

module _ (c : Settings) (t : Table) (R : Readable c t) where
  pub own_stored : (i : ℕ) → i < t.m → is_stored c t (key c t i) ≡ true
  own_stored i l = lt-ltb 0 (found c t (key c t i)) (omega (arith, R.indexed.finds i l))

  pub own_pair : (i : ℕ) → i < t.m → held c t (key c t i) ≡ (mass t i, value t i)
  own_pair i l = ap (pair_at t.sums) (R.indexed.finds i l)

  -- what holds of 0 and of the pairs of the stored points holds of the pair of every point
  pub every_pair : (Q : ℤ → ℤ → Type 0) → Q (pos 0) (pos 0) → ((i : ℕ) → i < t.m → Q (mass t i) (value t i)) → (y : List ℤ) → Q (masses c t y) (values c t y)
  every_pair Q z h y = go (found c t y) refl
    where
      go : (e : ℕ) → found c t y ≡ e → Q (pair_at t.sums e).0 (pair_at t.sums e).1
      go zero p = z
      go (suc i) p = h i (found_low c.C t.m (key c t) (entry t) R.ranged.C_least R.indexed.sparse y i p)

  -- where no number of the sheet is greater than B, none that is held is
  pub held_small : (B : ℕ) → ((j : ℕ) → Abs≤ (at t.sums j) B) → (y : List ℤ) → Abs≤ (masses c t y) B × Abs≤ (values c t y) B
  held_small B h = every_pair (λ m v. Abs≤ m B × Abs≤ v B) (record { abs = omega arith }, record { abs = omega arith }) (λ i l. (h (2 * i), h (2 * i + 1)))
