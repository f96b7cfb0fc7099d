-- The pair of a point, found by the search for its key: where the search ends, and what stands there.
use mathlib.Core.Path.{◌≡◌, sym, ap, ◌∙◌}
use mathlib.Core.Bool.{true, false}
use mathlib.Core.List.{List}
use Prim.Native.Nat.{ℕ, suc, ◌+◌, ◌-◌, ◌*◌, ◌<◌}
use native.Mathlib.Omega.{arith}
use lib.IntN.{ℤ, pos}
use lib.ListN.{length}
use borrow.Author.Tests.{lt-ltb, le-ltb}
use Rattle.whole.specs.Lists.{at}
use Rattle.index.specs.Keys.{key_at}
use Rattle.index.specs.Search.{search, Searchable}
use Rattle.index.proofs.Finding.{found_low}
use Rattle.table.specs.Table.{Settings, Table, key, entry, found, pair_at}
use Rattle.table.proofs.Soundness.{table_searched}
use Rattle.pour.proofs.Seeking.{entry_is}
use Rattle.blur.specs.Inner.{Readable, PairIs}

module _ (c : Settings) (t : Table) (y : List ℤ) (R : Readable c t) (size : length y ≡ c.d) where
  pub searched : Searchable c.d c.C t.keys t.index
  searched = table_searched c t R.ranged R.shape R.indexed.sparse

  -- the place where the search ends
  module _ {p : ℕ} (e : p ≡ search c.C (key_at (length y) t.keys) (entry t) y) where
    here : entry t p ≡ found c t y
    here = entry_is c.d c.C t.keys t.index y searched size e

    -- ---- it is empty
    pub none_found : entry t p ≡ 0 → PairIs c t y false (pos 0) (pos 0)
    none_found z =
        let n : found c t y ≡ 0 = sym here ∙ z in
        record { stored_is = sym (le-ltb 0 (found c t y) (omega arith)); mass_is = sym (ap (λ (n : ℕ). (pair_at t.sums n).0) n); value_is = sym (ap (λ (n : ℕ). (pair_at t.sums n).1) n) }

    -- ---- it names a point
    module _ (z : entry t p ≡ 0 → ⊥) where
      named : found c t y ≡ suc (entry t p - 1)
      named = omega (arith, here, z)

      -- whose pair is one of the sheet
      pub pair_in : 2 * (entry t p - 1) + 1 < length t.sums
      pair_in = omega (
        arith,
        R.shape.sums,
        R.indexed.sparse.room,
        found_low c.C t.m (key c t) (entry t) R.ranged.C_least R.indexed.sparse y (entry t p - 1) named,
      )

      pub one_found : {mass value : ℤ} → mass ≡ at t.sums (2 * (entry t p - 1)) → value ≡ at t.sums (2 * (entry t p - 1) + 1) → PairIs c t y true mass value
      one_found f g = record {
        stored_is = sym (lt-ltb 0 (found c t y) (omega (arith, named)));
        mass_is = f ∙ sym (ap (λ (n : ℕ). (pair_at t.sums n).0) named);
        value_is = g ∙ sym (ap (λ (n : ℕ). (pair_at t.sums n).1) named);
      }
