-- A pair may be raised: the table's masses and the new one together are within those of 4,096 readings, so each pair is small.
use Prim.Native.Nat.{ℕ, ◌<◌}
use native.Mathlib.Omega.{arith}
use Rattle.table.specs.Table.{Settings, Table, Row}
use Rattle.table.specs.Inner.{Addable}
use Rattle.table.proofs.Sizes.{row_small, old_small}
use Rattle.pour.specs.Inner.{Raisable}

pub raisable : (c : Settings) (t : Table) (r : Row) (A : Addable c t r) (i : ℕ) → i < t.m → Raisable t.sums i r.mass r.value
raisable c t r A i l =
    let old = old_small c t r A i l in
    let new = row_small c t r A in
    record {
      inside = omega (arith, A.kept.shape.sums, A.kept.indexed.sparse.room);
      mass_there = record { abs = omega (arith, old.mass_small.abs) };
      value_there = record { abs = omega (arith, old.value_small.abs) };
      mass_more = record { abs = omega (arith, new.mass_small.abs) };
      value_more = record { abs = omega (arith, new.value_small.abs) };
    }
