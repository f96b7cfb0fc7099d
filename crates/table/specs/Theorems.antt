-- What is true of tables. Statements: the proofs stand in proofs/.
use Rattle.std.specs.Prelude.{◌≡◌, ◌↔◌, List, ℕ, suc, ◌*◌, ◌<◌, T, ℤ, pos, ◌+ℤ◌, ◌≤ℤ◌}
use Rattle.whole.specs.Size.{Abs≤}
use Rattle.lattice.specs.Limits.{most_value, most_readings, most_W}
use Rattle.table.specs.Table.{Settings, Table, key, mass, value, entry, found, held}
use Rattle.table.specs.Sound.{Fine}
use Rattle.table.specs.Calls.{ranged, fresh}

-- in a sound table searching for a key finds exactly the point that has it
abbrev pub SearchFinds : Type 0
SearchFinds = (c : Settings) (t : Table) → Fine c t → (k : List ℤ) (i : ℕ) → (found c t k ≡ suc i) ↔ ((i < t.m) × (key c t i ≡ k))

-- an empty place exists
abbrev pub EmptyFound : Type 0
EmptyFound = (c : Settings) (t : Table) → Fine c t → (p : ℕ) × (p < 2 * c.C) × (entry t p ≡ 0)

-- soundness is kept: a fresh table has it
abbrev pub FreshSound : Type 0
FreshSound = (c : Settings) → T (ranged c) → Fine c (fresh c)

-- two pairs added
abbrev pub plus : ℤ × ℤ → ℤ × ℤ → ℤ × ℤ
plus p q = (p.0 +ℤ q.0, p.1 +ℤ q.1)

-- a fresh table holds nothing
abbrev pub FreshHolds : Type 0
FreshHolds = (c : Settings) → T (ranged c) → (k : List ℤ) → held c (fresh c) k ≡ (pos 0, pos 0)

-- a point is stored exactly when its mass is above 0
abbrev pub StoredExactly : Type 0
StoredExactly = (c : Settings) (t : Table) → Fine c t → (k : List ℤ) → (0 < found c t k) ↔ (pos 1 ≤ℤ (held c t k).0)

-- "These limits keep every sum in 64 bits": no mass passes 384·4,096, and no value sum a million times that
pub record Small (t : Table) (i : ℕ) : Type 0 where
  pub mass_small : Abs≤ (mass t i) (most_W * most_readings)
  pub value_small : Abs≤ (value t i) (most_value * (most_W * most_readings))

abbrev pub SumsSmall : Type 0
SumsSmall = (c : Settings) (t : Table) → Fine c t → (i : ℕ) → i < t.m → Small t i
