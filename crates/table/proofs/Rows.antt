-- Rows: two pairs for one point joined, and what a list of rows gives to a key.
use mathlib.Core.Path.{◌≡◌}
use mathlib.Core.Logic.{◌≢◌}
use mathlib.Core.List.{List}
use lib.IntN.{ℤ, ◌+ℤ◌}
use Rattle.whole.specs.Sum.{over}
use Rattle.whole.proofs.Sum.{pick}
use Rattle.index.specs.Keys.{same}
use Rattle.table.specs.Table.{Row, mass_of}

pub row_eq : (a b : Row) → a.key ≡ b.key → a.mass ≡ b.mass → a.value ≡ b.value → a ≡ b
row_eq a b p q s = λ i. record { key = p i; mass = q i; value = s i }

-- two pairs for one point
abbrev pub join : Row → Row → Row
join a b = record { key = a.key; mass = a.mass +ℤ b.mass; value = a.value +ℤ b.value }

-- rows of different points
abbrev pub Apart : Row → Row → Type 0
Apart a b = a.key ≢ b.key

abbrev pub value_of : Row → ℤ
value_of r = r.value

-- a sum over rows in which two pairs for one point may be joined
abbrev pub Additive : (Row → ℤ) → Type 0
Additive f = (a b : Row) → a.key ≡ b.key → f (join a b) ≡ f a +ℤ f b

-- what a row gives to a key
abbrev pub gives : (Row → ℤ) → List ℤ → Row → ℤ
gives f k a = pick (same a.key k) (f a)

-- the pair that a list of rows gives to a key
abbrev pub given : List Row → List ℤ → ℤ × ℤ
given l k = (over l (gives mass_of k), over l (gives value_of k))

pub pair_path : (a b x y : ℤ) → a ≡ x → b ≡ y → ◌≡◌ {A = ℤ × ℤ} (a, b) (x, y)
pair_path a b x y p q = λ i. (p i, q i)
