-- The search for a key in lent memory: it may be made, and it ends at a place of the index.
use mathlib.Core.Path.{◌≡◌, refl, sym, ap, subst, ◌∙◌}
use mathlib.Core.List.{List}
use Prim.Native.Nat.{ℕ, ◌*◌, ◌<◌}
use native.Mathlib.Omega.{arith}
use lib.IntN.{ℤ}
use lib.ListN.{length}
use borrow.Author.Tests.{eq-eqb, ne_eqb}
use Rattle.index.specs.Keys.{key_at}
use Rattle.index.specs.Search.{entry_at, search, Searchable}
use Rattle.index.proofs.Finding.{search_lt}
use Rattle.table.specs.Table.{Settings}
use Rattle.table.specs.Pour.{one_if_new}

module _ (d C : ℕ) (keys : List ℤ) (index : List ℕ) (key : List ℤ) (S : Searchable d C keys index) (size : length key ≡ d) where
  pub can_search : Searchable (length key) C keys index
  can_search = subst (λ (d : ℕ). Searchable d C keys index) (sym size) S

  -- the place where it ends
  module _ {p : ℕ} (e : p ≡ search C (key_at (length key) keys) (entry_at index) key) where
    pub place_is : p ≡ search C (key_at d keys) (entry_at index) key
    place_is = e ∙ ap (λ (d : ℕ). search C (key_at d keys) (entry_at index) key) size

    pub place_in : p < 2 * C
    place_in = rw place_is (search_lt C (key_at d keys) (entry_at index) (omega (arith, S.hole_inside)) key)

    pub place_read : p < length index
    place_read = rw S.places place_in

    pub entry_is : entry_at index p ≡ entry_at index (search C (key_at d keys) (entry_at index) key)
    entry_is = ap (entry_at index) place_is

-- whether the key is new
module _ (c : Settings) (keys : List ℤ) (index : List ℕ) (key : List ℤ) (S : Searchable c.d c.C keys index) (size : length key ≡ c.d)
    {p : ℕ} (e : p ≡ search c.C (key_at (length key) keys) (entry_at index) key) where
  at_end : entry_at index p ≡ entry_at index (search c.C (key_at c.d keys) (entry_at index) key)
  at_end = entry_is c.d c.C keys index key S size e

  pub new_one : entry_at index p ≡ 0 → 1 ≡ one_if_new c keys index key
  new_one z = rw (eq-eqb (entry_at index (search c.C (key_at c.d keys) (entry_at index) key)) 0 (sym at_end ∙ z)) refl

  pub new_none : (entry_at index p ≡ 0 → ⊥) → 0 ≡ one_if_new c keys index key
  new_none z = rw (ne_eqb (entry_at index (search c.C (key_at c.d keys) (entry_at index) key)) 0 (λ y. z (at_end ∙ y))) refl
