-- The search for the key of a point, in an index whose entries all name a stretch of the keys.
use mathlib.Core.Path.{◌≡◌, sym, ap, subst, ◌∙◌}
use mathlib.Core.List.{List}
use Prim.Native.Nat.{ℕ, suc, ◌+◌, ◌*◌, ◌<◌, ◌≤◌}
use native.Mathlib.Nat.{mul-le-mul_left}
use native.Mathlib.Omega.{arith}
use lib.IntN.{ℤ}
use lib.ListN.{length}
use Rattle.index.specs.Keys.{key_at}
use Rattle.index.specs.Search.{entry_at, search, Searchable}
use Rattle.index.proofs.Equality.{key_at_length, stretch_fits}
use Rattle.index.proofs.Finding.{search_lt}
use Rattle.soundness.specs.Inner.{Findable, place_of}

-- of m points, each of those before one of them
pub findable_to : (d C m i : ℕ) (keys : List ℤ) (index : List ℕ) → Findable d C m keys index → i < m → Findable d C (suc i) keys index
findable_to d C m i keys index F l = record {
  searchable = F.searchable;
  few = omega (arith, F.few);
  stretches = let h : d * suc i ≤ d * m = mul-le-mul_left d l in omega (arith, F.stretches, h);
}

module _ (d C i : ℕ) (keys : List ℤ) (index : List ℕ) (F : Findable d C (suc i) keys index) where
  pub room : d * i + d ≤ length keys
  room = stretch_fits d i (suc i) (length keys) (omega arith) F.stretches

  module _ {k : List ℤ} (e : k ≡ key_at d keys i) where
    size : length k ≡ d
    size = ap length e ∙ key_at_length d keys i

    pub can_search : Searchable (length k) C keys index
    can_search = subst (λ (d : ℕ). Searchable d C keys index) (sym size) F.searchable

    pub found_at_lem : {r : ℕ} → r ≡ search C (key_at (length k) keys) (entry_at index) k → r ≡ place_of d C keys index i
    found_at_lem f = f ∙ ap (λ (n : ℕ). search C (key_at n keys) (entry_at index) k) size ∙ ap (search C (key_at d keys) (entry_at index)) e

  pub found_in_lem : {r : ℕ} → r ≡ place_of d C keys index i → r < length index
  found_in_lem f = omega (arith, F.searchable.places, f, search_lt C (key_at d keys) (entry_at index) (omega (arith, F.searchable.hole_inside)) (key_at d keys i))
