-- Points named one after the other: what naming one asks, and what it makes of the index.
use mathlib.Core.Path.{◌≡◌, sym, ap, ◌∙◌}
use mathlib.Core.List.{List}
use Prim.Native.Nat.{ℕ, suc, ◌+◌, ◌*◌, ◌≤◌, ◌<◌}
use native.Mathlib.Omega.{arith}
use native.Mathlib.Numerals.{add-one}
use lib.IntN.{ℤ}
use lib.ListN.{length, set, replicate}
use Rattle.index.specs.Keys.{key_at}
use Rattle.index.specs.Search.{entry_at, search, Searchable}
use Rattle.index.proofs.Equality.{key_at_length, stretch_fits}
use Rattle.index.proofs.Steps.{searchable}
use Rattle.pour.proofs.Seeking.{can_search, place_is, place_read}
use Rattle.book.specs.Withdraw.{afresh}
use Rattle.book.proofs.Afresh.{afresh_length, afresh_indexed}
use Rattle.withdraw.specs.Inner.{Nameable, Renameable}

-- ---- point i: the part of the keys that is lent to the search is its key k
module _ (d C i : ℕ) (keys : List ℤ) (index : List ℕ) (N : Nameable d C i keys index) where
  pub stretch_in : d * i + d ≤ length keys
  stretch_in = stretch_fits d i C (length keys) N.room (omega (arith, N.stretches))

  module _ {k : List ℤ} (e : k ≡ key_at d keys i) where
    size : length k ≡ d
    size = ap length e ∙ key_at_length d keys i

    pub to_search : Searchable (length k) C keys index
    to_search = can_search d C keys index k N.searchable size

    module _ {r : ℕ} (f : r ≡ search C (key_at (length k) keys) (entry_at index) k) where
      pub named_at : r ≡ search C (key_at d keys) (entry_at index) (key_at d keys i)
      named_at = place_is d C keys index k N.searchable size f ∙ ap (search C (key_at d keys) (entry_at index)) e

      pub named_in : r < length index
      named_in = place_read d C keys index k N.searchable size f

-- ---- one after the other
module _ (d C m : ℕ) (keys : List ℤ) (index : List ℕ) (R : Renameable d C m keys index) where
  -- the index of the first i points
  abbrev named : ℕ → List ℕ
  named i = afresh C (key_at d keys) i

  pub nameable : {index' : List ℕ} (i : ℕ) → i < m → index' ≡ named i → Nameable d C i keys index'
  nameable i l e = rw e (record {
    searchable = searchable d C i keys (named i) R.C_least R.C_most (afresh_length C R.C_least (key_at d keys) i) R.stretches
        (afresh_indexed C R.C_least (key_at d keys) i (omega (arith, R.room)) (λ j k p q h. R.apart j k (omega arith) (omega arith) h)).sparse;
    room = omega (arith, R.room);
    stretches = R.stretches;
  })

  pub named_none : {index' : List ℕ} → index' ≡ replicate (length index) 0 → index' ≡ named 0
  unfolding afresh
  named_none e = e ∙ ap (λ (n : ℕ). replicate n 0) R.places

  pub named_more : {index' index'' : List ℕ} (i : ℕ) → index' ≡ named i → index'' ≡ set index' (search C (key_at d keys) (entry_at index') (key_at d keys i)) (suc i) → index'' ≡ named (i + 1)
  unfolding afresh
  named_more i e f = f ∙ ap (λ (l : List ℕ). set l (search C (key_at d keys) (entry_at l) (key_at d keys i)) (suc i)) e ∙ ap named (sym (add-one i))

  -- it has as many places as the one before
  pub named_length : {index' : List ℕ} (i : ℕ) → index' ≡ named i → length index' ≡ length index
  named_length i e = ap length e ∙ afresh_length C R.C_least (key_at d keys) i ∙ sym R.places
