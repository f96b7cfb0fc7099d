-- The entries of an index, one after the other: whether one is too high, and how many name a point.
use mathlib.Core.Path.{◌≡◌, refl, ap, sym, ◌∙◌}
use mathlib.Core.Bool.{Bool, true, false, cond}
use Prim.Native.Nat.{ℕ, ◌+◌, ◌<◌}
use native.Mathlib.Numerals.{add-one}
use lib.Dec.{eqb, leb}
use Rattle.whole.specs.Sum.{all}
use Rattle.whole.proofs.Tests.{all_stop}
use Rattle.index.specs.Indexed.{count, used, sparse}

module _ (entry : ℕ → ℕ) (m : ℕ) where
  abbrev pub low : ℕ → Bool
  low p = leb (entry p) m

  pub none_low : all 0 low ≡ true
  unfolding all
  none_low = refl

  pub none_named : 0 ≡ count 0 (used entry)
  unfolding count
  none_named = refl

  pub named_more : (i : ℕ) {n : ℕ} → n ≡ count i (used entry) → n + cond (used entry i) 1 0 ≡ count (i + 1) (used entry)
  unfolding count
  named_more i e = ap (λ n. n + cond (used entry i) 1 0) e ∙ ap (λ k. count k (used entry)) (sym (add-one i))

  -- an entry that is too high
  pub sparse_stop : (places i : ℕ) → i < places → low i ≡ false → false ≡ sparse places m entry
  unfolding sparse
  sparse_stop places i h e = sym (rw (all_stop places low i h e) refl)

  -- none is
  pub sparse_done : {places i n : ℕ} → i ≡ places → all i low ≡ true → n ≡ count i (used entry) → eqb n m ≡ sparse places m entry
  unfolding sparse
  sparse_done {places} {i} {n} q e g =
      let h : all places low ≡ true = rw (← q) e in ap (λ n. eqb n m) (g ∙ ap (λ k. count k (used entry)) q) ∙ sym (rw h refl)
