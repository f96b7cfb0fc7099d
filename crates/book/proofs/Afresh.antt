-- The index that entering points afresh by number makes finds each of them, where no two have one key.
use mathlib.Core.Path.{◌≡◌, refl, ◌∙◌}
use mathlib.Core.List.{List}
use Prim.Native.Nat.{ℕ, zero, suc, ◌*◌, ◌≤◌, ◌<◌}
use native.Mathlib.Nat.{not-suc-le-zero}
use native.Mathlib.Omega.{arith}
use lib.IntN.{ℤ}
use lib.ListN.{length, length-set, length-replicate, get_or-replicate}
use lib.Seq.{get_or-set_same, get_or-set_other}
use Rattle.index.specs.Search.{entry_at, search}
use Rattle.index.specs.Indexed.{used, Indexed}
use Rattle.index.proofs.Finding.{search_lt, found_low, found_key, new_point_found}
use Rattle.book.specs.Withdraw.{afresh}
use Rattle.book.proofs.Lowest.{count_none}

module _ (C : ℕ) (some : 0 < C) (key : ℕ → List ℤ) where
  -- where point i is put
  abbrev place : ℕ → ℕ
  place i = search C key (entry_at (afresh C key i)) (key i)

  pub afresh_length : (m : ℕ) → length (afresh C key m) ≡ 2 * C
  unfolding afresh
  afresh_length zero = length-replicate (2 * C) 0
  afresh_length (suc i) = length-set (afresh C key i) (place i) (suc i) ∙ afresh_length i

  -- no two of the first m keys are one
  abbrev pub KeysApart : ℕ → Type 0
  KeysApart m = (i j : ℕ) → i < m → j < m → key i ≡ key j → i ≡ j

  none_indexed : Indexed C 0 key (entry_at (afresh C key 0))
  unfolding afresh
  none_indexed = record {
    sparse = record {
      room = omega arith;
      low = λ p l. omega (arith, get_or-replicate {A = ℕ} (2 * C) p 0 0 l);
      full = count_none (2 * C) (used (entry_at (afresh C key 0))) (λ p l. rw (get_or-replicate {A = ℕ} (2 * C) p 0 0 l));
    };
    finds = λ i l. absurd (not-suc-le-zero l);
  }

  one_more_lem : (i : ℕ) → suc i ≤ C → KeysApart (suc i) → Indexed C i key (entry_at (afresh C key i)) → Indexed C (suc i) key (entry_at (afresh C key (suc i)))
  unfolding afresh
  one_more_lem i h apart I =
      new_point_found C i key (entry_at (afresh C key i)) some I (key i) key (entry_at (afresh C key (suc i))) (empty (entry_at (afresh C key i) (place i)) refl) h
      (λ j l. refl) refl
      (get_or-set_same (afresh C key i) (place i) (suc i) 0 (omega (arith, afresh_length i, search_lt C key (entry_at (afresh C key i)) some (key i))))
      (λ q n. get_or-set_other (afresh C key i) (place i) q (suc i) 0 n)
    where
      -- none of the points before has its key
      empty : (e : ℕ) → entry_at (afresh C key i) (place i) ≡ e → entry_at (afresh C key i) (place i) ≡ 0
      empty zero e = e
      empty (suc j) e =
          let l = found_low C i key (entry_at (afresh C key i)) some I.sparse (key i) j e in
          let k = apart j i (omega arith) (omega arith) (found_key C i key (entry_at (afresh C key i)) some I.sparse (key i) j e) in
          absurd (omega arith)

  pub afresh_indexed : (m : ℕ) → m ≤ C → KeysApart m → Indexed C m key (entry_at (afresh C key m))
  afresh_indexed zero h apart = none_indexed
  afresh_indexed (suc i) h apart = one_more_lem i h apart (afresh_indexed i (omega arith) (λ j k p q e. apart j k (omega arith) (omega arith) e))
