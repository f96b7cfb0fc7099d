-- What a table made of readings holds: at every key what they add there, which at a lattice point is the sum of their weights and the sum of their
-- weights times their values. So it is with each stored point.
use mathlib.Core.Path.{◌≡◌, refl, sym, ap, ◌∙◌}
use mathlib.Core.List.{List, Perm}
use Prim.Native.Nat.{ℕ, ◌<◌}
use lib.IntN.{ℤ}
use lib.ListN.{take}
use Rattle.whole.specs.Sum.{over}
use Rattle.lattice.specs.Lattice.{Point}
use Rattle.table.specs.Table.{Settings, Table, key, row, whole, held, mass_of}
use Rattle.table.specs.Reading.{Reading, shares, mass_from, value_from}
use Rattle.table.proofs.Rows.{value_of, gives, given}
use Rattle.table.proofs.Good.{key_whole}
use Rattle.table.proofs.Soundness.{fine_kept}
use Rattle.table.proofs.Shares.{share_given}
use Rattle.table.proofs.Meaning.{gives_additive, held_given}
use Rattle.blur.proofs.Stored.{fine_readable, own_pair}
use Rattle.promises.specs.Order.{RowFrom}
use Rattle.promises.proofs.Building.{Built}
use Rattle.promises.proofs.Sums.{over_perm}

-- what readings add to a key: of each reading, what its shares give to it
abbrev pub added : ℕ → ℕ → List Reading → List ℤ → ℤ × ℤ
added d S rs k = (over rs (λ r. (given (shares d S r) k).0), over rs (λ r. (given (shares d S r) k).1))

pub added_perm : (d S : ℕ) (rs qs : List Reading) → Perm rs qs → (k : List ℤ) → added d S rs k ≡ added d S qs k
added_perm d S rs qs p k = λ i. (over_perm (λ r. (given (shares d S r) k).0) rs qs p i, over_perm (λ r. (given (shares d S r) k).1) rs qs p i)

-- to that of a lattice point each gives its weight, and its weight times its value
added_at : (d S : ℕ) → 0 < S → (rs : List Reading) (y : List ℤ) → Point d y → added d S rs (take d y) ≡ (mass_from d S rs y, value_from d S rs y)
added_at d S fine rs y Y = λ i. (over rs (λ r. (share_given d S fine r y Y i).0), over rs (λ r. (share_given d S fine r y Y i).1))

module _ (c : Settings) (t : Table) (rs : List Reading) (B : Built c t rs) where
  pub holds_added : (k : List ℤ) → held c t k ≡ added c.d c.S rs k
  holds_added k = held_given c B.fine.ranged.C_least t (fine_kept c t B.fine) k
      ∙ λ i. (B.sums (gives mass_of k) (gives_additive mass_of (λ a b e. refl) k) i, B.sums (gives value_of k) (gives_additive value_of (λ a b e. refl) k) i)

  pub holds_at : (y : List ℤ) → Point c.d y → held c t (take c.d y) ≡ (mass_from c.d c.S rs y, value_from c.d c.S rs y)
  holds_at y Y = holds_added (take c.d y) ∙ added_at c.d c.S B.fine.ranged.S_least rs y Y

  pub row_from : (i : ℕ) → i < t.m → RowFrom c.d c.S rs (row c t i)
  row_from i l =
      let G = B.fine.sound.good i l in
      let e = sym (own_pair c t (fine_readable c t B.fine) i l) ∙ (rw (key_whole c.d (key c t i) G.size) at (holds_at (whole (key c t i)) G.point)) in
      record { point = G.point; mass_is = ap (λ (p : ℤ × ℤ). p.0) e; value_is = ap (λ (p : ℤ × ℤ). p.1) e; some = G.some }
