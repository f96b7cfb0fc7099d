-- A fresh table carries no reading, an entered reading is carried behind the others, and a merged table's readings behind those of the target.
use mathlib.Core.Path.{◌≡◌, refl, sym, ap, subst, ◌∙◌}
use mathlib.Core.List.{List, [], ◌∷◌, ◌++◌, map-append}
use Prim.Native.Nat.{ℕ, ◌+◌}
use lib.IntN.{ℤ, pos, +ℤ_idr, ◌*ℤ◌}
use lib.ListN.{take, length-append}
use Rattle.whole.specs.Sum.{over}
use Rattle.whole.specs.Lists.{at, All, Each}
use Rattle.whole.proofs.Sum.{over_append}
use Rattle.lattice.specs.Lattice.{Point}
use Rattle.lattice.specs.Weight.{weight}
use Rattle.table.specs.Table.{Settings, Table, rows, held}
use Rattle.table.specs.Sound.{Fine, Ranged}
use Rattle.table.specs.Reading.{Reading, shares, entered, mass_from, value_from, Lawful}
use Rattle.table.specs.Calls.{fresh, merged}
use Rattle.table.specs.Theorems.{plus}
use Rattle.table.proofs.Lists.{all_append}
use Rattle.table.proofs.Rows.{given}
use Rattle.table.proofs.Soundness.{fine_kept, of_ranged}
use Rattle.table.proofs.Shares.{Accepted, share_given}
use Rattle.table.proofs.Keeping.{accept_adds, reading_acceptable, Mergeable, merged_adds}
use Rattle.table.proofs.Meaning.{held_given, adds_held}
use Rattle.table.proofs.Theorems.{fresh_holds}
use Rattle.book.specs.Book.{Numbered, readings_of, OtherNumber, Carries}

-- ---- two lists one after the other
module _ {A : Type 0} where
  each_both : (R : A → A → Type 0) (a b : List A) → Each R a → Each R b → All (λ x. All (R x) b) a → Each R (a ++ b)
  each_both R [] b h g k = g
  each_both R (x ∷ a) b h g k = (all_append (R x) a b h.0 k.0, each_both R a b h.1 g k.1)

module _ (d S : ℕ) (a b : List Numbered) (y : List ℤ) where
  both_from : (mass_from d S (readings_of (a ++ b)) y, value_from d S (readings_of (a ++ b)) y)
      ≡ plus (mass_from d S (readings_of a) y, value_from d S (readings_of a) y) (mass_from d S (readings_of b) y, value_from d S (readings_of b) y)
  both_from = ap (λ (rs : List Reading). (mass_from d S rs y, value_from d S rs y)) (map-append (λ (e : Numbered). e.reading) a b)
      ∙ λ i. (over_append (readings_of a) (readings_of b) (λ r. pos (weight d S (at r.position) (at y))) i, over_append (readings_of a) (readings_of b) (λ r. pos (weight d S (at r.position) (at y)) *ℤ r.value) i)

-- ---- a fresh table
pub fresh_carries : (c : Settings) → Ranged c → Carries c (fresh c) []
unfolding fresh over
fresh_carries c G = record { counts = refl; limits = tt; apart = tt; sums = λ y Y. fresh_holds c (of_ranged c G) (take c.d y) }

-- ---- a reading entered, of a number that no other has
pub entered_carries : (c : Settings) (t : Table) (es : List Numbered) (e : Numbered) → Fine c t → Carries c t es → Accepted c t e.reading → All (λ x. OtherNumber x e) es
    → Carries c (entered c t e.reading) (es ++ (e ∷ []))
unfolding over
entered_carries c t es e F K A new =
    let r = e.reading in
    let R = accept_adds c t (shares c.d c.S r) 1 (reading_acceptable c t r F A) in
    record {
      counts = R.count ∙ ap (λ (n : ℕ). n + 1) K.counts ∙ sym (length-append es (e ∷ []));
      limits = all_append (λ e. Lawful c.d e.reading) es (e ∷ []) K.limits (record { position = A.position; fair = A.fair }, tt);
      apart = each_both OtherNumber es (e ∷ []) K.apart (tt, tt) (alone es new);
      sums = λ y Y. adds_held c t (entered c t r) F 1 (over (shares c.d c.S r)) R (take c.d y)
          ∙ ap (λ (p : ℤ × ℤ). plus p (given (shares c.d c.S r) (take c.d y))) (K.sums y Y)
          ∙ ap (plus (mass_from c.d c.S (readings_of es) y, value_from c.d c.S (readings_of es) y)) (share_given c.d c.S F.ranged.S_least r y Y ∙ one r y)
          ∙ sym (both_from c.d c.S es (e ∷ []) y);
    }
  where
    alone : (es : List Numbered) → All (λ x. OtherNumber x e) es → All (λ x. All (OtherNumber x) (e ∷ [])) es
    alone [] h = tt
    alone (x ∷ es) h = ((h.0, tt), alone es h.1)

    one : (r : Reading) (y : List ℤ) → let w = pos (weight c.d c.S (at r.position) (at y)) in
        ◌≡◌ {A = ℤ × ℤ} (w, w *ℤ r.value) (mass_from c.d c.S (r ∷ []) y, value_from c.d c.S (r ∷ []) y)
    one r y = let w = pos (weight c.d c.S (at r.position) (at y)) in λ i. (sym (+ℤ_idr w) i, sym (+ℤ_idr (w *ℤ r.value)) i)

-- ---- a table merged in, of numbers that the target has not
pub merged_carries : (c : Settings) (t : Table) (b : Settings) (s : Table) (es fs : List Numbered) → Carries c t es → Carries b s fs → Mergeable c t b s
    → All (λ x. All (OtherNumber x) fs) es → Carries c (merged c t b s) (es ++ fs)
merged_carries c t b s es fs K J M new =
    let R = merged_adds c t b s M in
    let d = sym M.same_d in
    record {
      counts = R.count ∙ (λ i. K.counts i + J.counts i) ∙ sym (length-append es fs);
      limits = all_append (λ e. Lawful c.d e.reading) es fs K.limits (subst (λ (d : ℕ). All (λ e. Lawful d e.reading) fs) d J.limits);
      apart = each_both OtherNumber es fs K.apart J.apart new;
      sums = λ y Y. adds_held c t (merged c t b s) M.target s.n (over (rows b s)) R (take c.d y)
          ∙ ap (plus (held c t (take c.d y))) (sym (held_given b M.source.ranged.C_least s (fine_kept b s M.source) (take c.d y)) ∙ source y Y)
          ∙ ap (λ (p : ℤ × ℤ). plus p (mass_from c.d c.S (readings_of fs) y, value_from c.d c.S (readings_of fs) y)) (K.sums y Y)
          ∙ sym (both_from c.d c.S es fs y);
    }
  where
    source : (y : List ℤ) → Point c.d y → held b s (take c.d y) ≡ (mass_from c.d c.S (readings_of fs) y, value_from c.d c.S (readings_of fs) y)
    source y Y = rw (M.same_d, M.same_S) (J.sums y (subst (λ (d : ℕ). Point d y) M.same_d Y))
