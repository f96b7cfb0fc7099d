-- Readings of a log without numbers get 0, 1, 2 and so on: where n readings have the numbers below n, the lowest that none has is n.
use mathlib.Core.Path.{◌≡◌, refl, sym, ap, subst, ◌∙◌}
use mathlib.Core.Logic.{◌⊎◌, inl, inr}
use mathlib.Core.List.{List, [], ◌∷◌, ◌++◌, map-append, append-nil, append_assoc}
use Prim.Native.Nat.{ℕ, ◌+◌, ◌≤◌, ◌<◌}
use native.Mathlib.Nat.{eq-or-lt_of_le, not-suc-le-zero}
use native.Mathlib.Omega.{arith}
use lib.IntN.{ℤ, pos, nat_abs}
use lib.ListN.{length, get_or, length-map, length-append, get_or-append}
use Rattle.whole.specs.Lists.{at, All, Each}
use Rattle.whole.proofs.Lists.{past}
use Rattle.table.proofs.Lists.{each_list}
use Rattle.book.specs.Book.{Numbered, OtherNumber}
use Rattle.book.proofs.Testing.{at_among}
use Rattle.numbers.proofs.Held.{below_on, all_tried}
use Rattle.reader.specs.Content.{Given, Brought, unnumbered}
use Rattle.load.specs.Loading.{with_number}
use Rattle.load.specs.Numbering.{numbers_of, lowest_among, entry_among, numbering}
use Rattle.promises.specs.Acceptance.{UnnumberedApart}
use Rattle.promises.proofs.Sorted.{map_at}

-- entries that have the numbers 0, 1, 2 and so on
abbrev Counted : List Numbered → Type 0
Counted es = (i : ℕ) → i < length es → at (numbers_of es) i ≡ pos i

lowest_counted : (es : List Numbered) → Counted es → lowest_among es ≡ length es
unfolding lowest_among
lowest_counted es h =
    let n = length es in
    let f = at (numbers_of es) in
    let most : n ≤ n = omega arith in
    below_on n f n most (λ k l. at_among n f (pos k) k l (h k l)) ∙ all_tried n f n refl

-- one more without a number
module _ (es : List Numbered) (h : Counted es) (r : Brought) (u : r.given ≡ unnumbered) where
  abbrev e : Numbered
  e = entry_among es r

  number_is : e.number ≡ pos (length es)
  number_is = ap (λ (g : Given). (with_number (lowest_among es) (record { given = g; reading = r.reading })).number) u ∙ ap pos (lowest_counted es h)

  counted_more : Counted (es ++ (e ∷ []))
  counted_more i l =
      let most : i ≤ length es = omega (arith, l, length-append es (e ∷ [])) in
      ap (λ (ks : List ℤ). at ks i) (map-append (λ (x : Numbered). x.number) es (e ∷ [])) ∙ go (eq-or-lt_of_le most)
    where
      sizes : length (numbers_of es) ≡ length es
      sizes = length-map es (λ (x : Numbered). x.number)

      go : (i ≡ length es) ⊎ (i < length es) → at (numbers_of es ++ (e.number ∷ [])) i ≡ pos i
      go (inl q) = let z : i ≡ length es + 0 = omega arith in ap (at (numbers_of es ++ (e.number ∷ []))) z ∙ past (numbers_of es) (e.number ∷ []) (length es) 0 (pos 0) sizes ∙ number_is ∙ ap pos (sym q)
      go (inr k) = get_or-append (numbers_of es) (e.number ∷ []) (pos 0) i (omega (arith, k, sizes)) ∙ h i k

all_counted : (rs : List Brought) (es : List Numbered) → All (λ r. r.given ≡ unnumbered) rs → Counted es → Counted (es ++ numbering es rs)
unfolding numbering
all_counted [] es u h = subst Counted (sym (append-nil es)) h
all_counted (r ∷ rs) es (q, u) h =
    subst Counted (append_assoc es (entry_among es r ∷ []) (numbering (es ++ (entry_among es r ∷ [])) rs)) (all_counted rs (es ++ (entry_among es r ∷ [])) u (counted_more es h r q))

-- two of these are not one
counted_apart : (es : List Numbered) → Counted es → Each OtherNumber es
counted_apart es h = each_list OtherNumber es none (λ i j l k q.
    let a : i < length es = omega arith in
    let same : i ≡ j = ap nat_abs (sym (number_at_lem i a) ∙ q ∙ number_at_lem j k) in
    omega (arith, l, same))
  where
    none : Numbered
    none = record { number = pos 0; reading = record { position = []; value = pos 0 } }

    number_at_lem : (i : ℕ) → i < length es → (get_or es i none).number ≡ pos i
    number_at_lem i l = sym (map_at (λ (x : Numbered). x.number) es i none (pos 0) l) ∙ h i l

pub unnumbered_apart : UnnumberedApart
unnumbered_apart rs u = record { counted = counted; apart = counted_apart (numbering [] rs) counted }
  where
    counted : Counted (numbering [] rs)
    counted = all_counted rs [] u (λ i l. absurd (not-suc-le-zero l))
