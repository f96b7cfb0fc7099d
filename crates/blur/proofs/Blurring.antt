-- A sound table and two sheets: with the table's own pairs on the first, the passes can be made, and what they leave is the blur.
use mathlib.Core.Path.{◌≡◌, ap, ◌∙◌, subst}
use mathlib.Core.List.{List, ◌++◌}
use Prim.Native.Nat.{ℕ, suc, ◌+◌, ◌*◌, ◌<◌, ◌≤◌}
use native.Mathlib.Omega.{arith}
use lib.IntN.{ℤ, pos}
use lib.ListN.{length, take, drop, replicate, length-replicate}
use Rattle.whole.specs.Size.{Abs≤}
use Rattle.whole.specs.Lists.{at}
use Rattle.whole.proofs.Lists.{zeros}
use Rattle.lattice.specs.Limits.{most_d, farthest_point}
use Rattle.table.specs.Table.{Settings, Table, Row, row}
use Rattle.table.specs.Sound.{Good}
use Rattle.table.proofs.Good.{kept_at}
use Rattle.table.proofs.Theorems.{sums_small}
use Rattle.blur.specs.Sheet.{sheet_after, with_sums}
use Rattle.blur.specs.Inner.{most_sum, Movable, Readable, Blurrable, Sheets, Blurred}
use Rattle.blur.proofs.Copying.{copied_length, copied_in, copied_past}
use Rattle.blur.proofs.Sheets.{each_place}
use Rattle.blur.proofs.Turning.{own_sheet, own_sheets}
use Rattle.blur.proofs.Stored.{fine_readable, sheet_readable}

-- a stored point's key can be moved
good_movable : (d : ℕ) (r : Row) → d ≤ most_d → Good d r → Movable r.key
good_movable d r h G = record {
  few = omega (arith, G.size);
  near = λ i l. subst (λ (z : ℤ). Abs≤ z farthest_point) (kept_at r.key i l) (G.near i (omega (arith, G.size)));
}

module _ (c : Settings) (t : Table) (first second : List ℤ) (S : Sheets c t first second) where
  sound_readable : Readable c t
  sound_readable = fine_readable c t S.fine

  -- ---- the first sheet l, cleared and given the first 2·m sums
  module _ {clear pairs : List ℤ} (z : clear ≡ replicate (length first) (pos 0)) (e : pairs ≡ take (2 * t.m) t.sums) where
    abbrev l : List ℤ
    l = pairs ++ drop (2 * t.m) clear

    is_copied : l ≡ take (2 * t.m) t.sums ++ drop (2 * t.m) clear
    is_copied = ap (λ (pairs : List ℤ). pairs ++ drop (2 * t.m) clear) e

    within : 2 * t.m ≤ length t.sums
    within = omega (arith, S.fine.shape.sums, S.fine.sound.indexed.sparse.room)

    clear_size : length clear ≡ 2 * c.C
    clear_size = ap length z ∙ length-replicate (length first) (pos 0) ∙ S.first_size

    size : length l ≡ 2 * c.C
    size = ap length is_copied ∙ copied_length clear t.sums (2 * t.m) within (omega (arith, clear_size, S.fine.sound.indexed.sparse.room)) ∙ clear_size

    own : (j : ℕ) → j < 2 * t.m → at l j ≡ at t.sums j
    own j h = ap (λ (l : List ℤ). at l j) is_copied ∙ copied_in clear t.sums (2 * t.m) within j h

    rest : (j : ℕ) → 2 * t.m ≤ j → at l j ≡ pos 0
    rest j h = ap (λ (l : List ℤ). at l j) is_copied ∙ copied_past clear t.sums (2 * t.m) within j h ∙ ap (λ (l : List ℤ). at l j) z ∙ zeros (length first) j

    small : (j : ℕ) → Abs≤ (at l j) most_sum
    small = each_place (λ j. Abs≤ (at l j) most_sum) t.m
        (λ i h. rw (own (2 * i) (omega arith)) (let s = (sums_small c t S.fine i h).mass_small.abs in record { abs = omega (arith, s) }))
        (λ i h. rw (own (2 * i + 1) (omega arith)) (sums_small c t S.fine i h).value_small)
        (λ j h. rw (rest j h) (record { abs = omega arith }))

    pub blurrable : {to : List ℤ} → length to ≡ length second → Blurrable c (with_sums t l) to
    blurrable h = record {
      readable = sheet_readable c t l sound_readable size;
      movable = λ i h. good_movable c.d (row c t i) S.fine.ranged.d_most (S.fine.sound.good i h);
      small = small;
      rest = rest;
      second_size = h ∙ S.second_size;
    }

    pub blurred : {first' second' : List ℤ} (to : List ℤ) → first' ≡ sheet_after c (with_sums t l) (suc c.d) → second' ≡ replicate (length to) (pos 0) → length to ≡ length second → Blurred c t first' second'
    blurred to p q h = record {
      first_is = p ∙ ap (λ (l : List ℤ). sheet_after c (with_sums t l) (suc c.d)) (own_sheet c t sound_readable l size own rest) ∙ own_sheets c t sound_readable (suc c.d);
      second_is = q ∙ ap (λ (n : ℕ). replicate n (pos 0)) (h ∙ S.second_size);
    }
