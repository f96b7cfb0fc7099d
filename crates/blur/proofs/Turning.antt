-- The passes on two sheets: a pass there and back leaves the next sheet in the first, from the table's own pairs to those after the last pass.
use mathlib.Core.Path.{◌≡◌, refl, sym, ap, ap₂, ◌∙◌, subst, fun_ext}
use mathlib.Core.List.{List, ◌++◌}
use Prim.Native.Nat.{ℕ, suc, ◌+◌, ◌*◌, ◌^◌, ◌<◌, ◌≤◌}
use native.Mathlib.Nat.{pow-le-pow_right}
use native.Mathlib.Omega.{arith}
use lib.IntN.{ℤ, pos}
use lib.ListN.{length, take, drop}
use Rattle.whole.specs.Size.{Abs≤}
use Rattle.whole.specs.Lists.{at}
use Rattle.table.specs.Table.{Settings, Table, key, held}
use Rattle.blur.specs.Blur.{pass, passes, is_stored, masses, values, mass_after, value_after}
use Rattle.blur.specs.Sheet.{sheet, sheet_after, with_sums}
use Rattle.blur.specs.Inner.{most_sum, most_blurred, Readable, NewPairs, Returning, passed_sheet, Blurrable}
use Rattle.blur.proofs.Copying.{copied_length, copied_in, copied_past}
use Rattle.blur.proofs.Passes.{passes_small}
use Rattle.blur.proofs.Sheets.{each_place, sheet_is, sheet_length, sheet_mass, sheet_value, sheet_rest, sheet_held}
use Rattle.blur.proofs.Theorems.{mass_off, value_off}
use Rattle.blur.proofs.Stored.{sheet_readable, own_pair, held_small}

-- ---- the new pairs, copied back
pub passed_back : {own : List ℤ} (c : Settings) (t : Table) (k : ℕ) (second to : List ℤ) → Returning c t second → NewPairs c t k t.m to
    → own ≡ take (2 * t.m) to → own ++ drop (2 * t.m) t.sums ≡ passed_sheet c t k
passed_back {own} c t k second to R Q e =
    let room = R.passable.readable.indexed.sparse.room in
    let size = R.passable.readable.shape.sums in
    let within : 2 * t.m ≤ length to = omega (arith, Q.size) in
    rw e (sheet_is c t (pass (is_stored c t) c.d k (masses c t)) (pass (is_stored c t) c.d k (values c t)) (take (2 * t.m) to ++ drop (2 * t.m) t.sums) room
    (copied_length t.sums to (2 * t.m) within (omega (arith, size)) ∙ size)
    (λ i l. copied_in t.sums to (2 * t.m) within (2 * i) (omega arith) ∙ (Q.pairs i l).mass_is)
    (λ i l. copied_in t.sums to (2 * t.m) within (2 * i + 1) (omega arith) ∙ (Q.pairs i l).value_is)
    (λ j h. copied_past t.sums to (2 * t.m) within j h ∙ R.rest j h))

-- ---- the sheets of a table, one after the other
module _ (c : Settings) (t : Table) (R : Readable c t) where
  -- the table's own pairs with 0 past them are the sheet after no pass
  pub own_sheet : (l : List ℤ) → length l ≡ 2 * c.C → ((j : ℕ) → j < 2 * t.m → at l j ≡ at t.sums j) → ((j : ℕ) → 2 * t.m ≤ j → at l j ≡ pos 0) → l ≡ sheet_after c t 0
  unfolding mass_after value_after passes
  own_sheet l e same rest = sheet_is c t (masses c t) (values c t) l R.indexed.sparse.room e
      (λ i h. same (2 * i) (omega arith) ∙ sym (ap (λ (p : ℤ × ℤ). p.0) (own_pair c t R i h)))
      (λ i h. same (2 * i + 1) (omega arith) ∙ sym (ap (λ (p : ℤ × ℤ). p.1) (own_pair c t R i h)))
      rest

  module _ (n : ℕ) where
    after_held : (y : List ℤ) → held c (with_sums t (sheet_after c t n)) y ≡ (mass_after c t n y, value_after c t n y)
    after_held = sheet_held c t R (mass_after c t n) (value_after c t n) (mass_off c t n) (value_off c t n)

    masses_after : masses c (with_sums t (sheet_after c t n)) ≡ mass_after c t n
    masses_after = fun_ext (λ y. ap (λ (p : ℤ × ℤ). p.0) (after_held y))

    values_after : values c (with_sums t (sheet_after c t n)) ≡ value_after c t n
    values_after = fun_ext (λ y. ap (λ (p : ℤ × ℤ). p.1) (after_held y))

  -- the pass after n others
  turn : (n : ℕ) → passed_sheet c (with_sums t (sheet_after c t n)) n ≡ sheet_after c t (suc n)
  unfolding sheet mass_after value_after passes
  turn n = ap₂ (λ (f g : List ℤ → ℤ). sheet c t (pass (is_stored c t) c.d n f) (pass (is_stored c t) c.d n g)) (masses_after n) (values_after n)

  -- the table with its own pairs as the sheet has the same sheets after it
  pub own_sheets : (n : ℕ) → sheet_after c (with_sums t (sheet_after c t 0)) n ≡ sheet_after c t n
  unfolding sheet mass_after value_after passes
  own_sheets n = ap₂ (λ (f g : List ℤ → ℤ). sheet c t (passes (is_stored c t) c.d n f) (passes (is_stored c t) c.d n g)) (masses_after 0) (values_after 0)

-- ---- the sheet after n passes, on the way through them
module _ (c : Settings) (t : Table) (second : List ℤ) (B : Blurrable c t second) where
  pub start_is : t.sums ≡ sheet_after c t 0
  start_is = own_sheet c t B.readable t.sums B.readable.shape.sums (λ j h. refl) B.rest

  small : (y : List ℤ) → Abs≤ (masses c t y) most_sum × Abs≤ (values c t y) most_sum
  small = held_small c t B.readable most_sum B.small

  -- "4^6·384·4,096·1,000,000": four times as great at most after each pass
  passed_small : (n : ℕ) → n ≤ c.d → (f : List ℤ → ℤ) → ((y : List ℤ) → Abs≤ (f y) most_sum) → (y : List ℤ) → Abs≤ (passes (is_stored c t) c.d n f y) most_blurred
  passed_small n h f s y =
      let few : n ≤ 6 = omega (arith, B.readable.ranged.d_most) in
      let p : 4 ^ n ≤ 4 ^ 6 = pow-le-pow_right (omega arith) few in
      let q = passes_small (is_stored c t) c.d most_sum f s n y in
      record { abs = omega (arith, p, q.abs) }

  after_small : (n : ℕ) → n ≤ c.d → (j : ℕ) → Abs≤ (at (sheet_after c t n) j) most_blurred
  unfolding mass_after value_after
  after_small n h = each_place (λ j. Abs≤ (at (sheet_after c t n) j) most_blurred) t.m
      (λ i l. rw (sheet_mass c t (mass_after c t n) (value_after c t n) i l) (passed_small n h (masses c t) (λ y. (small y).0) (key c t i)))
      (λ i l. rw (sheet_value c t (mass_after c t n) (value_after c t n) i l) (passed_small n h (values c t) (λ y. (small y).1) (key c t i)))
      (λ j l. rw (sheet_rest c t (mass_after c t n) (value_after c t n) j l) (record { abs = omega arith }))

  pub returning : {first to : List ℤ} (n : ℕ) → n ≤ c.d → first ≡ sheet_after c t n → length to ≡ length second → Returning c (with_sums t first) to
  returning {first} {to} n h e l = subst (λ (first : List ℤ). Returning c (with_sums t first) to) (sym e) record {
    passable = record {
      readable = sheet_readable c t (sheet_after c t n) B.readable (sheet_length c t (mass_after c t n) (value_after c t n) B.readable.indexed.sparse.room);
      movable = B.movable;
      small = after_small n h;
    };
    rest = sheet_rest c t (mass_after c t n) (value_after c t n);
    second_size = l ∙ B.second_size;
  }

  pub after_more : {first next : List ℤ} (n : ℕ) → first ≡ sheet_after c t n → next ≡ passed_sheet c (with_sums t first) n → next ≡ sheet_after c t (n + 1)
  after_more {first} {next} n e q = let z : suc n ≡ n + 1 = omega arith in
      q ∙ ap (λ (l : List ℤ). passed_sheet c (with_sums t l) n) e ∙ turn c t B.readable n ∙ ap (sheet_after c t) z
