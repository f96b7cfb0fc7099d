-- The readings of a book on a sheet, one after the other.
use mathlib.Core.Path.{◌≡◌, refl, ap, ◌∙◌}
use mathlib.Core.List.{List, [], ◌++◌}
use Prim.Native.Nat.{ℕ, ◌+◌, ◌*◌, ◌-◌, ◌≤◌, ◌<◌}
use native.Mathlib.Numerals.{add-one}
use native.Mathlib.Omega.{arith}
use lib.IntN.{ℤ}
use lib.ListN.{length, take, drop}
use Rattle.whole.specs.Lists.{collect}
use Rattle.lattice.specs.Limits.{most_coords}
use Rattle.table.specs.Table.{Settings, Row}
use Rattle.table.specs.Reading.{reading_of, shares}
use Rattle.book.specs.Book.{entry_of}
use Rattle.book.proofs.Entries.{entry_inside, part_reading, part_size}
use Rattle.spread.specs.Spreading.{Lifts, ToSpread}
use Rattle.spread.specs.Inner.{shares_to, BookToSpread}
use Rattle.spread.proofs.Few.{shares_few, missing_few}
use Rattle.spread.proofs.Light.{shares_light}
use Rattle.spread.proofs.Sheets.{lifts_none, lifts_more, lifts_as, after_collected}

module _ (c : Settings) (n : ℕ) (keys : List ℤ) (index : List ℕ) (sheet book : List ℤ) (B : BookToSpread c n keys index sheet book) where
  abbrev own : ℕ → List Row
  own j = shares c.d c.S (entry_of c.d book j).reading

  own_few : (j : ℕ) → length (own j) ≤ most_coords
  own_few j = omega (arith, shares_few c.d c.S (entry_of c.d book j).reading, B.ranged.d_most)

  pub book_none : Lifts c keys index sheet (shares_to c.d c.S book 0) 0 sheet
  unfolding shares_to collect
  book_none = lifts_none c keys index sheet [] refl

  -- so many points at most are missing
  pub book_missing : (j : ℕ) {x : ℕ} {left : List ℤ} → Lifts c keys index sheet (shares_to c.d c.S book j) x left → x ≤ most_coords * j
  unfolding shares_to
  book_missing j L = missing_few c keys index most_coords j own own_few L

  shares_more : (j : ℕ) → shares_to c.d c.S book (j + 1) ≡ shares_to c.d c.S book j ++ own j
  unfolding shares_to collect
  shares_more j = rw add-one

  pub entry_fits : (j : ℕ) → j < n → (c.d + 3) * j + (c.d + 3) ≤ length book
  entry_fits j h = omega (arith, entry_inside c.d n j h, B.fit)

  -- reading j, as the code lends it, after those before it
  module _ (j : ℕ) {part : List ℤ} (its : part ≡ take ((c.d + 3) * j + (c.d + 3) - ((c.d + 3) * j + 1)) (drop ((c.d + 3) * j + 1) book)) {x : ℕ} {mid : List ℤ} (L : Lifts c keys index sheet (shares_to c.d c.S book j) x mid) where
    is_entry : reading_of c.d part ≡ (entry_of c.d book j).reading
    is_entry = ap (reading_of c.d) its ∙ part_reading c.d book j _ _ refl refl

    pub reading_ready : j < n → ToSpread c keys index mid part
    unfolding shares_to
    reading_ready h = record {
      ranged = B.ranged;
      rows = 0 + most_coords * j;
      few = omega (arith, B.few);
      ready = rw L.left_is (after_collected c keys index own most_coords n (λ i l. shares_light c (entry_of c.d book i).reading B.ranged (B.lawful i l).fair) (λ i l. own_few i) 0 sheet B.ready j (omega arith));
      size = ap length its ∙ part_size c.d book j _ _ refl refl (entry_fits j h);
      lawful = rw is_entry (B.lawful j h);
    }

    pub book_more : {y : ℕ} {left : List ℤ} → Lifts c keys index mid (shares c.d c.S (reading_of c.d part)) y left → Lifts c keys index sheet (shares_to c.d c.S book (j + 1)) (x + y) left
    book_more M = lifts_more c keys index (shares_to c.d c.S book j) (own j) (shares_to c.d c.S book (j + 1)) L (lifts_as c keys index _ (own j) M (ap (shares c.d c.S) is_entry)) (shares_more j)
