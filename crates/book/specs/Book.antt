-- The book of a table: "a table carries a book of the readings it holds, in order of entry, merged ones behind, as number, position, value, d+3 signed
-- 32-bit numbers each".
use Rattle.std.specs.Prelude.{◌≡◌, ◌≢◌, Bool, true, false, not, cond, ◌&&◌, List, map, ℕ, zero, suc, ◌+◌, ◌*◌, eqb, leb, ℤ, length, take}
use Rattle.whole.specs.Sum.{all}
use Rattle.whole.specs.Lists.{at, tab, All, Each}
use Rattle.lattice.specs.Lattice.{Point}
use Rattle.index.specs.Keys.{eq_z}
use Rattle.table.specs.Table.{Settings, Table, key, mass, value, keys_of, whole, held}
use Rattle.table.specs.Pour.{news}
use Rattle.table.specs.Reading.{Reading, shares, own_refusal, Lawful, mass_from, value_from}
use Rattle.table.specs.Sound.{sound}

-- "Each reading gets a number (signed, 32 bits)"
pub record Numbered : Type 0 where
  pub number : ℤ
  pub reading : Reading

-- the number of entry j of a list in the book's form
abbrev pub number_at : ℕ → List ℤ → ℕ → ℤ
number_at d l j = at l ((d + 3) * j)

-- entry j: "number, position, value"
abbrev pub entry_of : ℕ → List ℤ → ℕ → Numbered
entry_of d l j = record {
  number = number_at d l j;
  reading = record { position = tab (suc d) (λ i. at l ((d + 3) * j + suc i)); value = at l ((d + 3) * j + (d + 2)) };
}

-- its first n entries
unfoldable pub entries : ℕ → ℕ → List ℤ → List Numbered
entries d n l = tab n (entry_of d l)

-- the readings of a list of entries
abbrev pub readings_of : List Numbered → List Reading
readings_of es = map (λ e. e.reading) es

-- A table with its book: "a fourth lent slice of room B".
pub record Booked : Type 0 where
  pub table : Table
  pub room : ℕ
  pub book : List ℤ

-- whether one of the first n numbers is k
unfoldable pub among : ℕ → (ℕ → ℤ) → ℤ → Bool
among zero f k = false
among (suc n) f k = cond (eq_z (f n) k) true (among n f k)

-- "the book's readings keep the limits": 4, 5 and 6
abbrev pub keeps_limits : Reading → Bool
keeps_limits r = eqb (own_refusal r) 0

-- "none has another's number": none has that of one before it
abbrev pub numbers_apart : ℕ → (ℕ → ℤ) → Bool
numbers_apart n f = all n (λ j. not (among j f (f j)))

-- "the sums are theirs": every point that one of them touches is stored, and each stored pair is the sum of what they give
unfoldable pub sums_theirs : Settings → Table → (ℕ → Reading) → Bool
sums_theirs c t r = all t.n (λ j. eqb (news c t (keys_of (shares c.d c.S (r j)))) 0)
    && all t.m (λ i. let y = whole (key c t i) in
    eq_z (mass t i) (mass_from c.d c.S (tab t.n r) y) && eq_z (value t i) (value_from c.d c.S (tab t.n r) y))

-- "Soundness now adds that the book's readings keep the limits, none has another's number, and the sums are theirs."
unfoldable pub book_sound : Settings → Booked → Bool
book_sound c b = let l = b.book in let t = b.table in
    leb t.n b.room
    && (all t.n (λ j. keeps_limits (entry_of c.d l j).reading) && numbers_apart t.n (number_at c.d l) && sums_theirs c t (λ j. (entry_of c.d l j).reading))

-- all of soundness: document 01's, and what the book adds
abbrev pub sound_with_book : Settings → Booked → Bool
sound_with_book c b = sound c b.table && book_sound c b

-- The same as facts. "the sums are theirs": at every lattice point the table holds what the readings give,
abbrev pub Theirs : Settings → Table → List Reading → Type 0
Theirs c t rs = (y : List ℤ) → Point c.d y → held c t (take c.d y) ≡ (mass_from c.d c.S rs y, value_from c.d c.S rs y)

-- two entries have different numbers,
abbrev pub OtherNumber : Numbered → Numbered → Type 0
OtherNumber a b = a.number ≢ b.number

-- and a table of the entries es.
pub record Carries (c : Settings) (t : Table) (es : List Numbered) : Type 0 where
  pub counts : t.n ≡ length es
  pub limits : All (λ e. Lawful c.d e.reading) es
  pub apart : Each OtherNumber es
  pub sums : Theirs c t (readings_of es)
