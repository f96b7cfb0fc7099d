-- Tables made of readings. What is stated of the tables of a history is proved of these; and every table that holds entries in its book is made of their readings.
use mathlib.Core.Path.{◌≡◌, sym, ◌∙◌, subst}
use mathlib.Core.List.{List}
use lib.IntN.{ℤ}
use lib.ListN.{length, length-map}
use Rattle.whole.specs.Sum.{over}
use Rattle.whole.specs.Lists.{All}
use Rattle.table.specs.Table.{Settings, Table, Row, rows}
use Rattle.table.specs.Reading.{Reading, shares, Lawful}
use Rattle.table.specs.Sound.{Fine}
use Rattle.table.proofs.Lists.{all_map}
use Rattle.table.proofs.Rows.{Additive}
use Rattle.book.specs.Book.{Numbered, Booked, entries, readings_of, Carries}
use Rattle.book.specs.Theorems.{FineBook, Holds}
use Rattle.book.proofs.Testing.{to_carries}
use Rattle.book.proofs.Summing.{carried_sums}
use Rattle.promises.specs.Book.{held_readings}

-- a sound table of settings c that counts the readings rs, in which every sum over the stored points is the sum over what these readings add
pub record Built (c : Settings) (t : Table) (rs : List Reading) : Type 0 where
  pub fine : Fine c t
  pub counts : t.n ≡ length rs
  pub proper : All (Lawful c.d) rs
  pub sums : (f : Row → ℤ) → Additive f → over (rows c t) f ≡ over rs (λ r. over (shares c.d c.S r) f)

-- a table that carries entries is built of their readings
pub carried_built : (c : Settings) (t : Table) (es : List Numbered) → Fine c t → Carries c t es → Built c t (readings_of es)
carried_built c t es F K = record {
  fine = F;
  counts = K.counts ∙ sym (length-map es (λ (e : Numbered). e.reading));
  proper = all_map (Lawful c.d) (λ (e : Numbered). e.reading) es K.limits;
  sums = carried_sums c es t F K;
}

-- so is a sound table of those of its book
pub held_carries : (c : Settings) (b : Booked) → FineBook c b → Carries c b.table (entries c.d b.table.n b.book)
held_carries c b F = (to_carries c b F.fine F.sound).1

pub book_built : (c : Settings) (b : Booked) → FineBook c b → Built c b.table (held_readings c b)
book_built c b F = carried_built c b.table (entries c.d b.table.n b.book) F.fine (held_carries c b F)

-- and a table that is known to hold them
pub holds_carries : (c : Settings) (b : Booked) (es : List Numbered) → Holds c b es → Carries c b.table es
holds_carries c b es H = subst (Carries c b.table) H.holds (held_carries c b H.fine_book)

pub holds_built : (c : Settings) (b : Booked) (es : List Numbered) → Holds c b es → Built c b.table (readings_of es)
holds_built c b es H = carried_built c b.table es H.fine_book.fine (holds_carries c b es H)
