-- Withdrawing a reading: "subtracts the reading's weights; a point whose mass becomes 0 leaves the table, the last point takes its number, and its room is
-- used again. Where several leave, they go in ascending remainder; vacated keys, sums and book entries become 0, and the index is that of entering the
-- points afresh by number. The book closes up."
use Rattle.std.specs.Prelude.{cond, List, [], ◌∷◌, ◌++◌, map, ℕ, zero, suc, ◌+◌, ◌*◌, ◌-◌, ℤ, pos, neg_ℤ, set, take, drop, replicate}
use Rattle.whole.specs.Lists.{splice}
use Rattle.index.specs.Keys.{eq_z, same}
use Rattle.index.specs.Search.{entry_at, search}
use Rattle.table.specs.Table.{Settings, Table, Row, key, mass, value}
use Rattle.table.specs.Pour.{set_pair, pour}
use Rattle.table.specs.Reading.{Reading, shares}
use Rattle.book.specs.Book.{Booked, entry_of}

-- a share with the other sign
abbrev pub negated : Row → Row
negated r = record { key = r.key; mass = neg_ℤ r.mass; value = neg_ℤ r.value }

-- "subtracts the reading's weights": its shares poured with the other sign
abbrev pub lowered : Settings → Table → List Row → Table
lowered c t rs = pour c t (map negated rs)

-- the point that has a key, counted from 1; 0 where none has it
unfoldable pub point_of : ℕ → (ℕ → List ℤ) → List ℤ → ℕ
point_of zero key k = 0
point_of (suc m) key k = cond (same (key m) k) (suc m) (point_of m key k)

-- point i leaves: "the last point takes its number", and "vacated keys, sums … become 0"
unfoldable pub vacated : Settings → Table → ℕ → Table
vacated c t i = let l = t.m - 1 in record {
  n = t.n;
  m = l;
  keys = splice (splice t.keys (c.d * i) (key c t l)) (c.d * l) (replicate c.d (pos 0));
  sums = set_pair (set_pair t.sums i (mass t l) (value t l)) l (pos 0) (pos 0);
  index = t.index;
}

-- "a point whose mass becomes 0 leaves the table"
abbrev pub leave_at : Settings → Table → ℕ → Table
leave_at c t zero = t
leave_at c t (suc i) = cond (eq_z (mass t i) (pos 0)) (vacated c t i) t

-- "Where several leave, they go in ascending remainder": in the order of the shares
unfoldable pub leave : Settings → Table → List Row → Table
leave c t [] = t
leave c t (r ∷ rs) = leave c (leave_at c t (point_of t.m (key c t) r.key)) rs

-- "the index is that of entering the points afresh by number"
unfoldable pub afresh : ℕ → (ℕ → List ℤ) → ℕ → List ℕ
afresh C key zero = replicate (2 * C) 0
afresh C key (suc i) = let l = afresh C key i in set l (search C key (entry_at l) (key i)) (suc i)

-- the points of t with such an index, and n readings
abbrev pub reindexed : Settings → Table → ℕ → Table
reindexed c t n = record { n = n; m = t.m; keys = t.keys; sums = t.sums; index = afresh c.C (key c t) t.m }

-- a table without one of its readings
unfoldable pub withdrawn : Settings → Table → Reading → Table
withdrawn c t r = let rs = shares c.d c.S r in reindexed c (leave c (lowered c t rs) rs) (t.n - 1)

-- "The book closes up": the entries behind entry j move down by one, and the last becomes 0
unfoldable pub closed : ℕ → ℕ → ℕ → List ℤ → List ℤ
closed d n j l = let w = d + 3 in take (w * j) l ++ (take (w * (n - 1 - j)) (drop (w * (j + 1)) l) ++ (replicate w (pos 0) ++ drop (w * n) l))

-- the entry that has a number, counted from 1; 0 where none has it
unfoldable pub entry_with : ℕ → (ℕ → ℤ) → ℤ → ℕ
entry_with zero f k = 0
entry_with (suc n) f k = cond (eq_z (f n) k) (suc n) (entry_with n f k)

-- table and book without entry j
abbrev pub without : Settings → Booked → ℕ → Booked
without c b j = record {
  table = withdrawn c b.table (entry_of c.d b.book j).reading;
  room = b.room;
  book = closed c.d b.table.n j b.book;
}
