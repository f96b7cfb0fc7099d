-- Adding pairs to points, which is what entering a reading and merging a table do: "A point not yet stored is appended after the last,
-- starting from 0."
use Rattle.std.specs.Prelude.{Bool, cond, List, [], ◌∷◌, ℕ, zero, suc, ◌+◌, ◌*◌, eqb, leb, ℤ, ◌+ℤ◌, set}
use Rattle.whole.specs.Lists.{splice}
use Rattle.lattice.specs.Refusals.{too_many_points}
use Rattle.index.specs.Keys.{key_at}
use Rattle.index.specs.Search.{entry_at, search}
use Rattle.table.specs.Table.{Settings, Table, Row, mass, value, seek, found}

-- the sums with w and v as mass and value sum of point i
unfoldable pub set_pair : List ℤ → ℕ → ℤ → ℤ → List ℤ
set_pair sums i w v = set (set sums (2 * i) w) (2 * i + 1) v

-- a new point: "A new point takes the empty place found. A new point's d coordinates go into their own stretch of the lent keys."
unfoldable pub append : Settings → Table → ℕ → Row → Table
append c t p r = record {
  n = t.n;
  m = suc t.m;
  keys = splice t.keys (c.d * t.m) r.key;
  sums = set_pair t.sums t.m r.mass r.value;
  index = set t.index p (suc t.m);
}

-- more at point i
unfoldable pub raise : Table → ℕ → Row → Table
raise t i r = record {
  n = t.n;
  m = t.m;
  keys = t.keys;
  sums = set_pair t.sums i (mass t i +ℤ r.mass) (value t i +ℤ r.value);
  index = t.index;
}

-- a row added, by what the search for its key found: appended where that is 0, else more at the point found
abbrev pub add_at : Settings → Table → Row → ℕ → Table
add_at c t r zero = append c t (seek c t r.key) r
add_at c t r (suc i) = raise t i r

abbrev pub add : Settings → Table → Row → Table
add c t r = add_at c t r (found c t r.key)

-- one after the other
unfoldable pub pour : Settings → Table → List Row → Table
pour c t [] = t
pour c t (r ∷ rs) = pour c (add c t r) rs

-- "Only the points that are new count.": 1 where the search for a key in these lent keys and this lent index ends at an empty place, else 0
abbrev pub one_if_new : Settings → List ℤ → List ℕ → List ℤ → ℕ
one_if_new c keys index k = cond (eqb (entry_at index (search c.C (key_at c.d keys) (entry_at index) k)) 0) 1 0

-- how many keys of a list are new to these lent keys and this lent index
unfoldable pub news_in : Settings → List ℤ → List ℕ → List (List ℤ) → ℕ
news_in c keys index [] = 0
news_in c keys index (k ∷ ks) = one_if_new c keys index k + news_in c keys index ks

-- how many keys of a list are new to a table: its sums do not matter
abbrev pub news : Settings → Table → List (List ℤ) → ℕ
news c t ks = news_in c t.keys t.index ks

-- "8: more than C points would be stored": where m would be
abbrev pub room_test : ℕ → ℕ → Bool × ℕ
room_test C m = (leb m C, too_many_points)

-- k readings more
abbrev pub counted : ℕ → Table → Table
counted k t = record { n = t.n + k; m = t.m; keys = t.keys; sums = t.sums; index = t.index }

-- rows poured that stand for k readings
abbrev pub accept : Settings → Table → List Row → ℕ → Table
accept c t rs k = counted k (pour c t rs)
