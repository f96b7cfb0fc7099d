-- The lines of a table's points, written one after the other in listing order.
use mathlib.Core.Path.{◌≡◌, ap, sym, subst, ◌∙◌}
use mathlib.Core.List.{List, ◌++◌, append_assoc}
use Prim.Native.Nat.{ℕ, zero, suc, ◌+◌, ◌-◌, ◌<◌, ◌≤◌}
use native.Mathlib.Numerals.{add-one}
use native.Mathlib.Decide.{dec_le}
use native.Mathlib.Omega.{arith}
use lib.IntN.{ℤ}
use lib.ListN.{length, take, get_or, replicate, length-append, get_or-append}
use lib.Seq.{length-take-le, get_or-take}
use Rattle.whole.specs.Lists.{collect}
use Rattle.whole.proofs.Lists.{collect_cong}
use Rattle.table.specs.Table.{Settings, Table}
use Rattle.listing.specs.Listing.{order}
use Rattle.listing.specs.Inner.{in_order}
use Rattle.listing.proofs.Answers.{list_filled}
use Rattle.listing.proofs.Rising.{all_at}
use Rattle.listing.proofs.Listings.{order_length, order_low}
use Rattle.text.specs.Text.{Written}
use Rattle.text.proofs.Lines.{written_nothing, written_then, written_room}
use Rattle.report.specs.Report.{point_line, point_lines}
use Rattle.report.specs.Inner.{line_at, lines_in, PointRoom, RowsRoom, PointsRoom}
use Rattle.report.proofs.Numbers.{lies_in}

-- ---- lists one after the other, the first of them
collect_part : {A : Type 0} (g : ℕ → List A) (j n : ℕ) → j ≤ n → length (collect j g) ≤ length (collect n g)
unfolding collect
collect_part g j zero h = let e : j ≡ 0 = omega arith in rw e (omega arith)
collect_part g j (suc n) h = go (dec_le j n) (collect_part g j n)
  where
    go : Dec (j ≤ n) → (j ≤ n → length (collect j g) ≤ length (collect n g)) → length (collect j g) ≤ length (collect (suc n) g)
    go (yes k) f = omega (arith, f k, length-append (collect n g) (g n))
    go (no k) f = let e : j ≡ suc n = omega arith in rw e (omega arith)

-- ---- the lines of the first j
pub rows_start : (d : ℕ) (keys sums : List ℤ) (list o : List ℕ) (a : ℕ) → Written o a (lines_in d keys sums list 0) a o
unfolding lines_in collect
rows_start d keys sums list o a = written_nothing o a

module _ {d m : ℕ} {keys sums : List ℤ} {list o : List ℕ} {a : ℕ} (r : RowsRoom d m keys sums list a (length o)) {j next : ℕ} {out : List ℕ}
    (p : Written o a (lines_in d keys sums list j) next out) where
  row_space : j < m → a + length (lines_in d keys sums list j) + length (line_at d keys sums (get_or list j 0)) ≤ length o
  unfolding lines_in collect
  row_space h = let g : ℕ → List ℕ = λ j. line_at d keys sums (get_or list j 0) in
      omega (arith, r.space, collect_part g (suc j) m h, length-append (collect j g) (g j))

  -- number j of those that are looked at, point i
  module _ (h : j < length (take m list)) {i : ℕ} (e : i ≡ get_or (take m list) j 0) where
    row_low : j < m
    row_low = omega (arith, length-take-le m list r.long)

    is : get_or list j 0 ≡ i
    is = sym (e ∙ get_or-take m list j 0 row_low)

    pub row_room : PointRoom d keys sums i next (length out)
    row_room = subst (λ (i : ℕ). PointRoom d keys sums i next (length out)) is (record {
      lies_in = r.each j row_low;
      space = written_room (length (line_at d keys sums (get_or list j 0))) p (row_space row_low);
    })

    pub row_more : {next' : ℕ} {out' : List ℕ} → Written out next (line_at d keys sums i) next' out' → Written o a (lines_in d keys sums list (j + 1)) next' out'
    unfolding lines_in collect
    row_more {next'} {out'} q =
        rw add-one (written_then p (subst (λ (i : ℕ). Written out next (line_at d keys sums i) next' out') (sym is) q) (row_space row_low))

  -- all of them
  pub rows_done : length (take m list) ≤ j → j ≤ length (take m list) → Written o a (lines_in d keys sums list m) next out
  rows_done h k = let e : j ≡ m = omega (arith, length-take-le m list r.long) in rw e at p

-- ---- the listing of a sound table, at the start of the array that it was written into
module _ {c : Settings} {t : Table} {a size : ℕ} {n : ℕ} {after : List ℕ} (rest : List ℕ)
    (r : PointsRoom c t a size) (e : n ≡ c.C) (l : after ≡ in_order c.d t.keys t.m ++ replicate (n - t.m) 0) where
  in_front : after ++ rest ≡ order c t ++ (replicate (c.C - t.m) 0 ++ rest)
  in_front = ap (λ (x : List ℕ). x ++ rest) (list_filled c t e l) ∙ append_assoc (order c t) (replicate (c.C - t.m) 0) rest

  place_is : (j : ℕ) → j < t.m → get_or (after ++ rest) j 0 ≡ get_or (order c t) j 0
  place_is j h = rw in_front (get_or-append (order c t) (replicate (c.C - t.m) 0 ++ rest) 0 j (rw (order_length c t) h))

  -- the lines of the points that the array names then are those of the table, in listing order
  listed_lines : lines_in c.d t.keys t.sums (after ++ rest) t.m ≡ point_lines c t
  unfolding lines_in point_lines
  listed_lines = collect_cong t.m (λ j. point_line c t (get_or (after ++ rest) j 0)) (λ j. point_line c t (get_or (order c t) j 0)) (λ j h. ap (point_line c t) (place_is j h))

  pub listed_written : {o out : List ℕ} {next : ℕ} → Written o a (lines_in c.d t.keys t.sums (after ++ rest) t.m) next out → Written o a (point_lines c t) next out
  listed_written p = rw listed_lines at p

  pub listed_rows : RowsRoom c.d t.m t.keys t.sums (after ++ rest) a size
  listed_rows = record {
    each = λ j h. lies_in r.printable (rw (place_is j h) (all_at (λ i. i < t.m) (order c t) 0 (order_low c t) j (rw (order_length c t) h)));
    long = let n = ap length in_front in omega (arith, n, order_length c t, length-append (order c t) (replicate (c.C - t.m) 0 ++ rest));
    space = rw listed_lines r.space;
  }
