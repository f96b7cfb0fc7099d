-- The numbers of a point's line, which are stored one after the other into an array of zeros. Assumes nothing.
use mathlib.Core.Path.{◌≡◌, ap, sym, ◌∙◌}
use mathlib.Core.List.{List, [], ◌∷◌, ◌++◌, append_assoc}
use Prim.Native.Nat.{ℕ, suc, ◌+◌, ◌*◌, ◌-◌, ◌≤◌, ◌<◌}
use native.Mathlib.Nat.{mul-le-mul_left}
use native.Mathlib.Numerals.{add-one}
use native.Mathlib.Omega.{arith}
use lib.IntN.{ℤ, pos, neg_ℤ}
use lib.ListN.{length, set, take, drop, replicate, length-append}
use lib.Seq.{set_at, get_or-take, get_or-drop}
use Rattle.whole.specs.Sum.{sum, over}
use Rattle.whole.specs.Lists.{at, tab}
use Rattle.whole.proofs.Lists.{length_tab, get_or_tab}
use Rattle.whole.proofs.Sum.{sum_cong, sum_list}
use Rattle.lattice.specs.Limits.{most_d}
use Rattle.index.specs.Keys.{key_at}
use Rattle.table.specs.Table.{Settings, Table, whole}
use Rattle.table.proofs.Lists.{tab_snoc}
use Rattle.table.proofs.Good.{whole_size}
use Rattle.report.specs.Inner.{most_in_line, numbers_at, line_numbers, Printable, LiesIn}

-- ---- an array of zeros that is filled from the front
abbrev pub filled : List ℤ → List ℤ
filled l = l ++ replicate (most_in_line - length l) (pos 0)

-- one more number in the first of the places that are left
store : (l : List ℤ) (n left : ℕ) (v : ℤ) → length l ≡ n → set (l ++ replicate (suc left) (pos 0)) n v ≡ (l ++ (v ∷ [])) ++ replicate left (pos 0)
store l n left v e = set_at l (pos 0) (replicate left (pos 0)) v n e ∙ sym (append_assoc l (v ∷ []) (replicate left (pos 0)))

stored : {a : List ℤ} {v w : ℤ} (l : List ℤ) (n : ℕ) → a ≡ filled l → v ≡ w → length l ≡ n → n < most_in_line → set a n v ≡ filled (l ++ (w ∷ []))
stored {a} {v} {w} l n e k s h =
    let p : most_in_line - length l ≡ suc (most_in_line - suc n) = omega arith in
    let q : most_in_line - length (l ++ (w ∷ [])) ≡ most_in_line - suc n = omega (arith, length-append l (w ∷ [])) in
    rw (e, k, p, q) (store l n (most_in_line - suc n) w s)

-- ---- the kept coordinates
abbrev pub kept : List ℤ → ℕ → ℕ → ℤ
kept keys start j = at keys (start + j)

-- as they stand in the point's stretch of the keys
pub kept_in : (keys : List ℤ) (start d j : ℕ) → j < d → at (take (start + d - start) (drop start keys)) j ≡ kept keys start j
kept_in keys start d j h =
    let q : start + d - start ≡ d = omega arith in
    rw q (get_or-take d (drop start keys) j (pos 0) h ∙ get_or-drop start keys j (pos 0))

pub one_more_lem : {a : List ℤ} {v : ℤ} (f : ℕ → ℤ) (j : ℕ) → j < most_in_line → a ≡ filled (tab j f) → v ≡ f j → set a j v ≡ filled (tab (j + 1) f)
one_more_lem f j h e k = stored (tab j f) j e k (length_tab j f) h ∙ ap filled (sym (tab_snoc j f) ∙ ap (λ (n : ℕ). tab n f) (sym (add-one j)))

-- the stretch and the pair of a stored point lie within the keys and the sums
pub lies_in : {c : Settings} {t : Table} {i : ℕ} → Printable c t → i < t.m → LiesIn c.d t.keys t.sums i
lies_in {c} {t} {i} P h =
    let F = P.fine in
    let m : suc i ≤ c.C = omega (arith, F.sound.indexed.sparse.room) in
    record {
      d_most = F.ranged.d_most;
      few = omega (arith, P.few);
      stretch = omega (arith, F.shape.keys, mul-le-mul_left c.d m);
      pair = omega (arith, F.shape.sums);
    }

-- ---- all of them
module _ (d : ℕ) (keys sums : List ℤ) (i : ℕ) where
  last_is : neg_ℤ (sum d (kept keys (d * i))) ≡ neg_ℤ (over (key_at d keys i) (λ z. z))
  unfolding key_at
  last_is = let f = kept keys (d * i) in
      ap neg_ℤ (sum_cong d f (at (tab d f)) (λ j l. sym (get_or_tab d f j (pos 0) l))
      ∙ ap (λ (n : ℕ). sum n (at (tab d f))) (sym (length_tab d f)) ∙ sum_list (tab d f) (pos 0) (λ z. z))

  key_size : length (key_at d keys i) ≡ d
  unfolding key_at
  key_size = length_tab d (kept keys (d * i))

  abbrev mass : ℤ
  mass = at sums (2 * i)

  abbrev value : ℤ
  value = at sums (2 * i + 1)

  pub numbers_size : length (numbers_at d keys sums i) ≡ d + 3
  numbers_size = omega (arith, length-append (whole (key_at d keys i)) (mass ∷ value ∷ []), whole_size (key_at d keys i), key_size)

  pub point_done : {a : List ℤ} {x y z : ℤ} (j : ℕ) → j ≡ d → d ≤ most_d → a ≡ filled (tab j (kept keys (d * i)))
      → x ≡ neg_ℤ (sum j (kept keys (d * i))) → y ≡ mass → z ≡ value
      → set (set (set a d x) (d + 1) y) (d + 2) z ≡ line_numbers d keys sums i
  unfolding key_at whole
  point_done {a} {x} {y} {z} j h l e p q r =
      let k = whole (key_at d keys i) in
      let first : set a d x ≡ filled k = stored (key_at d keys i) d (rw h at e) ((rw h at p) ∙ last_is) key_size (omega arith) in
      let n : length k ≡ d + 1 = whole_size (key_at d keys i) ∙ omega (arith, key_size) in
      let n' : length (k ++ (mass ∷ [])) ≡ d + 2 = length-append k (mass ∷ []) ∙ omega arith in
      stored (k ++ (mass ∷ [])) (d + 2) (stored k (d + 1) first q n (omega arith)) r n' (omega arith)
      ∙ ap filled (append_assoc k (mass ∷ []) (value ∷ []))
      ∙ ap (λ (n : ℕ). numbers_at d keys sums i ++ replicate (most_in_line - n) (pos 0)) numbers_size
