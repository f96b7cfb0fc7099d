-- The sheet after all readings has what they give to each stored point, so comparing it with the sums is the test.
use mathlib.Core.Path.{◌≡◌, refl, sym, ap, ap₂, subst, ◌∙◌}
use mathlib.Core.Bool.{Bool, true, false, ◌&&◌}
use mathlib.Core.List.{List, [], ◌∷◌, map-append}
use Prim.Native.Nat.{ℕ, zero, suc, ◌+◌, ◌*◌, ◌≤◌, ◌<◌}
use native.Mathlib.Omega.{arith}
use lib.Dec.{T, eqb, eqb-suc-zero}
use lib.IntN.{ℤ, pos, +ℤ_idl, ◌+ℤ◌, ◌*ℤ◌}
use lib.ListN.{length, take, replicate, length-replicate}
use lib.Seq.{length-take-le, get_or-take, ext_get_or}
use Rattle.std.specs.Bool.{Decides}
use borrow.Author.Tests.{ne_eqb}
use Rattle.whole.specs.Sum.{sum, over, all}
use Rattle.whole.specs.Lists.{at, tab, collect, All}
use Rattle.whole.proofs.Lists.{zeros}
use Rattle.whole.proofs.Tests.{T_true, T_ext, all_at, all_of}
use Rattle.whole.proofs.Sum.{sum_cong, over_append}
use Rattle.lattice.specs.Weight.{weight}
use Rattle.index.specs.Keys.{eq_z}
use Rattle.index.proofs.Equality.{eq_z_eq, eq_z_refl}
use Rattle.table.specs.Table.{Settings, Table, Row, key, mass, value, keys_of, whole, found, mass_of}
use Rattle.table.specs.Pour.{raise, add_at, pour, news_in, news}
use Rattle.table.specs.Reading.{Reading, shares, mass_from, value_from}
use Rattle.table.proofs.Lists.{over_tab}
use Rattle.table.proofs.Rows.{value_of, gives, given}
use Rattle.table.proofs.Good.{key_whole}
use Rattle.table.proofs.Shares.{share_given}
use Rattle.table.proofs.Pouring.{news_append}
use Rattle.book.specs.Book.{entry_of, sums_theirs}
use Rattle.book.proofs.Lowering.{Raised, raised}
use Rattle.book.proofs.Testing.{news_none}
use Rattle.spread.specs.Spreading.{lift_at, lift_all, Lifts, Comparable}
use Rattle.spread.specs.Inner.{shares_to, BookToSpread}
use Rattle.spread.proofs.Sheets.{lift_length, sheet_clear}

-- ---- where all points are stored, a sheet takes rows as a table's sums do
pub lift_pour : (c : Settings) (rs : List Row) (t : Table) → All (λ r. 0 < found c t r.key) rs → lift_all c t.keys t.index t.sums rs ≡ (pour c t rs).sums
unfolding lift_all pour raise
lift_pour c [] t h = refl
lift_pour c (r ∷ rs) t h = go (found c t r.key) refl (λ i. lift_pour c rs (raise t i r))
  where
    go : (e : ℕ) → found c t r.key ≡ e
        → ((i : ℕ) → All (λ s. 0 < found c t s.key) rs → lift_all c t.keys t.index (raise t i r).sums rs ≡ (pour c (raise t i r) rs).sums)
        → lift_all c t.keys t.index (lift_at t.sums r e) rs ≡ (pour c (add_at c t r e) rs).sums
    go zero e ih = absurd (omega (arith, h.0, e))
    go (suc i) e ih = ih i h.1

-- ---- sums over lists one after the other
over_collect : {A : Type 0} (n : ℕ) (g : ℕ → List A) (f : A → ℤ) → over (collect n g) f ≡ sum n (λ j. over (g j) f)
unfolding collect over sum
over_collect zero g f = refl
over_collect (suc n) g f = over_append (collect n g) (g n) f ∙ ap (λ (z : ℤ). z +ℤ over (g n) f) (over_collect n g f)

-- ---- none is missing of all readings where none is of each
none_both : (a b : ℕ) → eqb (a + b) 0 ≡ (eqb a 0 && eqb b 0)
none_both zero b = let e : zero + b ≡ b = omega arith in rw e refl
none_both (suc a) b = let e : suc a + b ≡ suc (a + b) = omega arith in rw (e, eqb-suc-zero (a + b), eqb-suc-zero a) refl

none_missing : (c : Settings) (keys : List ℤ) (index : List ℕ) (n : ℕ) (g : ℕ → List Row) → eqb (news_in c keys index (keys_of (collect n g))) 0 ≡ all n (λ j. eqb (news_in c keys index (keys_of (g j))) 0)
unfolding collect all news_in
none_missing c keys index zero g = refl
none_missing c keys index (suc n) g =
    ap (λ (x : ℕ). eqb x 0) (ap (news_in c keys index) (map-append (λ (r : Row). r.key) (collect n g) (g n)) ∙ news_append c keys index (keys_of (collect n g)) (keys_of (g n)))
    ∙ none_both (news_in c keys index (keys_of (collect n g))) (news_in c keys index (keys_of (g n)))
    ∙ ap (λ (b : Bool). b && eqb (news_in c keys index (keys_of (g n))) 0) (none_missing c keys index n g)

-- ---- the first n numbers of two lists, compared
pub same_firsts : (n : ℕ) (a b : List ℤ) {r : Bool} → n ≤ length a → n ≤ length b → Decides r (take n a ≡ take n b) → r ≡ all n (λ p. eq_z (at a p) (at b p))
same_firsts n a b {r} h k D =
    T_ext r (all n equal) (λ t. all_of n equal (λ p l. eq_same_z (first a p l ∙ ap (λ l. at l p) (D.0 (T_true r t)) ∙ sym (first b p l))))
    (λ t. subst T (sym (D.1 (ext_get_or (pos 0) (take n a) (take n b) (length-take-le n a h ∙ sym (length-take-le n b k))
    (λ p q. let l : p < n = omega (arith, q, length-take-le n a h) in sym (first a p l) ∙ eq_z_eq (at a p) (at b p) (all_at n equal t p l) ∙ first b p l)))) tt)
  where
    equal : ℕ → Bool
    equal p = eq_z (at a p) (at b p)

    first : (l : List ℤ) (p : ℕ) → p < n → at l p ≡ at (take n l) p
    first l p h = sym (get_or-take n l p (pos 0) h)

    eq_same_z : {x y : ℤ} → x ≡ y → T (eq_z x y)
    eq_same_z {x} e = subst (λ (z : ℤ). T (eq_z x z)) e (eq_z_refl x)

module _ (c : Settings) (t : Table) (book : List ℤ) (Q : Comparable c t book) {sheet : List ℤ} (clear : sheet ≡ replicate (2 * c.C) (pos 0)) where
  abbrev reading : ℕ → Reading
  reading j = (entry_of c.d book j).reading

  abbrev all_shares : List Row
  all_shares = shares_to c.d c.S book t.n

  sheet_size : length sheet ≡ 2 * c.C
  sheet_size = ap length clear ∙ length-replicate (2 * c.C) (pos 0)

  sheet_zero : (p : ℕ) → at sheet p ≡ pos 0
  sheet_zero p = ap (λ (l : List ℤ). at l p) clear ∙ zeros (2 * c.C) p

  -- the sheet may be lent
  pub can_spread : BookToSpread c t.n t.keys t.index sheet book
  can_spread = record {
    ranged = Q.fine.ranged;
    few = Q.fine.sound.few;
    ready = sheet_clear c t Q.fine clear;
    fit = Q.fit;
    lawful = Q.lawful;
  }

  -- ---- what the test says
  abbrev touched : ℕ → Bool
  touched j = eqb (news c t (keys_of (shares c.d c.S (reading j)))) 0

  abbrev paired : ℕ → Bool
  paired i = let y = whole (key c t i) in eq_z (mass t i) (mass_from c.d c.S (tab t.n reading) y) && eq_z (value t i) (value_from c.d c.S (tab t.n reading) y)

  module _ {x : ℕ} {left : List ℤ} (L : Lifts c t.keys t.index sheet all_shares x left) where
    -- as many numbers of both as are compared
    pub can_compare : (2 * t.m ≤ length t.sums) × (2 * t.m ≤ length left)
    can_compare =
        let r = Q.fine.sound.indexed.sparse.room in
        (omega (arith, Q.fine.shape.sums), omega (arith, ap length L.left_is ∙ lift_length c t.keys t.index all_shares sheet, sheet_size))

    all_touched : eqb x 0 ≡ all t.n touched
    unfolding shares_to
    all_touched = ap (λ (n : ℕ). eqb n 0) L.missing_are ∙ none_missing c t.keys t.index t.n (λ j. shares c.d c.S (reading j))

    pub some_missing : (x ≡ 0 → ⊥) → false ≡ sums_theirs c t reading
    unfolding sums_theirs
    some_missing h = ap (λ (b : Bool). b && all t.m paired) (sym (ne_eqb x 0 h) ∙ all_touched)

    -- ---- where none is missing
    module _ (none : x ≡ 0) where
      -- the table with the sheet in the place of its sums
      abbrev blank : Table
      blank = record { n = t.n; m = t.m; keys = t.keys; sums = sheet; index = t.index }

      found_all : All (λ r. 0 < found c t r.key) all_shares
      found_all = news_none c t all_shares (sym L.missing_are ∙ none)

      left_is : left ≡ (pour c blank all_shares).sums
      left_is = L.left_is ∙ lift_pour c all_shares blank found_all

      poured : Raised c Q.fine.ranged.C_least blank all_shares (pour c blank all_shares)
      poured = raised c Q.fine.ranged.C_least all_shares blank (record {
        shape = record { keys = Q.fine.shape.keys; sums = sheet_size; index = Q.fine.shape.index };
        indexed = Q.fine.sound.indexed;
      }) found_all

      -- what all shares give to the key of a stored point, of a number f that each reading's give by w
      given_all : (f : Row → ℤ) (w : Reading → List ℤ → ℤ) → ((r : Reading) (i : ℕ) → i < t.m → over (shares c.d c.S r) (gives f (key c t i)) ≡ w r (whole (key c t i))) → (i : ℕ) → i < t.m
          → over all_shares (gives f (key c t i)) ≡ over (tab t.n reading) (λ r. w r (whole (key c t i)))
      unfolding shares_to
      given_all f w h i k = over_collect t.n (λ j. shares c.d c.S (reading j)) (gives f (key c t i))
          ∙ sum_cong t.n (λ j. over (shares c.d c.S (reading j)) (gives f (key c t i))) (λ j. w (reading j) (whole (key c t i))) (λ j g. h (reading j) i k)
          ∙ sym (over_tab t.n reading (λ r. w r (whole (key c t i))))

      own : (r : Reading) (i : ℕ) → i < t.m → given (shares c.d c.S r) (key c t i) ≡ (let w = pos (weight c.d c.S (at r.position) (at (whole (key c t i)))) in (w, w *ℤ r.value))
      own r i k = let G = Q.fine.sound.good i k in
          ap (given (shares c.d c.S r)) (sym (key_whole c.d (key c t i) G.size)) ∙ share_given c.d c.S Q.fine.ranged.S_least r (whole (key c t i)) G.point

      mass_on : (i : ℕ) → i < t.m → at left (2 * i) ≡ mass_from c.d c.S (tab t.n reading) (whole (key c t i))
      mass_on i k = ap (λ (s : List ℤ). at s (2 * i)) left_is ∙ poured.more mass_of (λ a b e. refl) i k
          ∙ ap₂ ◌+ℤ◌ (sheet_zero (2 * i)) (given_all mass_of (λ r y. pos (weight c.d c.S (at r.position) (at y))) (λ r i k. ap (λ (p : ℤ × ℤ). p.0) (own r i k)) i k)
          ∙ +ℤ_idl (mass_from c.d c.S (tab t.n reading) (whole (key c t i)))

      value_on : (i : ℕ) → i < t.m → at left (2 * i + 1) ≡ value_from c.d c.S (tab t.n reading) (whole (key c t i))
      value_on i k = ap (λ (s : List ℤ). at s (2 * i + 1)) left_is ∙ poured.more value_of (λ a b e. refl) i k
          ∙ ap₂ ◌+ℤ◌ (sheet_zero (2 * i + 1)) (given_all value_of (λ r y. pos (weight c.d c.S (at r.position) (at y)) *ℤ r.value) (λ r i k. ap (λ (p : ℤ × ℤ). p.1) (own r i k)) i k)
          ∙ +ℤ_idl (value_from c.d c.S (tab t.n reading) (whole (key c t i)))

      -- the numbers that are compared
      abbrev equal : ℕ → Bool
      equal p = eq_z (at t.sums p) (at left p)

      pairs_equal : (m : ℕ) → m ≤ t.m → all (2 * m) equal ≡ all m paired
      unfolding all
      pairs_equal zero h = refl
      pairs_equal (suc m) h =
          let e : 2 * suc m ≡ suc (suc (2 * m)) = omega arith in
          let f : suc (2 * m) ≡ 2 * m + 1 = omega arith in
          ap (λ (x : ℕ). all x equal) e ∙ and_assoc (all (2 * m) equal) (equal (2 * m)) (equal (suc (2 * m)))
          ∙ ap₂ ◌&&◌ (pairs_equal m (omega arith)) (ap₂ ◌&&◌ (ap (eq_z (mass t m)) (mass_on m h)) (ap equal f ∙ ap (eq_z (value t m)) (value_on m h)))
        where
          and_assoc : (a b d : Bool) → (a && b && d) ≡ (a && (b && d))
          and_assoc true b d = refl
          and_assoc false b d = refl

      pub compared : {r : Bool} → r ≡ all (2 * t.m) equal → r ≡ sums_theirs c t reading
      unfolding sums_theirs
      compared e = e ∙ pairs_equal t.m (omega arith) ∙ ap (λ (b : Bool). b && all t.m paired) (ap (λ (n : ℕ). eqb n 0) (sym none) ∙ all_touched)
