-- The test of a book says what the facts state.
use mathlib.Core.Path.{◌≡◌, refl, sym, ap, subst, ◌∙◌}
use mathlib.Core.Logic.{◌⊎◌, inl, inr}
use mathlib.Core.Bool.{Bool, true, false, not, cond, ◌&&◌}
use mathlib.Core.List.{List, [], ◌∷◌, map}
use Prim.Native.Nat.{ℕ, zero, suc, ◌+◌, ◌-◌, ◌≤◌, ◌<◌}
use native.Mathlib.Nat.{not-suc-le-zero, eq-or-lt_of_le, le_of_suc-le-suc}
use native.Mathlib.Omega.{arith}
use lib.Dec.{T, eqb, eqb→eq, eqb-suc-zero, leb, leb→le, le→leb}
use lib.IntN.{ℤ, pos, zero-*ℤ, ◌+ℤ◌, ◌*ℤ◌}
use lib.Signed.{◌≤ℤ◌}
use lib.ListN.{length, get_or, take}
use Rattle.whole.specs.Sum.{over, all}
use Rattle.whole.specs.Lists.{at, tab, All, Each}
use Rattle.whole.proofs.Lists.{length_tab}
use Rattle.whole.proofs.Tests.{and_l, and_r, and_i, all_at, all_of}
use Rattle.lattice.specs.Lattice.{Point}
use Rattle.lattice.specs.Weight.{weight}
use Rattle.lattice.specs.Points.{points}
use Rattle.lattice.proofs.Points.{exactly_these}
use Rattle.index.specs.Keys.{eq_z}
use Rattle.index.proofs.Equality.{eq-eqb, eq_z_eq, eq_z_refl}
use Rattle.table.specs.Table.{Settings, Table, Row, key, mass, value, keys_of, whole, found, pair_at, held}
use Rattle.table.specs.Sound.{Fine}
use Rattle.table.specs.Inner.{Kept}
use Rattle.table.specs.Pour.{news_in, news}
use Rattle.table.specs.Reading.{Reading, share, shares, own_refusal, Lawful, mass_from, value_from}
use Rattle.table.proofs.Lists.{tab_parts, map_tab, all_tab, all_list, all_map, each_tab}
use Rattle.table.proofs.Good.{key_whole, whole_key}
use Rattle.table.proofs.Soundness.{fine_kept}
use Rattle.table.proofs.Adding.{low_found, has_key, finds_key}
use Rattle.table.proofs.Meaning.{stored_iff}
use Rattle.table.proofs.Limits.{to_lawful, of_lawful}
use Rattle.book.specs.Book.{Numbered, number_at, entry_of, entries, Booked, among, keeps_limits, numbers_apart, sums_theirs, book_sound, Theirs, OtherNumber, Carries}
use Rattle.book.specs.Theorems.{SumsAreTheFact, BookSoundIsTheFact}
use Rattle.book.proofs.Given.{mass_some}

-- ---- "the book's readings keep the limits"
limits_kept : (d : ℕ) (r : Reading) → length r.position ≡ suc d → T (keeps_limits r) → Lawful d r
limits_kept d r size t = to_lawful r d size (eqb→eq (own_refusal r) 0 t)

-- ---- one of the first n numbers
pub among_at : (n : ℕ) (f : ℕ → ℤ) (k : ℤ) → T (among n f k) → (i : ℕ) × (i < n) × (f i ≡ k)
unfolding among
among_at zero f k t = absurd t
among_at (suc n) f k t = go (eq_z (f n) k) refl (among_at n f k)
  where
    go : (b : Bool) → eq_z (f n) k ≡ b → (T (among n f k) → (i : ℕ) × (i < n) × (f i ≡ k)) → (i : ℕ) × (i < suc n) × (f i ≡ k)
    go true e ih = (n, omega arith, eq_z_eq (f n) k (subst T (sym e) tt))
    go false e ih = let (i, l, q) = ih (subst (λ (b : Bool). T (cond b true (among n f k))) e t) in (i, omega arith, q)

pub at_among : (n : ℕ) (f : ℕ → ℤ) (k : ℤ) (i : ℕ) → i < n → f i ≡ k → T (among n f k)
unfolding among
at_among zero f k i l q = absurd (not-suc-le-zero l)
at_among (suc n) f k i l q = go (eq_z (f n) k) refl (at_among n f k i)
  where
    go : (b : Bool) → eq_z (f n) k ≡ b → (i < n → f i ≡ k → T (among n f k)) → T (cond b true (among n f k))
    go true e ih = tt
    go false e ih = other (eq-or-lt_of_le (le_of_suc-le-suc l))
      where
        other : (i ≡ n) ⊎ (i < n) → T (among n f k)
        other (inl z) = absurd (subst T e (subst (λ (x : ℤ). T (eq_z x k)) (sym (ap f (sym z) ∙ q)) (eq_z_refl k)))
        other (inr h) = ih h q

pub not_yes : (b : Bool) → T (not b) → T b → ⊥
not_yes true t u = t
not_yes false t u = u

pub yes_not : (b : Bool) → (T b → ⊥) → T (not b)
yes_not true h = h tt
yes_not false h = tt

-- ---- every point of some rows is stored
pub news_none : (c : Settings) (t : Table) (rs : List Row) → news c t (keys_of rs) ≡ 0 → All (λ r. 0 < found c t r.key) rs
unfolding news_in
news_none c t [] e = tt
news_none c t (r ∷ rs) e = go (found c t r.key) refl (news_none c t rs)
  where
    go : (x : ℕ) → found c t r.key ≡ x → (news c t (keys_of rs) ≡ 0 → All (λ r. 0 < found c t r.key) rs) → (0 < found c t r.key) × All (λ r. 0 < found c t r.key) rs
    go zero q ih = absurd (omega (arith, ap (λ (x : ℕ). cond (eqb x 0) 1 0 + news c t (keys_of rs)) (sym q) ∙ e))
    go (suc i) q ih = (omega (arith, q), ih (omega (arith, ap (λ (b : Bool). cond b 1 0 + news c t (keys_of rs)) (sym (ap (λ (x : ℕ). eqb x 0) q ∙ eqb-suc-zero i)) ∙ e)))

pub none_news : (c : Settings) (t : Table) (rs : List Row) → All (λ r. 0 < found c t r.key) rs → news c t (keys_of rs) ≡ 0
unfolding news_in
none_news c t [] h = refl
none_news c t (r ∷ rs) h = go (found c t r.key) refl (none_news c t rs h.1)
  where
    go : (x : ℕ) → found c t r.key ≡ x → news c t (keys_of rs) ≡ 0 → cond (eqb (found c t r.key) 0) 1 0 + news c t (keys_of rs) ≡ 0
    go zero q ih = absurd (omega (arith, h.0, q))
    go (suc i) q ih = rw (q, eqb-suc-zero i, ih) refl

-- ---- "the sums are theirs"
-- of readings one of which gives nothing to y
none_from : (d S : ℕ) (y : List ℤ) (rs : List Reading) → All (λ r. weight d S (at r.position) (at y) ≡ 0) rs → ◌≡◌ {A = ℤ × ℤ} (pos 0, pos 0) (mass_from d S rs y, value_from d S rs y)
unfolding over
none_from d S y [] h = refl
none_from d S y (r ∷ rs) h = let q = none_from d S y rs h.1 in
    λ i. (
      ((λ j. pos 0 +ℤ (q j).0) ∙ ap (λ (w : ℕ). pos w +ℤ mass_from d S rs y) (sym h.0)) i,
      ((λ j. pos 0 +ℤ (q j).1) ∙ ap (λ (z : ℤ). z +ℤ value_from d S rs y) (sym (ap (λ (w : ℕ). pos w *ℤ r.value) h.0 ∙ zero-*ℤ r.value))) i,
    )

module _ (c : Settings) (t : Table) (F : Fine c t) (r : ℕ → Reading) where
  abbrev rs : List Reading
  rs = tab t.n r

  abbrev touched : ℕ → Bool
  touched j = eqb (news c t (keys_of (shares c.d c.S (r j)))) 0

  abbrev paired : ℕ → Bool
  paired i = let y = whole (key c t i) in eq_z (mass t i) (mass_from c.d c.S rs y) && eq_z (value t i) (value_from c.d c.S rs y)

  -- a reading gives no weight to a point that is not stored
  unstored : T (all t.n touched) → (y : List ℤ) → Point c.d y → found c t (take c.d y) ≡ 0 → (j : ℕ) → j < t.n → weight c.d c.S (at (r j).position) (at y) ≡ 0
  unfolding shares
  unstored h y Y e j l = go (weight c.d c.S (at (r j).position) (at y)) refl
    where
      go : (w : ℕ) → weight c.d c.S (at (r j).position) (at y) ≡ w → weight c.d c.S (at (r j).position) (at y) ≡ 0
      go zero q = q
      go (suc w) q =
          let ps = points c.d c.S (r j).position in
          let (m, k, f) = (exactly_these c.d c.S F.ranged.S_least (r j).position).full y Y (omega (arith, q)) in
          let A = news_none c t (shares c.d c.S (r j)) (eqb→eq _ 0 (all_at t.n touched h j l)) in
          absurd (omega (arith, e, at_point ps A m k f))
        where
          all_place : (ps : List (List ℤ)) → All (λ s. 0 < found c t s.key) (map (share c.d c.S (r j)) ps) → (m : ℕ) → m < length ps → 0 < found c t (take c.d (get_or ps m []))
          all_place [] A m k = absurd (not-suc-le-zero k)
          all_place (p ∷ ps) A zero k = A.0
          all_place (p ∷ ps) A (suc m) k = all_place ps A.1 m (le_of_suc-le-suc k)

          at_point : (ps : List (List ℤ)) → All (λ s. 0 < found c t s.key) (map (share c.d c.S (r j)) ps) → (m : ℕ) → m < length ps → get_or ps m [] ≡ y → 0 < found c t (take c.d y)
          at_point ps A m k f = subst (λ (y : List ℤ). 0 < found c t (take c.d y)) f (all_place ps A m k)

  pub to_theirs : T (sums_theirs c t r) → Theirs c t rs
  unfolding sums_theirs
  to_theirs h y Y = go (found c t (take c.d y)) refl
    where
      kept : Kept c t
      kept = fine_kept c t F

      go : (x : ℕ) → found c t (take c.d y) ≡ x → pair_at t.sums x ≡ (mass_from c.d c.S rs y, value_from c.d c.S rs y)
      go zero e = none_from c.d c.S y rs (all_tab (λ r. weight c.d c.S (at r.position) (at y) ≡ 0) t.n r (unstored (and_l (all t.n touched) (all t.m paired) h) y Y e))
      go (suc i) e =
          let l = low_found c F.ranged.C_least t kept (take c.d y) i e in
          let w : whole (key c t i) ≡ y = ap whole (has_key c F.ranged.C_least t kept (take c.d y) i e) ∙ whole_key c.d y Y in
          let p = all_at t.m paired (and_r (all t.n touched) (all t.m paired) h) i l in
          let u = whole (key c t i) in
          let a = eq_z (mass t i) (mass_from c.d c.S rs u) in
          let b = eq_z (value t i) (value_from c.d c.S rs u) in
          λ j. (
            (eq_z_eq (mass t i) (mass_from c.d c.S rs u) (and_l a b p) ∙ ap (mass_from c.d c.S rs) w) j,
            (eq_z_eq (value t i) (value_from c.d c.S rs u) (and_r a b p) ∙ ap (value_from c.d c.S rs) w) j,
          )

  pub of_theirs : Theirs c t rs → T (sums_theirs c t r)
  unfolding sums_theirs
  of_theirs H = and_i (all t.n touched) (all t.m paired) (all_of t.n touched each_touched) (all_of t.m paired each_paired)
    where
      kept : Kept c t
      kept = fine_kept c t F

      least : (y : List ℤ) (j : ℕ) → j < t.n → 0 < weight c.d c.S (at (r j).position) (at y) → pos 1 ≤ℤ mass_from c.d c.S rs y
      least y j l h =
          let a = tab j r in
          let z = tab (t.n - suc j) (λ i. r (j + suc i)) in
          subst (λ (rs : List Reading). pos 1 ≤ℤ mass_from c.d c.S rs y) (sym (tab_parts t.n r j l)) (mass_some c.d c.S y a (r j) z h)

      each_touched : (j : ℕ) → j < t.n → T (touched j)
      each_touched j l = eq-eqb _ 0 (none_news c t (shares c.d c.S (r j)) (found_all j l))
        where
          found_all : (j : ℕ) → j < t.n → All (λ s. 0 < found c t s.key) (shares c.d c.S (r j))
          found_all j l = unfold shares in
              let ps = points c.d c.S (r j).position in
              let the = exactly_these c.d c.S F.ranged.S_least (r j).position in
              all_map (λ s. 0 < found c t s.key) (share c.d c.S (r j)) ps (all_list (λ y. 0 < found c t (take c.d y)) ps []
              (λ m k. let y = get_or ps m [] in (stored_iff c F.ranged.C_least t kept (take c.d y)).1
              (subst (λ (p : ℤ × ℤ). pos 1 ≤ℤ p.0) (sym (H y (the.point m k))) (least y j l (the.heavy m k)))))

      each_paired : (i : ℕ) → i < t.m → T (paired i)
      each_paired i l =
          let G = F.sound.good i l in
          let y = whole (key c t i) in
          let e = sym (ap (pair_at t.sums) (finds_key c F.ranged.C_least t kept (key c t i) i l refl)) ∙ ap (held c t) (sym (key_whole c.d (key c t i) G.size)) ∙ H y G.point in
          let m = mass_from c.d c.S rs y in
          let v = value_from c.d c.S rs y in
          and_i (eq_z (mass t i) m) (eq_z (value t i) v)
          (subst (λ (x : ℤ). T (eq_z (mass t i) x)) (ap (λ (p : ℤ × ℤ). p.0) e) (eq_z_refl (mass t i)))
          (subst (λ (x : ℤ). T (eq_z (value t i) x)) (ap (λ (p : ℤ × ℤ). p.1) e) (eq_z_refl (value t i)))

-- ---- lists made place by place
module _ {A : Type 0} where
  all_place : (Q : A → Type 0) (n : ℕ) (f : ℕ → A) → All Q (tab n f) → (j : ℕ) → j < n → Q (f j)
  unfolding tab
  all_place Q zero f h j l = absurd (not-suc-le-zero l)
  all_place Q (suc n) f h zero l = h.0
  all_place Q (suc n) f h (suc j) l = all_place Q n (λ i. f (suc i)) h.1 j (le_of_suc-le-suc l)

  pub each_place : (R : A → A → Type 0) (n : ℕ) (f : ℕ → A) → Each R (tab n f) → (i j : ℕ) → i < j → j < n → R (f i) (f j)
  unfolding tab
  each_place R zero f h i j k l = absurd (not-suc-le-zero l)
  each_place R (suc n) f h zero zero k l = absurd (not-suc-le-zero k)
  each_place R (suc n) f h (suc i) zero k l = absurd (not-suc-le-zero k)
  each_place R (suc n) f h zero (suc j) k l = all_place (R (f 0)) n (λ i. f (suc i)) h.0 j (le_of_suc-le-suc l)
  each_place R (suc n) f h (suc i) (suc j) k l = each_place R n (λ i. f (suc i)) h.1 i j (le_of_suc-le-suc k) (le_of_suc-le-suc l)

-- ---- the book of a table
module _ (c : Settings) (b : Booked) (F : Fine c b.table) where
  abbrev entry_at : ℕ → Numbered
  entry_at = entry_of c.d b.book

  abbrev number_at_lem : ℕ → ℤ
  number_at_lem = number_at c.d b.book

  -- whether entry j has another number than those before it
  abbrev other : ℕ → Bool
  other j = not (among j number_at_lem (number_at_lem j))

  abbrev lawfuls : Bool
  lawfuls = all b.table.n (λ j. keeps_limits (entry_of c.d b.book j).reading)

  abbrev others : Bool
  others = numbers_apart b.table.n number_at_lem

  abbrev sums : Bool
  sums = sums_theirs c b.table (λ j. (entry_of c.d b.book j).reading)

  pub to_carries : T (book_sound c b) → (b.table.n ≤ b.room) × Carries c b.table (entries c.d b.table.n b.book)
  unfolding book_sound entries
  to_carries h =
      let few = leb b.table.n b.room in
      let g = and_r few (lawfuls && others && sums) h in
      let lo = and_l (lawfuls && others) sums g in (
        leb→le b.table.n b.room (and_l few (lawfuls && others && sums) h),
        record {
          counts = sym (length_tab b.table.n entry_at);
          limits = all_tab (λ e. Lawful c.d e.reading) b.table.n entry_at (λ j l. limits_kept c.d (entry_at j).reading (length_tab (suc c.d) _)
              (all_at b.table.n (λ j. keeps_limits (entry_at j).reading) (and_l lawfuls others lo) j l));
          apart = each_tab OtherNumber b.table.n entry_at (λ i j k l e.
              not_yes (among j number_at_lem (number_at_lem j)) (all_at b.table.n other (and_r lawfuls others lo) j l)
              (at_among j number_at_lem (number_at_lem j) i k e));
          sums = subst (Theirs c b.table) (sym (map_tab (λ (e : Numbered). e.reading) b.table.n entry_at)) (to_theirs c b.table F (λ j. (entry_at j).reading) (and_r (lawfuls && others) sums g));
        },
      )

  -- each entry keeps the limits, and its points are stored
  pub entry_lawful : T (book_sound c b) → (j : ℕ) → j < b.table.n → Lawful c.d (entry_of c.d b.book j).reading
  unfolding book_sound
  entry_lawful h j l =
      let few = leb b.table.n b.room in
      let lo = and_l (lawfuls && others) sums (and_r few (lawfuls && others && sums) h) in
      limits_kept c.d (entry_at j).reading (length_tab (suc c.d) _) (all_at b.table.n (λ j. keeps_limits (entry_at j).reading) (and_l lawfuls others lo) j l)

  pub entry_stored : T (book_sound c b) → (j : ℕ) → j < b.table.n → news c b.table (keys_of (shares c.d c.S (entry_of c.d b.book j).reading)) ≡ 0
  unfolding book_sound sums_theirs
  entry_stored h j l =
      let few = leb b.table.n b.room in
      let touched : ℕ → Bool = λ j. eqb (news c b.table (keys_of (shares c.d c.S (entry_of c.d b.book j).reading))) 0 in
      let s = and_r (lawfuls && others) sums (and_r few (lawfuls && others && sums) h) in
      eqb→eq _ 0 (all_at b.table.n touched (and_l (all b.table.n touched) _ s) j l)

  pub of_carries : b.table.n ≤ b.room → Carries c b.table (entries c.d b.table.n b.book) → T (book_sound c b)
  unfolding book_sound entries
  of_carries few K = and_i (leb b.table.n b.room) (lawfuls && others && sums) (le→leb b.table.n b.room few)
      (and_i (lawfuls && others) sums (and_i lawfuls others
      (all_of b.table.n (λ j. keeps_limits (entry_at j).reading) (λ j l.
      eq-eqb (own_refusal (entry_at j).reading) 0 (of_lawful (entry_at j).reading c.d (all_place (λ e. Lawful c.d e.reading) b.table.n entry_at K.limits j l))))
      (all_of b.table.n other (λ j l. yes_not (among j number_at_lem (number_at_lem j))
      (λ s. let (i, k, e) = among_at j number_at_lem (number_at_lem j) s in each_place OtherNumber b.table.n entry_at K.apart i j k l e))))
      (of_theirs c b.table F (λ j. (entry_at j).reading) (subst (Theirs c b.table) (map_tab (λ (e : Numbered). e.reading) b.table.n entry_at) K.sums)))

-- ---- the statements
pub sums_are_the_fact : SumsAreTheFact
sums_are_the_fact c t F r = (to_theirs c t F r, of_theirs c t F r)

pub book_sound_is_the_fact : BookSoundIsTheFact
book_sound_is_the_fact c b F = (to_carries c b F, λ p. of_carries c b F p.0 p.1)
