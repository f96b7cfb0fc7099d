-- A sound table without one of the readings of its book: it is sound, and carries the others.
use mathlib.Core.Path.{◌≡◌, refl, sym, ap, ap₂, subst, ◌∙◌}
use mathlib.Core.Logic.{◌⊎◌, inl, inr}
use mathlib.Core.Bool.{Bool, true, false}
use mathlib.Core.List.{List, [], ◌∷◌, ◌++◌, map, map-append}
use Prim.Native.Nat.{ℕ, zero, suc, ◌+◌, ◌*◌, ◌-◌, ◌<◌}
use native.Mathlib.Omega.{arith}
use lib.Dec.{T}
use lib.IntN.{ℤ, pos, neg_ℤ, +ℤ_idr, ◌+ℤ◌, ◌*ℤ◌}
use lib.Signed.{◌≤ℤ◌}
use lib.ListN.{length, get_or, take, length-append}
use Rattle.whole.specs.Sum.{over}
use Rattle.whole.specs.Lists.{at, tab, All, Each}
use Rattle.whole.proofs.Linear.{on, difs, ints}
use Rattle.whole.proofs.Sum.{pick}
use Rattle.lattice.specs.Lattice.{Point}
use Rattle.lattice.specs.Weight.{W, weight}
use Rattle.lattice.specs.Points.{points}
use Rattle.lattice.proofs.Points.{exactly_these}
use Rattle.index.specs.Keys.{same}
use Rattle.index.proofs.Equality.{same_eq}
use Rattle.index.proofs.Finding.{keys_apart}
use Rattle.table.specs.Table.{Settings, Table, Row, key, mass, value, row, rows, whole, entry, found, pair_at, held, mass_of}
use Rattle.table.specs.Sound.{Fine}
use Rattle.table.specs.Reading.{Reading, share, shares, mass_from, value_from, Lawful}
use Rattle.table.proofs.Lists.{all_list, all_map, over_tab}
use Rattle.table.proofs.Rows.{Additive, value_of, gives, given}
use Rattle.table.specs.Inner.{Kept}
use Rattle.table.proofs.Good.{GoodKey, key_whole, whole_key}
use Rattle.table.proofs.Soundness.{fine_kept, masses_over}
use Rattle.table.proofs.Adding.{low_found, has_key, finds_key}
use Rattle.table.proofs.Shares.{shares_mass, share_given}
use Rattle.table.proofs.Meaning.{stored_iff}
use Rattle.book.specs.Book.{Numbered, readings_of, OtherNumber, Carries}
use Rattle.book.specs.Withdraw.{negated, lowered, leave, withdrawn}
use Rattle.book.proofs.Afresh.{afresh_length, afresh_indexed}
use Rattle.book.proofs.Given.{mass_low, none_given, mass_with, mass_some, value_with, value_low, value_high, zero_or_more}
use Rattle.book.proofs.Lowering.{other_sign, Raised, raised, over_negated, given_negated}
use Rattle.book.proofs.Leaving.{Hit, Left, left_all}

-- a row of the key k, or the rows give nothing to it
hit_or : (k : List ℤ) (rs : List Row) → Hit k rs ⊎ (over rs (gives mass_of k) ≡ pos 0)
unfolding over
hit_or k [] = inr refl
hit_or k (r ∷ rs) = go (same r.key k) refl (hit_or k rs)
  where
    go : (b : Bool) → same r.key k ≡ b → Hit k rs ⊎ (over rs (gives mass_of k) ≡ pos 0) → Hit k (r ∷ rs) ⊎ (pick b r.mass +ℤ over rs (gives mass_of k) ≡ pos 0)
    go true q h = inl (inl (same_eq r.key k (subst T (sym q) tt)))
    go false q (inl h) = inl (inr h)
    go false q (inr h) = inr (ap (λ (z : ℤ). pos 0 +ℤ z) h)

readings_with : (a z : List Numbered) (e : Numbered) → readings_of (a ++ (e ∷ z)) ≡ readings_of a ++ (e.reading ∷ readings_of z)
readings_with a z e = map-append (λ (e : Numbered). e.reading) a (e ∷ z)

readings_without : (a z : List Numbered) → readings_of (a ++ z) ≡ readings_of a ++ readings_of z
readings_without a z = map-append (λ (e : Numbered). e.reading) a z

-- ---- a list without one of its elements
module _ {A : Type 0} where
  all_drop : (Q : A → Type 0) (a : List A) (e : A) (z : List A) → All Q (a ++ (e ∷ z)) → All Q (a ++ z)
  all_drop Q [] e z h = h.1
  all_drop Q (x ∷ a) e z h = (h.0, all_drop Q a e z h.1)

  each_drop : (R : A → A → Type 0) (a : List A) (e : A) (z : List A) → Each R (a ++ (e ∷ z)) → Each R (a ++ z)
  each_drop R [] e z h = h.1
  each_drop R (x ∷ a) e z h = (all_drop (R x) a e z h.0, each_drop R a e z h.1)

module _ (c : Settings) (t : Table) (F : Fine c t) (a z : List Numbered) (e : Numbered) (K : Carries c t (a ++ (e ∷ z))) where
  abbrev d : ℕ
  d = c.d

  abbrev S : ℕ
  S = c.S

  abbrev some_room : 0 < c.C
  some_room = F.ranged.C_least

  abbrev weigh : List ℤ → ℕ
  weigh y = weight d S (at e.reading.position) (at y)

  -- what all readings give is what those that stay give, and the reading's own
  mass_all : (y : List ℤ) → mass_from d S (readings_of (a ++ (e ∷ z))) y ≡ mass_from d S (readings_of (a ++ z)) y +ℤ pos (weigh y)
  mass_all y = ap (λ (rs : List Reading). mass_from d S rs y) (readings_with a z e) ∙ mass_with d S y (readings_of a) e.reading (readings_of z)
      ∙ ap (λ (rs : List Reading). mass_from d S rs y +ℤ pos (weigh y)) (sym (readings_without a z))

  value_all : (y : List ℤ) → value_from d S (readings_of (a ++ (e ∷ z))) y ≡ value_from d S (readings_of (a ++ z)) y +ℤ pos (weigh y) *ℤ e.reading.value
  value_all y = ap (λ (rs : List Reading). value_from d S rs y) (readings_with a z e) ∙ value_with d S y (readings_of a) e.reading (readings_of z)
      ∙ ap (λ (rs : List Reading). value_from d S rs y +ℤ pos (weigh y) *ℤ e.reading.value) (sym (readings_without a z))

  -- a point to which a reading gives weight is stored
  stored : (y : List ℤ) → Point d y → pos 1 ≤ℤ mass_from d S (readings_of (a ++ (e ∷ z))) y → 0 < found c t (take d y)
  stored y Y h = (stored_iff c some_room t (fine_kept c t F) (take d y)).1 (subst (λ (p : ℤ × ℤ). pos 1 ≤ℤ p.0) (sym (K.sums y Y)) h)

  found_own : All (λ s. 0 < found c t s.key) (shares d S e.reading)
  unfolding shares
  found_own =
      let ps = points d S e.reading.position in
      let the = exactly_these d S F.ranged.S_least e.reading.position in
      all_map (λ s. 0 < found c t s.key) (share d S e.reading) ps (all_list (λ y. 0 < found c t (take d y)) ps []
      (λ m l. let y = get_or ps m [] in stored y (the.point m l) (rw (readings_with a z e) (mass_some d S y (readings_of a) e.reading (readings_of z) (the.heavy m l)))))

  found_negated : All (λ s. 0 < found c t s.key) (map negated (shares d S e.reading))
  found_negated = all_map (λ s. 0 < found c t s.key) negated (shares d S e.reading) found_own

  low : Table
  low = lowered c t (shares d S e.reading)

  raised_low : Raised c some_room t (map negated (shares d S e.reading)) low
  unfolding low
  raised_low = raised c some_room (map negated (shares d S e.reading)) t (record { shape = F.shape; indexed = F.sound.indexed }) found_negated

  -- ---- what the points have
  own : (i : ℕ) → i < t.m → held c t (key c t i) ≡ (mass t i, value t i)
  own i l = ap (pair_at t.sums) (finds_key c some_room t (fine_kept c t F) (key c t i) i l refl)

  theirs : (i : ℕ) → i < t.m → let y = whole (key c t i) in
      ◌≡◌ {A = ℤ × ℤ} (mass t i, value t i) (mass_from d S (readings_of (a ++ (e ∷ z))) y, value_from d S (readings_of (a ++ (e ∷ z))) y)
  theirs i l = let G = F.sound.good i l in
      sym (own i l) ∙ ap (held c t) (sym (key_whole d (key c t i) G.size)) ∙ K.sums (whole (key c t i)) G.point

  given_own : (i : ℕ) → i < t.m → given (shares d S e.reading) (key c t i) ≡ (let w = pos (weigh (whole (key c t i))) in (w, w *ℤ e.reading.value))
  given_own i l = let G = F.sound.good i l in
      ap (given (shares d S e.reading)) (sym (key_whole d (key c t i) G.size)) ∙ share_given d S F.ranged.S_least e.reading (whole (key c t i)) G.point

  back : (m w r x y : ℤ) → m ≡ x → x ≡ r +ℤ w → y ≡ neg_ℤ w → m +ℤ y ≡ r
  back = on _ λ a b. on _ λ c d. on _ λ e f. on _ λ g h. on _ λ i j. simp difs (omega ints)

  low_mass : (i : ℕ) → i < t.m → mass low i ≡ mass_from d S (readings_of (a ++ z)) (whole (key c t i))
  low_mass i l = let y = whole (key c t i) in
      raised_low.more mass_of (λ a b e. refl) i l
      ∙ back (mass t i) (pos (weigh y)) (mass_from d S (readings_of (a ++ z)) y) _ _ (ap (λ (p : ℤ × ℤ). p.0) (theirs i l)) (mass_all y)
      (given_negated mass_of (λ r. refl) (key c t i) (shares d S e.reading) ∙ ap (λ (p : ℤ × ℤ). neg_ℤ p.0) (given_own i l))

  low_value : (i : ℕ) → i < t.m → value low i ≡ value_from d S (readings_of (a ++ z)) (whole (key c t i))
  low_value i l = let y = whole (key c t i) in
      raised_low.more value_of (λ a b e. refl) i l
      ∙ back (value t i) (pos (weigh y) *ℤ e.reading.value) (value_from d S (readings_of (a ++ z)) y) _ _ (ap (λ (p : ℤ × ℤ). p.1) (theirs i l)) (value_all y)
      (given_negated value_of (λ r. refl) (key c t i) (shares d S e.reading) ∙ ap (λ (p : ℤ × ℤ). neg_ℤ p.1) (given_own i l))

  -- its own point, or it gives nothing to it
  low_some : (i : ℕ) → i < t.m → (pos 1 ≤ℤ mass low i) ⊎ Hit (key c t i) (shares d S e.reading)
  low_some i l = go (hit_or (key c t i) (shares d S e.reading))
    where
      go : Hit (key c t i) (shares d S e.reading) ⊎ (over (shares d S e.reading) (gives mass_of (key c t i)) ≡ pos 0) → (pos 1 ≤ℤ mass low i) ⊎ Hit (key c t i) (shares d S e.reading)
      go (inl h) = inr h
      go (inr h) = inl (subst (λ (m : ℤ). pos 1 ≤ℤ m) (sym (raised_low.more mass_of (λ a b e. refl) i l
          ∙ ap (λ (x : ℤ). mass t i +ℤ x) (given_negated mass_of (λ r. refl) (key c t i) (shares d S e.reading) ∙ ap neg_ℤ h) ∙ +ℤ_idr (mass t i))) (F.sound.good i l).some)

  -- ---- the total
  count : t.n ≡ suc (length (a ++ z))
  count = K.counts ∙ length-append a (e ∷ z) ∙ omega (arith, length-append a z)

  -- what a sum over the points comes to without the reading
  abbrev less : (Row → ℤ) → ℤ
  less f = over (rows c t) f +ℤ neg_ℤ (over (shares d S e.reading) f)

  less_mass : less mass_of ≡ pos (W d S * (t.n - 1))
  less_mass = ap₂ ◌+ℤ◌ (masses_over c t ∙ F.sound.masses ∙ ap pos split) (ap neg_ℤ (shares_mass d S F.ranged.S_least e.reading))
      ∙ lin (pos (W d S * (t.n - 1))) (pos (W d S))
    where
      more : (w k n : ℕ) → n ≡ suc k → w * n ≡ w * (n - 1) + w
      more w k n q = let p : n - 1 ≡ k = omega arith in rw (p, q) (omega arith)

      split : W d S * t.n ≡ W d S * (t.n - 1) + W d S
      split = more (W d S) (length (a ++ z)) t.n count

      lin : (a b : ℤ) → (a +ℤ b) +ℤ neg_ℤ b ≡ a
      lin = on _ λ a b. on _ λ c d. simp difs (omega ints)

  low_sums : (f : Row → ℤ) → Additive f → over (tab low.m (row c low)) f ≡ less f
  unfolding rows
  low_sums f A = raised_low.sums f A ∙ ap (λ (x : ℤ). over (rows c t) f +ℤ x) (over_negated f (other_sign f A) (shares d S e.reading))

  -- ---- before any point leaves
  abbrev rest : List Reading
  rest = readings_of (a ++ z)

  low_key : (i : ℕ) → key c low i ≡ key c t i
  low_key i = ap (λ (l : List ℤ). key c (record { n = t.n; m = t.m; keys = l; sums = t.sums; index = t.index }) i) raised_low.same_keys

  is_low : (i : ℕ) → i < low.m → i < t.m
  is_low i l = omega (arith, raised_low.same_m)

  begin : Left c rest less (shares d S e.reading) low
  begin = record {
    shape = raised_low.shape;
    room = omega (arith, raised_low.same_m, F.sound.indexed.sparse.room);
    apart = λ i j l h q. keys_apart c.C t.m (key c t) (entry t) some_room F.sound.indexed i j (is_low i l) (is_low j h) (sym (low_key i) ∙ q ∙ low_key j);
    good = λ i l. let G = F.sound.good i (is_low i l) in subst (GoodKey d) (sym (low_key i)) (record { size = G.size; point = G.point; near = G.near });
    masses = λ i l. low_mass i (is_low i l) ∙ ap (λ (k : List ℤ). mass_from d S rest (whole k)) (sym (low_key i));
    values = λ i l. low_value i (is_low i l) ∙ ap (λ (k : List ℤ). value_from d S rest (whole k)) (sym (low_key i));
    full = λ y Y h. has y (found c t (take d y)) refl (stored y Y (rw (mass_all y) (lin (weigh y) (mass_from d S rest y) h)));
    some = λ i l. subst (λ (k : List ℤ). (pos 1 ≤ℤ mass low i) ⊎ Hit k (shares d S e.reading)) (sym (low_key i)) (low_some i (is_low i l));
    total = λ f A. sym (over_tab low.m (row c low) f) ∙ low_sums f A;
  }
    where
      lin : (w : ℕ) (m : ℤ) → pos 1 ≤ℤ m → pos 1 ≤ℤ (m +ℤ pos w)
      lin w = on _ λ a b. simp difs (omega ints)

      has : (y : List ℤ) (x : ℕ) → found c t (take d y) ≡ x → 0 < found c t (take d y) → (i : ℕ) × (i < low.m) × (key c low i ≡ take d y)
      has y zero q h = absurd (omega arith)
      has y (suc i) q h =
          let l = low_found c some_room t (fine_kept c t F) (take d y) i q in
          (i, omega (arith, raised_low.same_m), low_key i ∙ has_key c some_room t (fine_kept c t F) (take d y) i q)

  -- ---- after all that leave have left
  left : Table
  left = leave c low (shares d S e.reading)

  done : Left c rest less [] left
  unfolding left
  done = left_all c rest less (shares d S e.reading) low begin

  lawful : All (Lawful d) rest
  lawful = all_map (Lawful d) (λ e. e.reading) (a ++ z) (all_drop (λ e. Lawful d e.reading) a e z K.limits)

  heavy : (i : ℕ) → i < left.m → pos 1 ≤ℤ mass left i
  heavy i l = go (done.some i l)
    where
      go : (pos 1 ≤ℤ mass left i) ⊎ ⊥ → pos 1 ≤ℤ mass left i
      go (inl h) = h
      go (inr h) = absurd h

  pub withdrawn_fine : Fine c (withdrawn c t e.reading)
  unfolding withdrawn left low
  withdrawn_fine = record {
    ranged = F.ranged;
    shape = record { keys = done.shape.keys; sums = done.shape.sums; index = afresh_length c.C some_room (key c left) left.m };
    sound = record {
      indexed = afresh_indexed c.C some_room (key c left) left.m done.room done.apart;
      few = omega (arith, F.sound.few);
      good = λ i l. let G = done.good i l in let y = whole (key c left i) in record {
        size = G.size;
        point = G.point;
        near = G.near;
        some = heavy i l;
        low = rw (done.masses i l, done.values i l) (value_low d S y rest lawful);
        high = rw (done.masses i l, done.values i l) (value_high d S y rest lawful);
      };
      masses = done.total mass_of (λ a b e. refl) ∙ less_mass;
    };
  }

  pub withdrawn_carries : Carries c (withdrawn c t e.reading) (a ++ z)
  unfolding withdrawn left low
  withdrawn_carries = record {
    counts = omega (arith, count);
    limits = all_drop (λ e. Lawful d e.reading) a e z K.limits;
    apart = each_drop OtherNumber a e z K.apart;
    sums = λ y Y. go y Y (found c out (take d y)) refl;
  }
    where
      out : Table
      out = withdrawn c t e.reading

      kept : Kept c out
      kept = fine_kept c out withdrawn_fine

      go : (y : List ℤ) → Point d y → (x : ℕ) → found c out (take d y) ≡ x → pair_at out.sums x ≡ (mass_from d S rest y, value_from d S rest y)
      go y Y (suc i) q =
          let l = low_found c some_room out kept (take d y) i q in
          let w : whole (key c left i) ≡ y = ap whole (has_key c some_room out kept (take d y) i q) ∙ whole_key d y Y in
          λ j. ((done.masses i l ∙ ap (mass_from d S rest) w) j, (done.values i l ∙ ap (value_from d S rest) w) j)
      go y Y zero q = empty (zero_or_more (mass_from d S rest y) (mass_low d S y rest))
        where
          empty : (mass_from d S rest y ≡ pos 0) ⊎ (pos 1 ≤ℤ mass_from d S rest y) → ◌≡◌ {A = ℤ × ℤ} (pos 0, pos 0) (mass_from d S rest y, value_from d S rest y)
          empty (inl h) = λ j. (sym h j, sym (none_given d S y rest h) j)
          empty (inr h) = let (i, l, k) = done.full y Y h in absurd (omega (arith, q, finds_key c some_room out kept (take d y) i l k))

  -- a sum over its points is less by what the reading's shares come to
  pub withdrawn_sums : (f : Row → ℤ) → Additive f → over (rows c (withdrawn c t e.reading)) f ≡ less f
  unfolding rows withdrawn left low
  withdrawn_sums f A = over_tab left.m (row c left) f ∙ done.total f A
