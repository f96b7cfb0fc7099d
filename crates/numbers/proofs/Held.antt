-- Whether a number is held, and the lowest that is not: what the index tells, in words of the book.
use mathlib.Core.Path.{◌≡◌, refl, sym, ap, ap₂, subst, ◌∙◌}
use mathlib.Core.Bool.{Bool, true, false, not, cond}
use mathlib.Core.List.{List}
use Prim.Native.Nat.{ℕ, zero, suc, ◌+◌, ◌-◌, ◌≤◌, ◌<◌}
use native.Mathlib.Numerals.{add-one}
use native.Mathlib.Nat.{le_refl}
use native.Mathlib.Decide.{ℕ_discrete, dec_lt}
use native.Mathlib.Omega.{arith}
use lib.Dec.{T, eqb-suc-zero}
use lib.IntN.{ℤ, pos}
use lib.Seq.{get_or-set_same, get_or-set_other}
use Rattle.std.specs.Option.{MatchOption, unwrap_or}
use Rattle.std.specs.declared.option.Option.{Option}
use Rattle.std.specs.declared.option.Option.TheVariants.{None, Some}
use Rattle.whole.specs.Sum.{all}
use Rattle.whole.specs.Lists.{at}
use Rattle.whole.proofs.Tests.{T_true}
use Rattle.index.specs.Search.{entry_at}
use Rattle.table.proofs.Refusals.{T_of}
use Rattle.book.specs.Book.{among, numbers_apart}
use Rattle.book.specs.Numbers.{lowest_from}
use Rattle.book.proofs.Testing.{among_at, at_among}
use Rattle.numbers.specs.Indexing.{is_named, place_for, NumberIndex, Adds, IndexesBook, HeldBelow}
use Rattle.numbers.proofs.Numbering.{is_among, is_new}
use Rattle.numbers.proofs.Apart.{among_same}

-- ---- a number is held exactly where the place names an entry
module _ (n : ℕ) (numbers : List ℤ) (places : List ℕ) (X : NumberIndex n numbers places) where
  pub named_among : (k : ℤ) → is_named numbers places k ≡ among n (at numbers) k
  named_among k = go (entry_at places (place_for numbers places k)) refl
    where
      go : (e : ℕ) → entry_at places (place_for numbers places k) ≡ e → is_named numbers places k ≡ among n (at numbers) k
      go zero e = rw e (sym (is_new n numbers places X k e))
      go (suc i) e = rw (e, eqb-suc-zero i) (sym (is_among n numbers places X k (λ z. absurd (omega (arith, e, z)))))

  -- where they are the numbers of something else, as of a book
  pub named_held : (f : ℕ → ℤ) → ((j : ℕ) → j < n → at numbers j ≡ f j) → (k : ℤ) → is_named numbers places k ≡ among n f k
  named_held f h k = named_among k ∙ among_same n (at numbers) f k h

-- ---- the numbers of a sound book are all indexed, so what is told by the index is told of the book
module _ (n : ℕ) (f : ℕ → ℤ) {begin : List ℤ} {ok : Bool} (numbers : List ℤ) (places : List ℕ) (I : IndexesBook n f begin ok numbers places) (apart : numbers_apart n f ≡ true) where
  pub book_index : NumberIndex n numbers places
  book_index = I.index_is (I.ok_is ∙ apart)

  pub none_named : (count : ℕ) (g : ℕ → ℤ) {r : Bool} → r ≡ all count (λ j. not (is_named numbers places (g j))) → r ≡ all count (λ j. not (among n f (g j)))
  none_named count g e = e ∙ ap (all count) (λ x j. not (named_held n numbers places book_index f (I.copied (I.ok_is ∙ apart)) (g j) x))

-- ---- the lowest that is not held
pub lowest_same : (tries n : ℕ) (f g : ℕ → ℤ) (k : ℕ) → ((j : ℕ) → j < n → f j ≡ g j) → lowest_from tries n f k ≡ lowest_from tries n g k
unfolding lowest_from
lowest_same zero n f g k h = refl
lowest_same (suc tries) n f g k h = ap₂ (λ (b : Bool) (m : ℕ). cond b m k) (among_same n f g (pos k) h) (lowest_same tries n f g (suc k) h)

-- one that is held is passed,
pub next_on : (n : ℕ) (f : ℕ → ℤ) (k : ℕ) → among n f (pos k) ≡ true → k < n → lowest_from (n - k) n f k ≡ lowest_from (n - (k + 1)) n f (k + 1)
unfolding lowest_from
next_on n f k e l =
    let more : n - k ≡ suc (n - (k + 1)) = omega arith in
    rw more (rw e (ap (lowest_from (n - (k + 1)) n f) (sym (add-one k))))

-- one that is not stops,
pub new_stops : (tries n : ℕ) (f : ℕ → ℤ) (k : ℕ) → among n f (pos k) ≡ false → lowest_from tries n f k ≡ k
unfolding lowest_from
new_stops zero n f k e = refl
new_stops (suc tries) n f k e = rw e refl

-- where all below n were tried it is n,
pub all_tried : (n : ℕ) (f : ℕ → ℤ) (k : ℕ) → k ≡ n → lowest_from (n - k) n f k ≡ n
unfolding lowest_from
all_tried n f k e = let none : n - k ≡ 0 = omega arith in rw none e

-- and all below `from` are passed
pub below_on : (n : ℕ) (f : ℕ → ℤ) (from : ℕ) → from ≤ n → HeldBelow from n f → lowest_from n n f 0 ≡ lowest_from (n - from) n f from
below_on n f zero l h = let e : n ≡ n - 0 = omega arith in ap (λ (t : ℕ). lowest_from t n f 0) e
below_on n f (suc from) l h =
    below_on n f from (omega arith) (λ k g. h k (omega arith)) ∙ next_on n f from (T_true (among n f (pos from)) (h from (omega arith))) (omega arith)
    ∙ ap (λ (k : ℕ). lowest_from (n - k) n f k) (add-one from)

-- with those between,
held_to : (from i n : ℕ) (f : ℕ → ℤ) → HeldBelow from n f → ((k : ℕ) → from ≤ k → k < i → among n f (pos k) ≡ true) → HeldBelow i n f
held_to from i n f h g k l = elim (dec_lt k from) [ yes q ↦ h k q | no q ↦ T_of (g k (omega (arith, q)) l) ]

-- so the first that is not among them, looked for from there on, is the lowest
pub first_lowest : (n : ℕ) (f : ℕ → ℤ) (from : ℕ) (test : ℕ → Bool) → ((k : ℕ) → k < n → test k ≡ among n f (pos k)) → HeldBelow from n f → (r : Option ℕ)
    → MatchOption r ((k : ℕ) → from ≤ k → k < n → test k ≡ true) (λ i. (from ≤ i) × (i < n) × (test i ≡ false) × ((k : ℕ) → from ≤ k → k < i → test k ≡ true))
    → unwrap_or r n ≡ lowest_from n n f 0
first_lowest n f from test told h None g = sym (below_on n f n (le_refl n) (held_to from n n f h (λ k a l. sym (told k l) ∙ g k a l)) ∙ all_tried n f n refl)
first_lowest n f from test told h (Some i) g =
    sym (below_on n f i (omega (arith, g.1)) (held_to from i n f h (λ k a l. sym (told k (omega (arith, g.1))) ∙ g.3 k a l)) ∙ new_stops (n - i) n f i (sym (told i g.1) ∙ g.2))

-- ---- for a caller that goes on from the last answer: it is at most n, and all below it are held,
pub lowest_most : (tries n : ℕ) (f : ℕ → ℤ) (k : ℕ) → lowest_from tries n f k ≤ k + tries
unfolding lowest_from
lowest_most zero n f k = omega arith
lowest_most (suc tries) n f k = go (among n f (pos k)) (lowest_most tries n f (suc k))
  where
    go : (b : Bool) → lowest_from tries n f (suc k) ≤ suc k + tries → cond b (lowest_from tries n f (suc k)) k ≤ k + suc tries
    go true h = omega arith
    go false h = omega arith

below_from : (tries n : ℕ) (f : ℕ → ℤ) (k : ℕ) → HeldBelow k n f → HeldBelow (lowest_from tries n f k) n f
unfolding lowest_from
below_from zero n f k h = h
below_from (suc tries) n f k h = go (among n f (pos k)) refl (below_from tries n f (suc k))
  where
    go : (b : Bool) → among n f (pos k) ≡ b → (HeldBelow (suc k) n f → HeldBelow (lowest_from tries n f (suc k)) n f) → HeldBelow (cond b (lowest_from tries n f (suc k)) k) n f
    go false e ih = h
    go true e ih = ih (λ i l. elim (ℕ_discrete i k) [ yes q ↦ subst (λ (i : ℕ). T (among n f (pos i))) (sym q) (subst T (sym e) tt) | no q ↦ h i (omega (arith, l, q)) ])

pub lowest_below : (n : ℕ) (f : ℕ → ℤ) → HeldBelow (lowest_from n n f 0) n f
lowest_below n f = below_from n n f 0 (λ k l. absurd (omega (arith, l)))

-- they are of the same numbers told otherwise
pub below_same : (from n : ℕ) (f g : ℕ → ℤ) → ((j : ℕ) → j < n → f j ≡ g j) → HeldBelow from n f → HeldBelow from n g
below_same from n f g e h k l = subst T (among_same n f g (pos k) e) (h k l)

-- and with one number more
pub below_more : (from n : ℕ) (f g : ℕ → ℤ) → ((j : ℕ) → j < n → f j ≡ g j) → HeldBelow from n f → HeldBelow from (n + 1) g
below_more from n f g e h k l = let (i, m, q) = among_at n f (pos k) (h k l) in at_among (n + 1) g (pos k) i (omega (arith, m)) (sym (e i m) ∙ q)

-- ---- one number more in the list: the others stay, and it is the last
module _ (n : ℕ) (numbers : List ℤ) (places : List ℕ) (X : NumberIndex n numbers places) {k : ℤ} {numbers' : List ℤ} {places' : List ℕ}
    (A : Adds n numbers places k true numbers' places') where
  pub added_others : (j : ℕ) → j < n → at numbers' j ≡ at numbers j
  added_others j l = ap (λ (s : List ℤ). at s j) A.numbers_are ∙ get_or-set_other numbers n j k (pos 0) (omega arith)

  pub added_last : at numbers' n ≡ k
  added_last = ap (λ (s : List ℤ). at s n) A.numbers_are ∙ get_or-set_same numbers n k (pos 0) (omega (arith, X.numbers_size, X.few))

  pub added_below : (from : ℕ) → HeldBelow from n (at numbers) → HeldBelow from (n + 1) (at numbers')
  added_below from h = below_more from n (at numbers) (at numbers') (λ j l. sym (added_others j l)) h

  -- so they are a book's with one entry more
  pub added_copied : (f g : ℕ → ℤ) → ((j : ℕ) → j < n → at numbers j ≡ f j) → ((j : ℕ) → j < n → f j ≡ g j) → k ≡ g n → (j : ℕ) → j < n + 1 → at numbers' j ≡ g j
  added_copied f g h s e j l = elim (ℕ_discrete j n) [ yes q ↦ ap (at numbers') q ∙ added_last ∙ e ∙ ap g (sym q) | no q ↦ added_others j (omega (arith, l, q)) ∙ h j (omega (arith, l, q)) ∙ s j (omega (arith, l, q)) ]
