-- The lowest number that is not held: of n + 1 numbers one is not among n.
use mathlib.Core.Path.{◌≡◌, refl, sym, ap, subst, ◌∙◌}
use mathlib.Core.Logic.{◌≢◌}
use mathlib.Core.Bool.{Bool, true, false, cond}
use mathlib.Core.List.{[], ◌∷◌, ◌++◌}
use Prim.Native.Nat.{ℕ, zero, suc, ◌+◌, ◌≤◌, ◌<◌}
use native.Mathlib.Omega.{arith}
use native.Mathlib.Decide.{ℕ_discrete, dec_le}
use lib.Dec.{T}
use lib.IntN.{ℤ, pos, nat_abs}
use Rattle.whole.specs.Lists.{All}
use Rattle.whole.proofs.Tests.{T_false}
use Rattle.lattice.specs.Refusals.{number_held, Tests, first}
use Rattle.index.specs.Keys.{eq_z}
use Rattle.index.specs.Indexed.{count}
use Rattle.index.proofs.Count.{count_gap}
use Rattle.index.proofs.Equality.{eq_z_eq}
use Rattle.table.specs.Reading.{own_tests}
use Rattle.book.specs.Book.{number_at, among}
use Rattle.book.specs.Numbers.{holds_number, lowest_from, lowest}
use Rattle.book.specs.Calls.{refusal}
use Rattle.book.specs.Theorems.{LowestIsNew, LowestNeverHeld}
use Rattle.book.proofs.Testing.{yes_not}

pub count_none : (K : ℕ) (f : ℕ → Bool) → ((i : ℕ) → i < K → f i ≡ false) → count K f ≡ 0
unfolding count
count_none zero f h = refl
count_none (suc K) f h = rw (h K (omega arith)) (omega (arith, count_none K f (λ i l. h i (omega arith))))

-- where no two pass, at most one does
one_most : (K : ℕ) (f : ℕ → Bool) → ((i j : ℕ) → T (f i) → T (f j) → i ≡ j) → count K f ≤ 1
unfolding count
one_most zero f h = omega arith
one_most (suc K) f h = go (f K) refl (one_most K f h)
  where
    go : (b : Bool) → f K ≡ b → count K f ≤ 1 → count K f + cond b 1 0 ≤ 1
    go true e ih = omega (arith, count_none K f (λ i l. T_false (f i) (λ t. absurd (let q = h i K t (subst T (sym e) tt) in omega (arith, q)))))
    go false e ih = omega arith

-- of two tests
count_either : (K : ℕ) (f g : ℕ → Bool) → count K (λ k. cond (f k) true (g k)) ≤ count K f + count K g
unfolding count
count_either zero f g = omega arith
count_either (suc K) f g = go (f K) (g K) (count_either K f g)
  where
    go : (x y : Bool) → count K (λ k. cond (f k) true (g k)) ≤ count K f + count K g → count K (λ k. cond (f k) true (g k)) + cond (cond x true y) 1 0 ≤ (count K f + cond x 1 0) + (count K g + cond y 1 0)
    go true true h = omega arith
    go true false h = omega arith
    go false true h = omega arith
    go false false h = omega arith

-- of the numbers below K at most n are among n
few_among : (n : ℕ) (f : ℕ → ℤ) (K : ℕ) → count K (λ k. among n f (pos k)) ≤ n
unfolding among
few_among zero f K = omega (arith, count_none K (λ k. false) (λ i l. refl))
few_among (suc n) f K =
    omega (
      arith,
      count_either K (λ k. eq_z (f n) (pos k)) (λ k. among n f (pos k)),
      few_among n f K,
      one_most K (λ k. eq_z (f n) (pos k)) (λ i j t u. ap nat_abs (sym (eq_z_eq (f n) (pos i) t) ∙ eq_z_eq (f n) (pos j) u)),
    )

-- ---- the first that is not, or all that were tried
record Tried (tries n : ℕ) (f : ℕ → ℤ) (k x : ℕ) : Type 0 where
  from : k ≤ x
  upto : x ≤ k + tries
  held : (i : ℕ) → k ≤ i → i < x → T (among n f (pos i))
  stops : x < k + tries → among n f (pos x) ≡ false

tried : (tries n : ℕ) (f : ℕ → ℤ) (k : ℕ) → Tried tries n f k (lowest_from tries n f k)
unfolding lowest_from
tried zero n f k = record { from = omega arith; upto = omega arith; held = λ i a b. absurd (omega (arith, a, b)); stops = λ h. absurd (omega (arith, h)) }
tried (suc tries) n f k = go (among n f (pos k)) refl (tried tries n f (suc k))
  where
    go : (b : Bool) → among n f (pos k) ≡ b → Tried tries n f (suc k) (lowest_from tries n f (suc k)) → Tried (suc tries) n f k (cond b (lowest_from tries n f (suc k)) k)
    go true e R = record {
      from = omega (arith, R.from);
      upto = omega (arith, R.upto);
      held = λ i a b. elim (ℕ_discrete i k) [ yes q ↦ subst (λ (i : ℕ). T (among n f (pos i))) (sym q) (subst T (sym e) tt) | no q ↦ R.held i (omega (arith, a, q)) b ];
      stops = λ h. R.stops (omega (arith, h));
    }
    go false e R = record { from = omega arith; upto = omega arith; held = λ i a b. absurd (omega (arith, a, b)); stops = λ h. e }

-- all that were tried are among them, so what stops is not
stopped : (n : ℕ) (f : ℕ → ℤ) (x : ℕ) → Tried n n f 0 x → among n f (pos x) ≡ false
stopped n f x R = T_false (among n f (pos x)) (λ t.
    let (p, l, e) = count_gap (suc n) (λ k. among n f (pos k)) (omega (arith, few_among n f (suc n))) in
    subst T e (every t p (omega arith)))
  where
    -- it was held, so all were tried
    last : T (among n f (pos x)) → Dec (x < n) → n ≤ x
    last t (yes h) = absurd (subst T (R.stops (omega arith)) t)
    last t (no h) = omega (arith, h)

    every : T (among n f (pos x)) → (p : ℕ) → p ≤ n → T (among n f (pos p))
    every t p l = here (ℕ_discrete p x)
      where
        here : Dec (p ≡ x) → T (among n f (pos p))
        here (yes q) = subst (λ (i : ℕ). T (among n f (pos i))) (sym q) t
        here (no q) = R.held p (omega arith) (omega (arith, q, last t (dec_le (suc x) n)))

pub lowest_is_new : LowestIsNew
lowest_is_new c b =
    let n = b.table.n in
    let f = number_at c.d b.book in
    let R = tried n n f 0 in
    record { new = stopped n f (lowest_from n n f 0) R; least = λ k h. R.held k (omega arith) h; small = omega (arith, R.upto) }

-- ---- a number is not told where the tests that have it pass
not_told : (x : ℕ) → (x ≡ 0 → ⊥) → (l : Tests) → All (λ (p : Bool × ℕ). p.1 ≡ x → T p.0) l → first l ≢ x
unfolding first
not_told x z [] h e = z (sym e)
not_told x z ((true, k) ∷ l) h e = not_told x z l h.1 e
not_told x z ((false, k) ∷ l) h e = h.0 e

pub lowest_never_held : LowestNeverHeld
unfolding refusal
lowest_never_held c b r = not_told number_held (λ z. absurd (omega arith)) (own_tests r ++ (_ ∷ _ ∷ _ ∷ [])) (
  (λ q. absurd (omega arith)),
  (
    (λ q. absurd (omega arith)),
    (
      (λ q. absurd (omega arith)),
      (
        (λ q. yes_not (holds_number c b (pos (lowest c b))) (λ t. subst T (lowest_is_new c b).new t)),
        ((λ q. absurd (omega arith)), ((λ q. absurd (omega arith)), tt)),
      ),
    ),
  ),
)
