-- Tests in their order: which number the first that fails gives, and which facts hold then.
use mathlib.Core.Path.{◌≡◌, refl, sym}
use mathlib.Core.Logic.{◌↔◌}
use mathlib.Core.Bool.{Bool, true, false, not, ◌&&◌}
use mathlib.Core.List.{List, [], ◌∷◌}
use Prim.Native.Nat.{ℕ, suc, ◌≤◌, ◌<◌}
use native.Mathlib.Omega.{arith}
use lib.Dec.{T, T_not, not_T, eqb, eqb→eq, leb, leb→le, nleb→lt}
use Rattle.whole.proofs.Tests.{and_l, and_r, and_i}
use Rattle.lattice.specs.Refusals.{first}
use Rattle.index.proofs.Equality.{eq-eqb}
use Rattle.promises.specs.Refusals.{Not}

-- ---- one test
-- the two facts that a test tells apart: one where it passes, the other where it fails
pub record Tells (b : Bool) (P N : Type 0) : Type 0 where
  pub pass : T b → P
  pub fail : (T b → ⊥) → N
  pub apart : P → N → ⊥

pub tells : {b : Bool} {P : Type 0} → (T b → P) → (P → T b) → Tells b P (Not P)
tells f g = record { pass = f; fail = λ n p. n (g p); apart = λ p n. n p }

pub tells_same : (a b : ℕ) → Tells (eqb a b) (a ≡ b) (Not (a ≡ b))
tells_same a b = tells (eqb→eq a b) (eq-eqb a b)

pub tells_most : (a b : ℕ) → Tells (leb a b) (a ≤ b) (b < a)
tells_most a b = record { pass = leb→le a b; fail = λ n. nleb→lt a b (not_T (leb a b) n); apart = λ p n. omega arith }

passes : (b : Bool) {P N : Type 0} → Tells b P N → P → T b
passes true t p = tt
passes false t p = t.apart p (t.fail (λ f. f))

pub tells_both : {a b : Bool} {P N Q M : Type 0} → Tells a P N → Tells b Q M → Tells (a && b) (P × Q) (Not (P × Q))
tells_both {a} {b} A B = tells (λ t. (A.pass (and_l a b t), B.pass (and_r a b t))) (λ p. and_i a b (passes a A p.0) (passes b B p.1))

-- the contrary test tells them the other way round
pub tells_not : {b : Bool} {P : Type 0} → Tells b P (Not P) → Tells (not b) (Not P) P
tells_not {b = true} t = record { pass = λ f. absurd f; fail = λ n. t.pass tt; apart = λ n p. n p }
tells_not {b = false} t = record { pass = λ h. t.fail (λ f. f); fail = λ n. absurd (n tt); apart = λ n p. n p }

-- the same facts in other words
pub retold : {b : Bool} {P N Q : Type 0} → Tells b P N → P ↔ Q → Tells b Q (Not Q)
retold {b} t e = tells (λ h. e.0 (t.pass h)) (λ q. passes b t (e.1 q))

-- ---- tests in their order
-- a number that no test gives, and that is not 0
abbrev pub absent : ℕ → List (Bool × ℕ) → Bool
absent k [] = not (eqb k 0)
absent k ((b, j) ∷ l) = not (eqb k j) && absent k l

other : (x k : ℕ) → T (not (eqb x k)) → k ≡ x → ⊥
other x k n e = T_not (eqb x k) n (eq-eqb x k (sym e))

absent_first : (k : ℕ) (l : List (Bool × ℕ)) → T (absent k l) → first l ≡ k → ⊥
unfolding first
absent_first k [] n e = other k 0 n e
absent_first k ((true, j) ∷ l) n e = absent_first k l (and_r (not (eqb k j)) (absent k l) n) e
absent_first k ((false, j) ∷ l) n e = other k j (and_l (not (eqb k j)) (absent k l) n) e

-- the tests give this number exactly where this fact holds
pub record Gives (l : List (Bool × ℕ)) (x : ℕ) (B : Type 0) : Type 0 where
  pub when : first l ≡ x ↔ B

pub given : (l : List (Bool × ℕ)) {x : ℕ} {B : Type 0} → Gives l x B → first l ≡ x ↔ B
given l h = h.when

-- the number of the first test, given by no later one: that test fails
pub stops : {b : Bool} {P N : Type 0} {k : ℕ} {l : List (Bool × ℕ)} → Tells b P N → T (absent k l) → Gives ((b, k) ∷ l) k N
unfolding first
stops {b = true} {k = k} {l = l} t n = record { when = (λ e. absurd (absent_first k l n e), λ f. absurd (t.apart (t.pass tt) f)) }
stops {b = false} t n = record { when = (λ e. t.fail (λ f. f), λ f. refl) }

-- another number: that test passes, and the later ones decide, where it is known that it has passed
pub goes_on : {b : Bool} {P N B : Type 0} {k x : ℕ} {l : List (Bool × ℕ)} → Tells b P N → T (not (eqb x k)) → (P → Gives l x B) → Gives ((b, k) ∷ l) x (P × B)
unfolding first
goes_on {b = true} t n h = record { when = (λ e. let p = t.pass tt in (p, (h p).when.0 e), λ p. (h p.0).when.1 p.1) }
goes_on {b = false} {k = k} {x = x} t n h = record { when = (λ e. absurd (other x k n e), λ p. absurd (t.apart p.0 (t.fail (λ f. f)))) }

pub goes : {b : Bool} {P N B : Type 0} {k x : ℕ} {l : List (Bool × ℕ)} → Tells b P N → T (not (eqb x k)) → Gives l x B → Gives ((b, k) ∷ l) x (P × B)
goes t n h = goes_on t n (λ p. h)

-- no number: the last test passes
pub ends : {b : Bool} {P N : Type 0} {k : ℕ} → Tells b P N → Gives ((b, suc k) ∷ []) 0 P
unfolding first
ends {b = true} t = record { when = (λ e. t.pass tt, λ p. refl) }
ends {b = false} t = record { when = (λ e. absurd (omega arith), λ p. absurd (t.apart p (t.fail (λ f. f)))) }

-- two tests of one number are one test
pub as_one : {a b : Bool} {k x : ℕ} {l : List (Bool × ℕ)} {B : Type 0} → Gives ((a && b, k) ∷ l) x B → Gives ((a, k) ∷ (b, k) ∷ l) x B
unfolding first
as_one {a = true} h = record { when = h.when }
as_one {a = false} h = record { when = h.when }

-- the same fact in other words
pub reworded : {l : List (Bool × ℕ)} {x : ℕ} {A B : Type 0} → Gives l x A → A ↔ B → Gives l x B
reworded h e = record { when = (λ q. e.0 (h.when.0 q), λ b. h.when.1 (e.1 b)) }

pub flat_three : {l : List (Bool × ℕ)} {x : ℕ} {P Q R : Type 0} → Gives l x (P × (Q × R)) → Gives l x (P × Q × R)
flat_three h = reworded h (λ p. (p.0, p.1.0, p.1.1), λ p. (p.0, (p.1, p.2)))

pub flat_four : {l : List (Bool × ℕ)} {x : ℕ} {P Q R S : Type 0} → Gives l x (P × (Q × R × S)) → Gives l x (P × Q × R × S)
flat_four h = reworded h (λ p. (p.0, p.1.0, p.1.1, p.1.2), λ p. (p.0, (p.1, p.2, p.3)))

pub flat_five : {l : List (Bool × ℕ)} {x : ℕ} {P Q R S U : Type 0} → Gives l x (P × (Q × R × S × U)) → Gives l x (P × Q × R × S × U)
flat_five h = reworded h (λ p. (p.0, p.1.0, p.1.1, p.1.2, p.1.3), λ p. (p.0, (p.1, p.2, p.3, p.4)))
