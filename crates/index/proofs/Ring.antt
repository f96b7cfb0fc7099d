-- The walk round a ring of places, up to the first that passes a test. Assumes nothing.
use Rattle.std.proofs.Common.{◌≡◌, ℕ, zero, suc, ◌+◌, ◌-◌, ◌%◌, ◌<◌, ◌≤◌, Bool, true, false, cond, T, eqb, ◌≢◌, sym, refl, ap, ◌∙◌, le_of_suc-le-suc, not-suc-le-zero, add-zero, mod-eq_of_lt, zero-add, arith, eqb→eq}
use native.Mathlib.Nat.{add-mod_left}
use native.Mathlib.Decide.{dec_lt, ℕ_discrete}
use lib.Dec.{eqb_refl}
use Rattle.whole.proofs.Tests.{T_true, T_false}
use Rattle.index.specs.Search.{next, walk}

-- k places further
unfoldable pub ring : ℕ → ℕ → ℕ → ℕ
ring places p zero = p
ring places p (suc k) = ring places (next places p) k

-- q is the first place from h up that passes
pub record First (places : ℕ) (stop : ℕ → Bool) (h q : ℕ) : Type 0 where
  pub steps : ℕ
  pub here : ring places h steps ≡ q
  pub halt : T (stop q)
  pub pass : (j : ℕ) → j < steps → T (stop (ring places h j)) → ⊥

pub first_one : (places : ℕ) (stop : ℕ → Bool) (h q r : ℕ) → First places stop h q → First places stop h r → q ≡ r
first_one places stop h q r A B = go (dec_lt A.steps B.steps) (dec_lt B.steps A.steps)
  where
    go : Dec (A.steps < B.steps) → Dec (B.steps < A.steps) → q ≡ r
    go (yes l) b = absurd (B.pass A.steps l (rw A.here A.halt))
    go (no l) (yes k) = absurd (A.pass B.steps k (rw B.here B.halt))
    go (no l) (no k) = sym A.here ∙ ap (ring places h) (omega arith) ∙ B.here

-- another test that stops at q, and passes each place of the ring that the first passes
pub first_keep : (places : ℕ) (stop stop' : ℕ → Bool) (h q : ℕ) → First places stop h q → T (stop' q)
    → ((j : ℕ) → (T (stop (ring places h j)) → ⊥) → T (stop' (ring places h j)) → ⊥) → First places stop' h q
first_keep places stop stop' h q A t f = record { steps = A.steps; here = A.here; halt = t; pass = λ j l. f j (A.pass j l) }

pub walk_first : (places : ℕ) (stop : ℕ → Bool) (steps h k : ℕ) → k < steps → T (stop (ring places h k)) → First places stop h (walk places stop steps h)
unfolding walk ring
walk_first places stop zero h k l t = absurd (not-suc-le-zero l)
walk_first places stop (suc steps) h k l t = go (stop h) refl k l t (walk_first places stop steps (next places h))
  where
    rest : ℕ
    rest = walk places stop steps (next places h)

    go : (b : Bool) → stop h ≡ b → (k : ℕ) → k < suc steps → T (stop (ring places h k))
        → ((k : ℕ) → k < steps → T (stop (ring places (next places h) k)) → First places stop (next places h) rest)
        → First places stop h (cond b h rest)
    go true e k l t ih = record { steps = 0; here = refl; halt = rw e tt; pass = λ j m. absurd (not-suc-le-zero m) }
    go false e zero l t ih = absurd (rw e at t)
    go false e (suc k) l t ih = let F = ih k (le_of_suc-le-suc l) t in record {
      steps = suc F.steps;
      here = F.here;
      halt = F.halt;
      pass = passed F;
    }
      where
        passed : (F : First places stop (next places h) rest) → (j : ℕ) → j < suc F.steps → T (stop (ring places h j)) → ⊥
        passed F zero m s = rw e at s
        passed F (suc i) m s = F.pass i (le_of_suc-le-suc m) s

-- ---- the ring goes everywhere
pub next_end : (places p : ℕ) → suc p ≡ places → next places p ≡ 0
next_end places p e = rw (← e, T_true (eqb (suc p) (suc p)) (eqb_refl (suc p)))

pub next_other : (places p : ℕ) → suc p ≢ places → next places p ≡ suc p
next_other places p h = rw (T_false (eqb (suc p) places) (λ t. h (eqb→eq (suc p) places t)))

pub next_lt : (places p : ℕ) → p < places → next places p < places
next_lt places p l = go (ℕ_discrete (suc p) places)
  where
    go : Dec (suc p ≡ places) → next places p < places
    go (yes e) = omega (arith, next_end places p e)
    go (no h) = omega (arith, next_other places p h)

-- the walk stays among the places
pub walk_lt : (places : ℕ) (stop : ℕ → Bool) (steps p : ℕ) → p < places → walk places stop steps p < places
unfolding walk
walk_lt places stop zero p l = l
walk_lt places stop (suc steps) p l = go (stop p) (walk_lt places stop steps (next places p) (next_lt places p l))
  where
    go : (b : Bool) → walk places stop steps (next places p) < places → cond b p (walk places stop steps (next places p)) < places
    go true r = l
    go false r = r

pub ring_lt : (places p k : ℕ) → p < places → ring places p k < places
unfolding ring
ring_lt places p zero l = l
ring_lt places p (suc k) l = ring_lt places (next places p) k (next_lt places p l)

ring_up : (places p k : ℕ) → p + k < places → ring places p k ≡ p + k
unfolding ring
ring_up places p zero l = sym (add-zero p)
ring_up places p (suc k) l = rw (next_other places p (λ e. omega arith)) (ring_up places (suc p) k (omega arith) ∙ omega arith)

ring_add : (places p j k : ℕ) → ring places p (j + k) ≡ ring places (ring places p j) k
unfolding ring
ring_add places p zero k = rw (zero-add k)
ring_add places p (suc j) k = let e : suc j + k ≡ suc (j + k) = omega arith in rw e (ring_add places (next places p) j k)

pub ring_to : (places p q : ℕ) → p < places → q < places → (k : ℕ) × (k < places) × (ring places p k ≡ q)
unfolding ring
ring_to places p q l m = go (dec_lt q p)
  where
    go : Dec (q < p) → (k : ℕ) × (k < places) × (ring places p k ≡ q)
    go (no h) = (q - p, omega arith, ring_up places p (q - p) (omega arith) ∙ omega arith)
    go (yes h) = (
      places - p - 1 + suc q,
      omega arith,
      ring_add places p (places - p - 1) (suc q)
          ∙ ap (λ (r : ℕ). ring places r (suc q)) (ring_up places p (places - p - 1) (omega arith))
          ∙ ap (λ (r : ℕ). ring places r q) (next_end places (p + (places - p - 1)) (omega arith))
          ∙ ring_up places 0 q (omega arith) ∙ zero-add q,
    )

-- so many places further, counted from 0
pub ring_mod : (places p k : ℕ) → p < places → ring places p k ≡ (p + k) % places
unfolding ring
ring_mod places p zero l = rw (add-zero p) (sym (mod-eq_of_lt l))
ring_mod places p (suc k) l = go (ℕ_discrete (suc p) places) (λ q. ring_mod places q k)
  where
    go : Dec (suc p ≡ places) → ((q : ℕ) → q < places → ring places q k ≡ (q + k) % places) → ring places (next places p) k ≡ (p + suc k) % places
    go (yes e) ih =
        let q : places + k ≡ p + suc k = omega arith in
        ap (λ (r : ℕ). ring places r k) (next_end places p e) ∙ ih 0 (omega arith) ∙ ap (λ (n : ℕ). n % places) (zero-add k)
        ∙ sym (add-mod_left places k) ∙ ap (λ (n : ℕ). n % places) q
    go (no h) ih =
        let q : suc p + k ≡ p + suc k = omega arith in
        ap (λ (r : ℕ). ring places r k) (next_other places p h) ∙ ih (suc p) (omega arith) ∙ ap (λ (n : ℕ). n % places) q

-- ---- a walk that meets a stop needs no count of its steps: how far it still goes is a number that falls
unfoldable pub ahead : ℕ → (ℕ → Bool) → ℕ → ℕ → ℕ
ahead places stop zero p = 0
ahead places stop (suc steps) p = cond (stop p) 0 (suc (ahead places stop steps (next places p)))

module _ (places : ℕ) (stop : ℕ → Bool) where
  pub walk_stop : (steps p : ℕ) → stop p ≡ true → walk places stop steps p ≡ p
  unfolding walk
  walk_stop zero p e = refl
  walk_stop (suc steps) p e = rw e

  -- one step more makes no difference when a stop is near enough
  walk_steady : (k steps p : ℕ) → k ≤ steps → stop (ring places p k) ≡ true → walk places stop (suc steps) p ≡ walk places stop steps p
  unfolding walk ring
  walk_steady zero zero p l e = rw e
  walk_steady zero (suc steps) p l e = rw e
  walk_steady (suc k) zero p l e = absurd (not-suc-le-zero l)
  walk_steady (suc k) (suc steps) p l e = ap (λ (q : ℕ). cond (stop p) p q) (walk_steady k steps (next places p) (le_of_suc-le-suc l) e)

  ahead_steady : (k steps p : ℕ) → k ≤ steps → stop (ring places p k) ≡ true → ahead places stop (suc steps) p ≡ ahead places stop steps p
  unfolding ahead ring
  ahead_steady zero zero p l e = rw e
  ahead_steady zero (suc steps) p l e = rw e
  ahead_steady (suc k) zero p l e = absurd (not-suc-le-zero l)
  ahead_steady (suc k) (suc steps) p l e = ap (λ (q : ℕ). cond (stop p) 0 (suc q)) (ahead_steady k steps (next places p) (le_of_suc-le-suc l) e)

  module _ (hole : ℕ) (inside : hole < places) (halt : stop hole ≡ true) where
    -- a place that is passed: the walk from the next place ends at the same place, and is shorter
    pub walk_on : (p : ℕ) → p < places → stop p ≡ false → walk places stop places p ≡ walk places stop places (next places p)
    unfolding walk
    walk_on p l e = go places refl (ring_to places (next places p) hole (next_lt places p l) inside)
      where
        go : (n : ℕ) → places ≡ n → (k : ℕ) × (k < places) × (ring places (next places p) k ≡ hole) → walk places stop n p ≡ walk places stop n (next places p)
        go zero z r = absurd (omega arith)
        go (suc n) z r = rw e (sym (walk_steady r.0 n (next places p) (omega (arith, r.1)) (ap stop r.2 ∙ halt)))

    pub ahead_falls : (p : ℕ) → p < places → stop p ≡ false → ahead places stop places (next places p) < ahead places stop places p
    unfolding ahead
    ahead_falls p l e = go places refl (ring_to places (next places p) hole (next_lt places p l) inside)
      where
        go : (n : ℕ) → places ≡ n → (k : ℕ) × (k < places) × (ring places (next places p) k ≡ hole) → ahead places stop n (next places p) < ahead places stop n p
        go zero z r = absurd (omega arith)
        go (suc n) z r = rw (ahead_steady r.0 n (next places p) (omega (arith, r.1)) (ap stop r.2 ∙ halt), e) (omega arith)
