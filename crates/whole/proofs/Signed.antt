-- Signed needs of a function's proof. An expression of signed machine numbers, its passes through bits `to_z w (of_z w z)` and all, is read as
-- p - n for two sums of natural numbers by `search zlin depth 14`; a comparison of two readings is one of natural numbers, which
-- `omega (arith, zin)` proves with all that the passes through bits ask (`Holds`). With S = (search zlin depth 14), O = (omega (arith, zin)):
--     zle S O, zlt S O, zeq S O      goals a ≤ℤ b, a <ℤ b, a ≡ b
--     zfits S O, zwithin S O         goals SFits w a, Within lo hi a;    Size.zabs S O: the goal Abs≤ a B
--     zcast S O                      what `as` from signed to unsigned asks
--     ole, olt, oeq                  facts a ≤ℤ b, a <ℤ b, a ≡ b as facts of natural numbers, for omega's list
--     t<, t≥, t≤, t>                 a test that passed or failed, as an order of the numbers that the code means
--     bits-eq                        two numbers with the same bits
-- The rulesets: zlin takes a product as an atom, and one with a literal as linear; zed multiplies out; zlow also reads a number that was
-- cast from unsigned. Assumes nothing.
use mathlib.Core.Path.{◌≡◌, refl, sym, ◌∙◌, ap, ap₂}
use Prim.Native.Nat.{ℕ, zero, suc, ◌+◌, ◌*◌, ◌-◌, ◌/◌, ◌%◌, ◌<◌, ◌≤◌, ◌^◌}
use native.Mathlib.Nat.{div-le_self, mod-lt}
use native.Mathlib.Omega.{arith}
use mathlib.Core.Bool.{true, false}
use lib.Dec.{T}
use lib.IntN.{ℤ, pos, negsuc, neg_ℤ, nat_abs, sub_ℕ, ◌+ℤ◌, ◌-ℤ◌, ◌*ℤ◌}
use lib.Signed.{◌≤ℤ◌, ◌<ℤ◌, le_z, lt_z, non_neg, quot_z, rem_z, shr_z}
use mir.Syntax.{Width, w32, w64}
use mir.Val.{SFits, Fits, to_z, of_z, bits, hbits}
use mir.ValLaws.{to_z-of_z, to_z_pos}
use Rattle.whole.specs.Size.{P, N, Within}
use Rattle.whole.proofs.Parts.{sub_is, add_is, neg_is, mul_is, nat_abs_is, apart, le_in, le_out, lt_in, lt_out, eq_in, eq_out, sfits_make, lt_yes, lt_no, le_yes, le_no, zin}

-- ════ a reading of a number z: v is z without its passes through bits, and p − n is v. `asks` is what must hold for that: each number that went through bits fits
pub data Asks : Type 0 where
  none : Asks
  range : (p n H : ℕ) → Asks → Asks
  order : (a b : ℕ) → Asks → Asks

abbrev pub Holds : Asks → Type 0
Holds none = Unit {0}
Holds (range p n H l) = (p < n + H) × (n ≤ p + H) × Holds l
Holds (order a b l) = (a ≤ b) × Holds l

infixr 5 ◌⊕◌
abbrev pub ◌⊕◌ : Asks → Asks → Asks
none ⊕ y = y
range p n H l ⊕ y = range p n H (l ⊕ y)
order a b l ⊕ y = order a b (l ⊕ y)

pub left : (x y : Asks) → Holds (x ⊕ y) → Holds x
left none y h = tt
left (range p n H l) y h = (h.0, h.1, left l y h.2)
left (order a b l) y h = (h.0, left l y h.1)

pub right : (x y : Asks) → Holds (x ⊕ y) → Holds y
right none y h = h
right (range p n H l) y h = right l y h.2
right (order a b l) y h = right l y h.1

pub record E (z : ℤ) : Type 0 where
  pub v : ℤ
  pub p : ℕ
  pub n : ℕ
  pub asks : Asks
  pub same : Holds asks → z ≡ v
  pub is : Holds asks → P v + n ≡ p + N v

mul_eq : (p n pe ne q m qe me : ℕ) → p + ne ≡ pe + n → q + me ≡ qe + m → (p * q + n * m) + (pe * me + ne * qe) ≡ (pe * qe + ne * me) + (p * m + n * q)
mul_eq p n pe ne q m qe me h k = omega (arith, ap (λ (x : ℕ). x * q) h, ap (λ (x : ℕ). x * m) h, ap (λ (x : ℕ). pe * x) k, ap (λ (x : ℕ). ne * x) k)

pub plus_is : (a b : ℤ) (p n q m : ℕ) → P a + n ≡ p + N a → P b + m ≡ q + N b → P (a +ℤ b) + (n + m) ≡ (p + q) + N (a +ℤ b)
plus_is a b p n q m h k = omega (arith, add_is a b)

pub negate_is : (a : ℤ) (p n : ℕ) → P a + n ≡ p + N a → P (neg_ℤ a) + p ≡ n + N (neg_ℤ a)
negate_is a p n h = omega (arith, neg_is a)

pub times_is : (a b : ℤ) (p n q m : ℕ) → P a + n ≡ p + N a → P b + m ≡ q + N b → P (a *ℤ b) + (p * m + n * q) ≡ (p * q + n * m) + N (a *ℤ b)
times_is a b p n q m h k = omega (arith, mul_is a b, mul_eq (P a) (N a) p n (P b) (N b) q m h k)

pub back_is : (w : Width) (z v : ℤ) (p n : ℕ) → z ≡ v → P v + n ≡ p + N v → p < n + 2 ^ hbits w → n ≤ p + 2 ^ hbits w → to_z w (of_z w z) ≡ v
back_is w z v p n e h b b' = ap (λ (x : ℤ). to_z w (of_z w x)) e ∙ to_z-of_z w v (sfits_make w v (omega arith) (omega arith))

pub abs_same : (z v : ℤ) (p n : ℕ) → z ≡ v → P v + n ≡ p + N v → n ≤ p → pos (nat_abs z) ≡ v
abs_same z v p n e h b = ap (λ (x : ℤ). pos (nat_abs x)) e ∙ go v h
  where
    go : (v : ℤ) → P v + n ≡ p + N v → pos (nat_abs v) ≡ v
    go (pos x) h = refl
    go (negsuc x) h = let z : ⊥ = omega arith in absurd z

-- How deep a reading may go. Every reading of one number takes as many steps, so `search` goes by the number of premises, fewest first, and takes a sum apart before it takes it as an atom
pub data Fuel : Type 0 where
  o : Fuel
  s : Fuel → Fuel

pub data Lf : Fuel → Type 0 where
  lo : Lf o
  ls : {k : Fuel} → Lf k → Lf (s k)

pub data One : Type 0 where
  one : One

pub record R (k : Fuel) (z : ℤ) : Type 0 where
  pub r : E z

-- the number itself
abbrev pub r_atom : (k : Fuel) (z : ℤ) → Lf k → One → One → R k z
r_atom k z _ _ _ = record { r = record { v = z; p = P z; n = N z; asks = none; same = λ _. refl; is = λ _. refl } }

abbrev pub r_low : (k : Fuel) (w : Width) (x : ℕ) → Lf k → One → One → R k (to_z w x)
r_low k w x _ _ _ = record { r = record { v = pos x; p = x; n = 0; asks = order (suc x) (2 ^ hbits w) none; same = λ h. to_z_pos w x h.0; is = λ _. refl } }

abbrev pub r_diff : (k : Fuel) (x y : ℕ) → R k (sub_ℕ x y)
r_diff k x y = record { r = record { v = sub_ℕ x y; p = x; n = y; asks = none; same = λ _. refl; is = λ _. sub_is x y } }

abbrev pub r_neg : (k : Fuel) (a : ℤ) → R k a → R (s k) (neg_ℤ a)
r_neg k a x = let e = x.r in
    record {
      r = record {
        v = neg_ℤ e.v;
        p = e.n;
        n = e.p;
        asks = e.asks;
        same = λ h. ap neg_ℤ (e.same h);
        is = λ h. negate_is e.v e.p e.n (e.is h);
      };
    }

abbrev pub r_abs : (k : Fuel) (z : ℤ) → R k z → R (s k) (pos (nat_abs z))
r_abs k z x = let e = x.r in
    record {
      r = record {
        v = e.v;
        p = e.p;
        n = e.n;
        asks = order e.n e.p e.asks;
        same = λ h. abs_same z e.v e.p e.n (e.same h.1) (e.is h.1) h.0;
        is = λ h. e.is h.1;
      };
    }

-- through bits
abbrev pub r_back : (k : Fuel) (w : Width) (z : ℤ) → R k z → R (s k) (to_z w (of_z w z))
r_back k w z x = let e = x.r in
    record {
      r = record {
        v = e.v;
        p = e.p;
        n = e.n;
        asks = range e.p e.n (2 ^ hbits w) e.asks;
        same = λ h. back_is w z e.v e.p e.n (e.same h.2) (e.is h.2) h.0 h.1;
        is = λ h. e.is h.2;
      };
    }

-- a sum, a difference, a product multiplied out
abbrev pub r_plus : (k : Fuel) (a b : ℤ) → R k a → R k b → R (s k) (a +ℤ b)
r_plus k a b x y = let e = x.r in let f = y.r in
    record {
      r = record {
        v = e.v +ℤ f.v;
        p = e.p + f.p;
        n = e.n + f.n;
        asks = e.asks ⊕ f.asks;
        same = λ h. ap₂ ◌+ℤ◌ (e.same (left e.asks f.asks h)) (f.same (right e.asks f.asks h));
        is = λ h. plus_is e.v f.v e.p e.n f.p f.n (e.is (left e.asks f.asks h)) (f.is (right e.asks f.asks h));
      };
    }

abbrev pub r_minus : (k : Fuel) (a b : ℤ) → R k a → R k b → R (s k) (a -ℤ b)
r_minus k a b x y = let e = x.r in let f = y.r in
    record {
      r = record {
        v = e.v -ℤ f.v;
        p = e.p + f.n;
        n = e.n + f.p;
        asks = e.asks ⊕ f.asks;
        same = λ h. ap₂ ◌-ℤ◌ (e.same (left e.asks f.asks h)) (f.same (right e.asks f.asks h));
        is = λ h. plus_is e.v (neg_ℤ f.v) e.p e.n f.n f.p (e.is (left e.asks f.asks h)) (negate_is f.v f.p f.n (f.is (right e.asks f.asks h)));
      };
    }

abbrev pub r_times : (k : Fuel) (a b : ℤ) → R k a → R k b → R (s k) (a *ℤ b)
r_times k a b x y = let e = x.r in let f = y.r in
    record {
      r = record {
        v = e.v *ℤ f.v;
        p = e.p * f.p + e.n * f.n;
        n = e.p * f.n + e.n * f.p;
        asks = e.asks ⊕ f.asks;
        same = λ h. ap₂ ◌*ℤ◌ (e.same (left e.asks f.asks h)) (f.same (right e.asks f.asks h));
        is = λ h. times_is e.v f.v e.p e.n f.p f.n (e.is (left e.asks f.asks h)) (f.is (right e.asks f.asks h));
      };
    }

-- any operation on two numbers, as an atom
abbrev both : (f : ℤ → ℤ → ℤ) (k : Fuel) (a b : ℤ) → R k a → R k b → R (s k) (f a b)
both f k a b x y = let e = x.r in let g = y.r in
    record {
      r = record {
        v = f e.v g.v;
        p = P (f e.v g.v);
        n = N (f e.v g.v);
        asks = e.asks ⊕ g.asks;
        same = λ h. ap₂ f (e.same (left e.asks g.asks h)) (g.same (right e.asks g.asks h));
        is = λ h. refl;
      };
    }

abbrev pub r_prod : (k : Fuel) (a b : ℤ) → R k a → R k b → R (s k) (a *ℤ b)
r_prod k a b x y = both ◌*ℤ◌ k a b x y

abbrev pub r_quot : (k : Fuel) (a b : ℤ) → R k a → R k b → R (s k) (quot_z a b)
r_quot k a b x y = both quot_z k a b x y

abbrev pub r_rem : (k : Fuel) (a b : ℤ) → R k a → R k b → R (s k) (rem_z a b)
r_rem k a b x y = both rem_z k a b x y

-- a product with a natural number, which is linear where that is a literal
pub scale_is : (n : ℕ) (a : ℤ) (p q : ℕ) → P a + q ≡ p + N a → P (pos n *ℤ a) + n * q ≡ n * p + N (pos n *ℤ a)
scale_is n a p q h = omega (arith, mul_is (pos n) a, ap (λ (x : ℕ). n * x) h)

pub scale_is' : (n : ℕ) (a : ℤ) (p q : ℕ) → P a + q ≡ p + N a → P (a *ℤ pos n) + n * q ≡ n * p + N (a *ℤ pos n)
scale_is' n a p q h = omega (arith, mul_is a (pos n), ap (λ (x : ℕ). n * x) h)

abbrev pub r_scale : (k : Fuel) (n : ℕ) (a : ℤ) → R k a → R (s k) (pos n *ℤ a)
r_scale k n a x = let e = x.r in
    record {
      r = record {
        v = pos n *ℤ e.v;
        p = n * e.p;
        n = n * e.n;
        asks = e.asks;
        same = λ h. ap (λ (z : ℤ). pos n *ℤ z) (e.same h);
        is = λ h. scale_is n e.v e.p e.n (e.is h);
      };
    }

abbrev pub r_scale' : (k : Fuel) (n : ℕ) (a : ℤ) → R k a → R (s k) (a *ℤ pos n)
r_scale' k n a x = let e = x.r in
    record {
      r = record {
        v = e.v *ℤ pos n;
        p = n * e.p;
        n = n * e.n;
        asks = e.asks;
        same = λ h. ap (λ (z : ℤ). z *ℤ pos n) (e.same h);
        is = λ h. scale_is' n e.v e.p e.n (e.is h);
      };
    }

abbrev pub r_shr : (k : Fuel) (a : ℤ) (m : ℕ) → R k a → R (s k) (shr_z a m)
r_shr k a m x = let e = x.r in
    record {
      r = record {
        v = shr_z e.v m;
        p = P (shr_z e.v m);
        n = N (shr_z e.v m);
        asks = e.asks;
        same = λ h. ap (λ (z : ℤ). shr_z z m) (e.same h);
        is = λ _. refl;
      };
    }

abbrev pub ten : Fuel
ten = s (s (s (s (s (s (s (s (s (s o)))))))))

-- what the lemmas below take: a reading of one number, and of two
pub record Rd (z : ℤ) : Type 0 where
  pub r : E z

pub record Two (a b : ℤ) : Type 0 where
  pub e : E a
  pub f : E b

abbrev pub r_one : (z : ℤ) → R ten z → Rd z
r_one z x = record { r = x.r }

abbrev pub r_two : (a b : ℤ) → R ten a → R ten b → Two a b
r_two a b x y = record { e = x.r; f = y.r }

-- `search zed depth 14`: a number of at most ten levels
pub ruleset zed = (r_one, r_two, r_minus, r_plus, r_neg, r_abs, r_diff, r_quot, r_rem, r_shr, r_back, lo, ls, one, r_times, r_atom)

pub ruleset zlin = (r_one, r_two, r_minus, r_plus, r_neg, r_abs, r_diff, r_quot, r_rem, r_shr, r_back, lo, ls, one, r_scale, r_scale', r_prod, r_atom)

pub ruleset zlow = (r_one, r_two, r_minus, r_plus, r_neg, r_abs, r_diff, r_quot, r_rem, r_shr, r_back, lo, ls, one, r_scale, r_scale', r_prod, r_low, r_atom)

-- ════ goals
pub zle : {a b : ℤ} (t : Two a b) → Holds t.e.asks × Holds t.f.asks × (t.e.p + t.f.n ≤ t.f.p + t.e.n) → a ≤ℤ b
zle t h = rw (t.e.same h.0, t.f.same h.1) (le_out t.e.v t.f.v (omega (arith, t.e.is h.0, t.f.is h.1, h.2)))

pub zlt : {a b : ℤ} (t : Two a b) → Holds t.e.asks × Holds t.f.asks × (t.e.p + t.f.n < t.f.p + t.e.n) → a <ℤ b
zlt t h = rw (t.e.same h.0, t.f.same h.1) (lt_out t.e.v t.f.v (omega (arith, t.e.is h.0, t.f.is h.1, h.2)))

pub zeq : {a b : ℤ} (t : Two a b) → Holds t.e.asks × Holds t.f.asks × (t.e.p + t.f.n ≡ t.f.p + t.e.n) → a ≡ b
zeq t h = t.e.same h.0 ∙ eq_out t.e.v t.f.v (omega (arith, t.e.is h.0, t.f.is h.1, h.2)) ∙ sym (t.f.same h.1)

pub zfits : {w : Width} {a : ℤ} (e : Rd a) → Holds e.r.asks × (e.r.p < e.r.n + 2 ^ hbits w) × (e.r.n ≤ e.r.p + 2 ^ hbits w) → SFits w a
zfits {w} {a} e h = rw (e.r.same h.0) (sfits_make w e.r.v (omega (arith, e.r.is h.0, h.1, h.2)) (omega (arith, e.r.is h.0, h.1, h.2)))

non_neg_make : (z : ℤ) → N z ≤ P z → T (non_neg z)
non_neg_make (pos n) h = tt
non_neg_make (negsuc n) h = let z : ⊥ = omega arith in absurd z

pub zcast : {w : Width} {a : ℤ} (e : Rd a) → Holds e.r.asks × (e.r.n ≤ e.r.p) × (e.r.p < e.r.n + 2 ^ bits w) → T (non_neg a) × Fits w (nat_abs a)
zcast {w} {a} e h = rw (e.r.same h.0) (non_neg_make e.r.v (omega (arith, e.r.is h.0, h.1)), record { fits = omega (arith, nat_abs_is e.r.v, apart e.r.v, small e.r.v e.r.p e.r.n (e.r.is h.0) h.1, h.2) })
  where
    small : (v : ℤ) (p n : ℕ) → P v + n ≡ p + N v → n ≤ p → P v + N v ≡ p - n
    small (pos x) p n h k = omega arith
    small (negsuc x) p n h k = omega arith

-- ════ facts
pub ole : {a b : ℤ} → a ≤ℤ b → (t : Two a b) → Holds t.e.asks × Holds t.f.asks → t.e.p + t.f.n ≤ t.f.p + t.e.n
ole h t k = omega (arith, t.e.is k.0, t.f.is k.1, le_in t.e.v t.f.v (rw (t.e.same k.0, t.f.same k.1) at h))

pub olt : {a b : ℤ} → a <ℤ b → (t : Two a b) → Holds t.e.asks × Holds t.f.asks → t.e.p + t.f.n < t.f.p + t.e.n
olt h t k = omega (arith, t.e.is k.0, t.f.is k.1, lt_in t.e.v t.f.v (rw (t.e.same k.0, t.f.same k.1) at h))

pub oeq : {a b : ℤ} → a ≡ b → (t : Two a b) → Holds t.e.asks × Holds t.f.asks → t.e.p + t.f.n ≡ t.f.p + t.e.n
oeq h t k = omega (arith, t.e.is k.0, t.f.is k.1, eq_in t.e.v t.f.v (sym (t.e.same k.0) ∙ h ∙ t.f.same k.1))

-- what a number is once it has gone through bits, as the code wrote it: for the places of a test
abbrev pub W32 : ℤ → ℤ
W32 z = to_z w32 (of_z w32 z)

abbrev pub W64 : ℤ → ℤ
W64 z = to_z w64 (of_z w64 z)

-- a test that passed (t<, t≤) or failed (t≥, t>), as an order of the numbers that the code means:  t< {a = W64 x} {b = pos 0} c.if1.taken (search zlin depth 14) (omega (arith, zin)) : x <ℤ pos 0
pub t< : {a b : ℤ} → lt_z a b ≡ true → (t : Two a b) → Holds t.e.asks × Holds t.f.asks → t.e.v <ℤ t.f.v
t< {a} {b} h t k = lt_out t.e.v t.f.v (omega (arith, eq_in a t.e.v (t.e.same k.0), eq_in b t.f.v (t.f.same k.1), lt_yes a b h))

pub t≥ : {a b : ℤ} → lt_z a b ≡ false → (t : Two a b) → Holds t.e.asks × Holds t.f.asks → t.f.v ≤ℤ t.e.v
t≥ {a} {b} h t k = le_out t.f.v t.e.v (omega (arith, eq_in a t.e.v (t.e.same k.0), eq_in b t.f.v (t.f.same k.1), lt_no a b h))

pub t≤ : {a b : ℤ} → le_z a b ≡ true → (t : Two a b) → Holds t.e.asks × Holds t.f.asks → t.e.v ≤ℤ t.f.v
t≤ {a} {b} h t k = le_out t.e.v t.f.v (omega (arith, eq_in a t.e.v (t.e.same k.0), eq_in b t.f.v (t.f.same k.1), le_yes a b h))

pub t> : {a b : ℤ} → le_z a b ≡ false → (t : Two a b) → Holds t.e.asks × Holds t.f.asks → t.f.v <ℤ t.e.v
t> {a} {b} h t k = lt_out t.f.v t.e.v (omega (arith, eq_in a t.e.v (t.e.same k.0), eq_in b t.f.v (t.f.same k.1), le_no a b h))

-- two numbers with the same bits
pub bits_eq : {w : Width} {a b : ℤ} → SFits w a → SFits w b → of_z w a ≡ of_z w b → a ≡ b
bits_eq {w} {a} {b} h k e = sym (to_z-of_z w a h) ∙ ap (to_z w) e ∙ to_z-of_z w b k

-- what `/` and `%` ask, where the divisor is positive
quot_parts : (a d : ℤ) → N d < P d → (P (quot_z a d) ≤ P a) × (N (quot_z a d) ≤ N a)
quot_parts (pos a) (pos m) h = omega (arith, div-le_self a m)
quot_parts (negsuc a) (pos m) h = go (suc a / m) (div-le_self (suc a) m)
  where
    go : (q : ℕ) → q ≤ suc a → (P (neg_ℤ (pos q)) ≤ 0) × (N (neg_ℤ (pos q)) ≤ suc a)
    go zero h = omega arith
    go (suc q) h = omega arith
quot_parts a (negsuc m) h = let z : ⊥ = omega arith in absurd z

rem_parts : (a d : ℤ) → N d < P d → P (rem_z a d) + N (rem_z a d) < P d
rem_parts (pos a) (pos m) h = omega (arith, mod-lt a {m = m} (omega arith))
rem_parts (negsuc a) (pos m) h = go (suc a % m) (mod-lt (suc a) {m = m} (omega arith))
  where
    go : (q : ℕ) → q < m → P (neg_ℤ (pos q)) + N (neg_ℤ (pos q)) < m
    go zero h = omega arith
    go (suc q) h = omega arith
rem_parts a (negsuc m) h = let z : ⊥ = omega arith in absurd z

-- the bits of a positive number are not 0
pub nz : (w : Width) {m : ℤ} → pos 1 ≤ℤ m → 0 < of_z w m
nz w {m = pos n} h = omega (arith, le_in (pos 1) (pos n) h)
nz w {m = negsuc n} h = absurd h.le

-- the sizes of quotient and remainder, for omega's list
pub record Sizes (a d : ℤ) : Type 0 where
  pub quot_p : P (quot_z a d) ≤ P a
  pub quot_n : N (quot_z a d) ≤ N a
  pub rem_lt : P (rem_z a d) + N (rem_z a d) < P d

pub sizes : (a d : ℤ) → pos 1 ≤ℤ d → Sizes a d
sizes a d h = let k : N d < P d = omega (arith, zin) in record { quot_p = (quot_parts a d k).0; quot_n = (quot_parts a d k).1; rem_lt = rem_parts a d k }

-- the size of a number whose sign is known
pub abs_pos : {z : ℤ} → pos 0 ≤ℤ z → z ≡ pos (nat_abs z)
abs_pos {z = pos n} h = refl
abs_pos {z = negsuc n} h = absurd h.le

-- ════ a fact that is an equation with a sum on the right, for omega's list
pub eq_plus : (r a b : ℤ) → r ≡ a +ℤ b → P r + (N a + N b) ≡ (P a + P b) + N r
eq_plus r a b e = omega (arith, eq_in r (a +ℤ b) e, add_is a b)

-- ════ a number between two bounds, as one fact. The bounds are atoms or literals
pub zwithin : {lo hi z : ℤ} (e : Rd z) → Holds e.r.asks × (P lo + e.r.n ≤ e.r.p + N lo) × (e.r.p + N hi ≤ P hi + e.r.n) → Within lo hi z
zwithin {lo} {hi} {z} e h = let k = eq_in z e.r.v (e.r.same h.0) in let l = e.r.is h.0 in
    record { low = le_out lo z (omega (arith, h.1)); high = le_out z hi (omega (arith, h.2)) }
