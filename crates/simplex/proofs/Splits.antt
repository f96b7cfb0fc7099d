-- Splits of a number by W, into floor and remainder: which pair it is, and the split of a difference from those of its sides.
use mathlib.Core.Path.{◌≡◌, sym, ap, ◌∙◌}
use Prim.Native.Nat.{ℕ, ◌+◌, ◌<◌}
use native.Mathlib.Omega.{arith}
use lib.IntN.{ℤ, pos, negsuc, ◌+ℤ◌, ◌-ℤ◌, ◌*ℤ◌}
use lib.Dec.{lit<}
use lib.Signed.{◌≤ℤ◌, ◌<ℤ◌}
use Rattle.whole.specs.Size.{P, N, Abs≤}
use Rattle.whole.specs.Floor.{floor, remainder}
use Rattle.whole.proofs.Parts.{zin, zout}
use Rattle.whole.proofs.Linear.{on, difs, ints}
use Rattle.whole.proofs.Signed.{eq_plus, zlin, W32}
use Rattle.whole.proofs.Size.{zabs, back32}
use Rattle.whole.proofs.Floor.{div_rem, remainder_lt, floor_is, remainder_is, floor_p, floor_n}
use Rattle.lattice.specs.Limits.{farthest}
use Rattle.simplex.specs.Inner.{Total, SplitOf, joined, Part}

pub split_is : (w : ℕ) (z q r : ℤ) → z ≡ pos w *ℤ q +ℤ r → pos 0 ≤ℤ r → r <ℤ pos w → SplitOf w z q r
split_is w z q (pos n) e l h = let k : n < w = omega (arith, zin) in record { floor_is = sym (floor_is z q w n k e); rest_is = ap pos (sym (remainder_is z q w n k e)) }
split_is w z q (negsuc n) e l h = absurd l.le

-- the split of a coordinate
pub part_of : (w : ℕ) (x : ℤ) → 0 < w → Abs≤ x farthest → Part w (floor x w) (pos (remainder x w))
part_of w x h k = record {
  near = record { abs = omega (arith, floor_p x w, floor_n x w) };
  low = omega (arith, zout);
  high = let l = remainder_lt x w h in omega (arith, zout);
}

pub join_split : (w : ℕ) (x : ℤ) → 0 < w → joined w (floor x w) (pos (remainder x w)) ≡ x
join_split w x h = sym (div_rem x w h)

-- a difference whose remainder is negative borrows one W
pub minus_low : (w : ℕ) (q r q' r' : ℤ) → Part w q r → Part w q' r' → (r -ℤ r') <ℤ pos 0 → SplitOf w (joined w q r -ℤ joined w q' r') (q -ℤ q' -ℤ pos 1) (r -ℤ r' +ℤ pos w)
minus_low w q r q' r' A B h = split_is w (joined w q r -ℤ joined w q' r') (q -ℤ q' -ℤ pos 1) (r -ℤ r' +ℤ pos w) (same w q r q' r') (low w r r' A.low B.high) (high w r r' h)
  where
    same : (w : ℕ) (q r q' r' : ℤ) → pos w *ℤ q +ℤ r -ℤ (pos w *ℤ q' +ℤ r') ≡ pos w *ℤ (q -ℤ q' -ℤ pos 1) +ℤ (r -ℤ r' +ℤ pos w)
    same w = on _ λ a b. on _ λ c d. on _ λ e f. on _ λ g h. simp difs (omega ints)

    low : (w : ℕ) (r r' : ℤ) → pos 0 ≤ℤ r → r' <ℤ pos w → pos 0 ≤ℤ (r -ℤ r' +ℤ pos w)
    low w = on _ λ a b. on _ λ c d. simp difs (omega ints)

    high : (w : ℕ) (r r' : ℤ) → (r -ℤ r') <ℤ pos 0 → (r -ℤ r' +ℤ pos w) <ℤ pos w
    high w = on _ λ a b. on _ λ c d. simp difs (omega ints)

pub minus_high : (w : ℕ) (q r q' r' : ℤ) → Part w q r → Part w q' r' → pos 0 ≤ℤ (r -ℤ r') → SplitOf w (joined w q r -ℤ joined w q' r') (q -ℤ q') (r -ℤ r')
minus_high w q r q' r' A B h = split_is w (joined w q r -ℤ joined w q' r') (q -ℤ q') (r -ℤ r') (same w q r q' r') h (high w r r' A.high B.low)
  where
    same : (w : ℕ) (q r q' r' : ℤ) → pos w *ℤ q +ℤ r -ℤ (pos w *ℤ q' +ℤ r') ≡ pos w *ℤ (q -ℤ q') +ℤ (r -ℤ r')
    same w = on _ λ a b. on _ λ c d. on _ λ e f. on _ λ g h. simp difs (omega ints)

    high : (w : ℕ) (r r' : ℤ) → r <ℤ pos w → pos 0 ≤ℤ r' → (r -ℤ r') <ℤ pos w
    high w = on _ λ a b. on _ λ c d. simp difs (omega ints)

-- a split as the machine has it
pub floor_back : {w : ℕ} {q r : ℤ} → Part w q r → W32 q ≡ q
floor_back p = back32 p.near (lit< tt)

pub rest_small : {w : ℕ} {q r : ℤ} → Part w q r → Total w → Abs≤ r 384
rest_small {w} {q} {r} p t = zabs (search zlin depth 14) (omega (arith, zin))

pub rest_back : {w : ℕ} {q r : ℤ} → Part w q r → Total w → W32 r ≡ r
rest_back p t = back32 (rest_small p t) (lit< tt)

pub part_back : {w : ℕ} {q r : ℤ} → Part w q r → Total w → Part w (W32 q) (W32 r)
part_back p t = rw (floor_back p, rest_back p t) p

pub split_cong : {w : ℕ} {a a' b b' c c' d d' q r : ℤ} → a ≡ a' → b ≡ b' → c ≡ c' → d ≡ d' → SplitOf w (joined w a b -ℤ joined w c d) q r → SplitOf w (joined w a' b' -ℤ joined w c' d') q r
split_cong e f g h S = rw (← e, ← f, ← g, ← h) S

-- what keeps W times a floor, and what it leaves, in 32 bits
pub record Product (w : ℕ) (x q : ℤ) : Type 0 where
  pub is : q ≡ floor x w
  pub near : Abs≤ q farthest
  pub less : remainder x w < w
  pub parts : P x + (N (pos w *ℤ q) + 0) ≡ (P (pos w *ℤ q) + remainder x w) + N x

pub product_of : {w : ℕ} {x q : ℤ} → 0 < w → Abs≤ x farthest → q ≡ floor (W32 x) w → Product w x q
product_of {w} {x} {q} h k e = record {
  is = is;
  near = rw is (part_of w x h k).near;
  less = remainder_lt x w h;
  parts = eq_plus x (pos w *ℤ q) (pos (remainder x w)) (rw is (div_rem x w h));
}
  where
    is : q ≡ floor x w
    is = e ∙ ap (λ (z : ℤ). floor z w) (back32 k (lit< tt))
