-- A key moved by a step: what a step has at a place, and places filled from the front with the moved coordinates.
use mathlib.Core.Path.{◌≡◌, refl, ap₂, ◌∙◌}
use mathlib.Core.Bool.{Bool, true, false, cond}
use mathlib.Core.List.{List}
use Prim.Native.Nat.{ℕ, ◌+◌, ◌≤◌, ◌<◌}
use native.Mathlib.Decide.{ℕ_discrete}
use native.Mathlib.Omega.{arith}
use lib.Dec.{lit<}
use lib.IntN.{ℤ, pos, neg_ℤ, ◌+ℤ◌, ◌-ℤ◌}
use lib.ListN.{length, set, length-set}
use mir.Syntax.{w32}
use mir.Val.{SFits}
use mir.Facts.{to_z-of_z}
use borrow.Author.Tests.{eq-eqb, ne_eqb}
use Rattle.whole.specs.Size.{Abs≤}
use Rattle.whole.specs.Lists.{at, tab}
use Rattle.whole.proofs.Signed.{zlin, W32}
use Rattle.whole.proofs.Size.{zabs, back32}
use Rattle.whole.proofs.Lists.{tab_is, place_more}
use Rattle.lattice.specs.Limits.{most_d, farthest_point}
use Rattle.blur.specs.Blur.{step, plus_step, minus_step}
use Rattle.blur.specs.Inner.{Movable, neighbour_of}

-- ---- a step at a place
pub step_here : (d k i : ℕ) → i ≡ k → step d k i ≡ neg_ℤ (pos d)
unfolding step
step_here d k i e = rw (eq-eqb i k e) refl

pub step_else : (d k i : ℕ) → (i ≡ k → ⊥) → step d k i ≡ pos 1
unfolding step
step_else d k i h = rw (ne_eqb i k h) refl

step_small : (d k i : ℕ) → d ≤ most_d → Abs≤ (step d k i) most_d
step_small d k i h = go (ℕ_discrete i k)
  where
    go : Dec (i ≡ k) → Abs≤ (step d k i) most_d
    go (yes e) = rw (step_here d k i e) (zabs (search zlin depth 14) (omega arith))
    go (no e) = rw (step_else d k i e) (zabs (search zlin depth 14) (omega arith))

-- ---- a key, moved
-- the coordinate of the neighbour at a place
abbrev pub moved_at : Bool → ℕ → ℕ → List ℤ → ℕ → ℤ
moved_at plus d k y i = cond plus (at y i +ℤ step d k i) (at y i -ℤ step d k i)

pub neighbour_tab : (plus : Bool) (d k : ℕ) (y : List ℤ) → tab d (moved_at plus d k y) ≡ neighbour_of plus d k y
unfolding plus_step minus_step
neighbour_tab true d k y = refl
neighbour_tab false d k y = refl

-- one coordinate: the numbers that the machine has are small, so they are the key's and the step's own
module _ (y : List ℤ) (Y : Movable y) (k i : ℕ) (h : i < length y) {s : ℤ} (e : s ≡ step (length y) k i) where
  coordinate_back : W32 (at y i) ≡ at y i
  coordinate_back = back32 (Y.near i h) (lit< tt)

  step_back : W32 s ≡ step (length y) k i
  step_back = rw e (back32 (step_small (length y) k i Y.few) (lit< tt))

  pub can_move : Abs≤ (W32 (at y i)) farthest_point × Abs≤ (W32 s) most_d
  can_move = rw (coordinate_back, step_back) (Y.near i h, step_small (length y) k i Y.few)

  pub moved_is : (plus : Bool) {r : ℤ} → SFits w32 r → r ≡ cond plus (W32 (at y i) +ℤ W32 s) (W32 (at y i) -ℤ W32 s) → W32 r ≡ moved_at plus (length y) k y i
  moved_is plus f m = to_z-of_z f ∙ m ∙ ap₂ (λ (x b : ℤ). cond plus (x +ℤ b) (x -ℤ b)) coordinate_back step_back

-- as many places as p, of which the first n have f
pub record Filled (p n : ℕ) (f : ℕ → ℤ) (l : List ℤ) : Type 0 where
  pub places : length l ≡ p
  pub each : (i : ℕ) → i < n → at l i ≡ f i

pub filled_none : {l : List ℤ} (p : ℕ) (f : ℕ → ℤ) → length l ≡ p → Filled p 0 f l
filled_none p f h = record { places = h; each = λ i q. absurd (omega arith) }

pub filled_more : {l : List ℤ} {v : ℤ} (p n : ℕ) (f : ℕ → ℤ) → n < p → Filled p n f l → v ≡ f n → Filled p (n + 1) f (set l n v)
filled_more {l} {v} p n f h F e = record { places = length-set l n v ∙ F.places; each = place_more f l (pos 0) n v (omega (arith, F.places)) e F.each }

pub filled_all : {l : List ℤ} (p n : ℕ) (f : ℕ → ℤ) → p ≤ n → Filled p n f l → l ≡ tab p f
filled_all {l} p n f h F = tab_is p f l (pos 0) F.places (λ i q. F.each i (omega arith))
