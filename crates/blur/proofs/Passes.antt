-- Laws of one pass of the blur and of passes in a row, for one number at each point and any set of stored points. Document 01's own numbers come first.
use mathlib.Core.Path.{◌≡◌, refl, sym, ap, ap₂, ◌∙◌, fun_ext}
use mathlib.Core.Bool.{Bool, true, false, cond}
use mathlib.Core.List.{List}
use Prim.Native.Nat.{ℕ, zero, suc, ◌*◌, ◌^◌}
use native.Mathlib.Nat.{pow-suc}
use native.Mathlib.Omega.{arith}
use lib.IntN.{ℤ, pos, ◌+ℤ◌, ◌*ℤ◌, *ℤ-zero}
use lib.Signed.{◌≤ℤ◌, ≤ℤ_refl}
use lib.Dec.{T}
use Rattle.whole.specs.Size.{Abs≤}
use Rattle.whole.specs.Floor.{floor, remainder}
use Rattle.whole.specs.Sum.{sum}
use Rattle.whole.specs.Lists.{tab, collect}
use Rattle.whole.specs.Word.{word}
use Rattle.whole.proofs.Linear.{on, difs, ints}
use Rattle.whole.proofs.Signed.{zlin}
use Rattle.whole.proofs.Ring.{le_trans}
use Rattle.whole.proofs.Size.{zabs}
use Rattle.lattice.specs.Weight.{best, spread, weight}
use Rattle.lattice.specs.Points.{corner, last_of, points}
use Rattle.index.specs.Keys.{same, key_at, hash, home}
use Rattle.index.specs.Search.{walk, search as sought}
use Rattle.table.specs.Pour.{set_pair, append, raise, pour}
use Rattle.table.specs.Reading.{shares}
use Rattle.table.specs.Calls.{fresh}
use Rattle.blur.specs.Blur.{plus_step, minus_step, pass, passes, step, mass_after, value_after}
use Rattle.blur.specs.Theorems.{Between}
use Rattle.blur.specs.Sheet.{sheet}
use Rattle.blur.specs.Worked.{BlurCases, AxisCases}

-- ---- the worked log, and two axes
pub blur_cases : BlurCases
unfolding floor remainder sum tab collect word best spread weight corner last_of points same key_at hash home walk sought set_pair append raise pour shares fresh step plus_step minus_step pass passes mass_after value_after sheet
blur_cases = record { mass_at_one = refl; value_at_one = refl; mass_at_two = refl; value_at_two = refl; in_stored_order = refl }

pub axis_cases : AxisCases
unfolding floor remainder sum tab collect word best spread weight corner last_of points same key_at hash home walk sought set_pair append raise pour shares fresh step plus_step minus_step pass passes mass_after value_after sheet
axis_cases = record { own_pairs = refl; after_pass_0 = refl; after_pass_1 = refl; after_pass_2 = refl }

-- ---- the numbers after passes depend only on which points are stored and on the numbers before
pub passes_cong : (stored other : List ℤ → Bool) (d n : ℕ) (f g : List ℤ → ℤ) → ((y : List ℤ) → stored y ≡ other y) → ((y : List ℤ) → f y ≡ g y)
    → (y : List ℤ) → passes stored d n f y ≡ passes other d n g y
passes_cong stored other d n f g s e y = ap₂ (λ (s : List ℤ → Bool) (f : List ℤ → ℤ). passes s d n f y) (fun_ext s) (fun_ext e)

-- ---- one pass
module _ (stored : List ℤ → Bool) (d k : ℕ) where
  -- "a neighbour that is not stored counts as 0": it has 0 after every pass
  pub pass_off : (f : List ℤ → ℤ) (y : List ℤ) → stored y ≡ false → pass stored d k f y ≡ pos 0
  unfolding pass
  pass_off f y e = rw e refl

  pub pass_add : (f g : List ℤ → ℤ) (y : List ℤ) → pass stored d k (λ y. f y +ℤ g y) y ≡ pass stored d k f y +ℤ pass stored d k g y
  unfolding pass
  pass_add f g y = go (stored y) (f y) (f (plus_step d k y)) (f (minus_step d k y)) (g y) (g (plus_step d k y)) (g (minus_step d k y))
    where
      lin : (a b c a' b' c' : ℤ) → pos 2 *ℤ (a +ℤ a') +ℤ (b +ℤ b') +ℤ (c +ℤ c') ≡ pos 2 *ℤ a +ℤ b +ℤ c +ℤ (pos 2 *ℤ a' +ℤ b' +ℤ c')
      lin = on _ λ a b. on _ λ c d. on _ λ e f. on _ λ g h. on _ λ i j. on _ λ k l. simp difs (omega ints)

      go : (s : Bool) (a b c a' b' c' : ℤ)
          → cond s (pos 2 *ℤ (a +ℤ a') +ℤ (b +ℤ b') +ℤ (c +ℤ c')) (pos 0) ≡ cond s (pos 2 *ℤ a +ℤ b +ℤ c) (pos 0) +ℤ cond s (pos 2 *ℤ a' +ℤ b' +ℤ c') (pos 0)
      go true a b c a' b' c' = lin a b c a' b' c'
      go false a b c a' b' c' = refl

  pub pass_times : (a : ℤ) (f : List ℤ → ℤ) (y : List ℤ) → pass stored d k (λ y. a *ℤ f y) y ≡ a *ℤ pass stored d k f y
  unfolding pass
  pass_times a f y = go (stored y) a (f y) (f (plus_step d k y)) (f (minus_step d k y))
    where
      lin : (n a b c : ℤ) → pos 2 *ℤ (n *ℤ a) +ℤ n *ℤ b +ℤ n *ℤ c ≡ n *ℤ (pos 2 *ℤ a +ℤ b +ℤ c)
      lin = on _ λ a b. on _ λ c d. on _ λ e f. on _ λ g h. simp difs (omega ints)

      go : (s : Bool) (n a b c : ℤ) → cond s (pos 2 *ℤ (n *ℤ a) +ℤ n *ℤ b +ℤ n *ℤ c) (pos 0) ≡ n *ℤ cond s (pos 2 *ℤ a +ℤ b +ℤ c) (pos 0)
      go true n a b c = lin n a b c
      go false n a b c = sym (*ℤ-zero n)

  pub pass_zero : (y : List ℤ) → pass stored d k (λ y. pos 0) y ≡ pos 0
  unfolding pass
  pass_zero y = go (stored y)
    where
      go : (s : Bool) → cond s (pos 2 *ℤ pos 0 +ℤ pos 0 +ℤ pos 0) (pos 0) ≡ pos 0
      go true = refl
      go false = refl

  pub pass_mono : (f g : List ℤ → ℤ) → ((y : List ℤ) → f y ≤ℤ g y) → (y : List ℤ) → pass stored d k f y ≤ℤ pass stored d k g y
  unfolding pass
  pass_mono f g h y = go (stored y) (f y) (f (plus_step d k y)) (f (minus_step d k y)) (g y) (g (plus_step d k y)) (g (minus_step d k y))
      (h y) (h (plus_step d k y)) (h (minus_step d k y))
    where
      lin : (a b c a' b' c' : ℤ) → a ≤ℤ a' → b ≤ℤ b' → c ≤ℤ c' → (pos 2 *ℤ a +ℤ b +ℤ c) ≤ℤ (pos 2 *ℤ a' +ℤ b' +ℤ c')
      lin = on _ λ a b. on _ λ c d. on _ λ e f. on _ λ g h. on _ λ i j. on _ λ k l. simp difs (omega ints)

      go : (s : Bool) (a b c a' b' c' : ℤ) → a ≤ℤ a' → b ≤ℤ b' → c ≤ℤ c' → cond s (pos 2 *ℤ a +ℤ b +ℤ c) (pos 0) ≤ℤ cond s (pos 2 *ℤ a' +ℤ b' +ℤ c') (pos 0)
      go true a b c a' b' c' p q r = lin a b c a' b' c' p q r
      go false a b c a' b' c' p q r = ≤ℤ_refl (pos 0)

  -- where no number is below 0, none is after
  pub pass_low : (f : List ℤ → ℤ) → ((y : List ℤ) → pos 0 ≤ℤ f y) → (y : List ℤ) → pos 0 ≤ℤ pass stored d k f y
  pass_low f h y = rw (pass_zero y) at (pass_mono (λ y. pos 0) f h y)

  -- and a stored point's is at least doubled
  pub pass_twice : (f : List ℤ → ℤ) → ((y : List ℤ) → pos 0 ≤ℤ f y) → (y : List ℤ) → T (stored y) → (pos 2 *ℤ f y) ≤ℤ pass stored d k f y
  unfolding pass
  pass_twice f h y t = go (stored y) t (f y) (f (plus_step d k y)) (f (minus_step d k y)) (h (plus_step d k y)) (h (minus_step d k y))
    where
      lin : (a b c : ℤ) → pos 0 ≤ℤ b → pos 0 ≤ℤ c → (pos 2 *ℤ a) ≤ℤ (pos 2 *ℤ a +ℤ b +ℤ c)
      lin = on _ λ a b. on _ λ c d. on _ λ e f. simp difs (omega ints)

      go : (s : Bool) → T s → (a b c : ℤ) → pos 0 ≤ℤ b → pos 0 ≤ℤ c → (pos 2 *ℤ a) ≤ℤ cond s (pos 2 *ℤ a +ℤ b +ℤ c) (pos 0)
      go true t = lin
      go false t = absurd t

  -- no number is more than four times the greatest before
  pub pass_small : (B : ℕ) (f : List ℤ → ℤ) → ((y : List ℤ) → Abs≤ (f y) B) → (y : List ℤ) → Abs≤ (pass stored d k f y) (4 * B)
  unfolding pass
  pass_small B f h y = go (stored y) (f y) (f (plus_step d k y)) (f (minus_step d k y)) (h y) (h (plus_step d k y)) (h (minus_step d k y))
    where
      go : (s : Bool) (a b c : ℤ) → Abs≤ a B → Abs≤ b B → Abs≤ c B → Abs≤ (cond s (pos 2 *ℤ a +ℤ b +ℤ c) (pos 0)) (4 * B)
      go true a b c p q r = zabs (search zlin depth 14) (omega arith)
      go false a b c p q r = record { abs = omega arith }

  -- lo·mass ≤ value sum ≤ hi·mass is kept
  pub pass_between : (lo hi : ℤ) (mass value : List ℤ → ℤ) → Between lo hi mass value → Between lo hi (pass stored d k mass) (pass stored d k value)
  pass_between lo hi mass value h = record {
    low = λ y. rw (pass_times lo mass y) at (pass_mono (λ y. lo *ℤ mass y) value h.low y);
    high = λ y. rw (pass_times hi mass y) at (pass_mono value (λ y. hi *ℤ mass y) h.high y);
  }

-- ---- the first n passes
module _ (stored : List ℤ → Bool) (d : ℕ) where
  pub passes_off : (f : List ℤ → ℤ) → ((y : List ℤ) → stored y ≡ false → f y ≡ pos 0) → (n : ℕ) (y : List ℤ) → stored y ≡ false → passes stored d n f y ≡ pos 0
  unfolding passes
  passes_off f h zero = h
  passes_off f h (suc n) = pass_off stored d n (passes stored d n f)

  pub passes_add : (n : ℕ) (f g : List ℤ → ℤ) (y : List ℤ) → passes stored d n (λ y. f y +ℤ g y) y ≡ passes stored d n f y +ℤ passes stored d n g y
  unfolding passes
  passes_add zero f g y = refl
  passes_add (suc n) f g y = ap (λ (h : List ℤ → ℤ). pass stored d n h y) (fun_ext (passes_add n f g)) ∙ pass_add stored d n (passes stored d n f) (passes stored d n g) y

  pub passes_times : (n : ℕ) (a : ℤ) (f : List ℤ → ℤ) (y : List ℤ) → passes stored d n (λ y. a *ℤ f y) y ≡ a *ℤ passes stored d n f y
  unfolding passes
  passes_times zero a f y = refl
  passes_times (suc n) a f y = ap (λ (h : List ℤ → ℤ). pass stored d n h y) (fun_ext (passes_times n a f)) ∙ pass_times stored d n a (passes stored d n f) y

  pub passes_mono : (n : ℕ) (f g : List ℤ → ℤ) → ((y : List ℤ) → f y ≤ℤ g y) → (y : List ℤ) → passes stored d n f y ≤ℤ passes stored d n g y
  unfolding passes
  passes_mono zero f g h = h
  passes_mono (suc n) f g h = pass_mono stored d n (passes stored d n f) (passes stored d n g) (passes_mono n f g h)

  pub passes_low : (f : List ℤ → ℤ) → ((y : List ℤ) → pos 0 ≤ℤ f y) → (n : ℕ) (y : List ℤ) → pos 0 ≤ℤ passes stored d n f y
  unfolding passes
  passes_low f h zero = h
  passes_low f h (suc n) = pass_low stored d n (passes stored d n f) (passes_low f h n)

  -- where no number is below 0, a stored point keeps what it has
  pub passes_above : (f : List ℤ → ℤ) → ((y : List ℤ) → pos 0 ≤ℤ f y) → (y : List ℤ) → T (stored y) → (n : ℕ) → f y ≤ℤ passes stored d n f y
  unfolding passes
  passes_above f h y t zero = ≤ℤ_refl (f y)
  passes_above f h y t (suc n) = le_trans (passes_above f h y t n)
      (lin (passes stored d n f y) (pass stored d n (passes stored d n f) y) (passes_low f h n y) (pass_twice stored d n (passes stored d n f) (passes_low f h n) y t))
    where
      lin : (a b : ℤ) → pos 0 ≤ℤ a → (pos 2 *ℤ a) ≤ℤ b → a ≤ℤ b
      lin = on _ λ a b. on _ λ c d. simp difs (omega ints)

  -- no number is more than 4^n times the greatest before
  pub passes_small : (B : ℕ) (f : List ℤ → ℤ) → ((y : List ℤ) → Abs≤ (f y) B) → (n : ℕ) (y : List ℤ) → Abs≤ (passes stored d n f y) (4 ^ n * B)
  unfolding passes
  passes_small B f h zero y = let e : 4 ^ 0 * B ≡ B = omega arith in rw e (h y)
  passes_small B f h (suc n) y = rw (more n) (pass_small stored d n (4 ^ n * B) (passes stored d n f) (passes_small B f h n) y)
    where
      more : (n : ℕ) → 4 ^ suc n * B ≡ 4 * (4 ^ n * B)
      more n = rw (pow-suc 4 n) (omega arith)

  pub passes_keep_between : (lo hi : ℤ) (mass value : List ℤ → ℤ) → Between lo hi mass value → (n : ℕ) → Between lo hi (passes stored d n mass) (passes stored d n value)
  passes_keep_between lo hi mass value h n = record {
    low = λ y. rw (passes_times n lo mass y) at (passes_mono n (λ y. lo *ℤ mass y) value h.low y);
    high = λ y. rw (passes_times n hi mass y) at (passes_mono n value (λ y. hi *ℤ mass y) h.high y);
  }
