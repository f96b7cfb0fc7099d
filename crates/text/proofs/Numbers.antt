-- Numbers written each after a space, one a turn, and a line written by its parts. Assumes nothing.
use mathlib.Core.Path.{◌≡◌, refl, ap, sym, ◌∙◌}
use mathlib.Core.List.{List, [], ◌∷◌, ◌++◌, append_assoc, append-nil}
use Prim.Native.Nat.{ℕ, ◌+◌, ◌<◌, ◌≤◌}
use native.Mathlib.Numerals.{add-one}
use native.Mathlib.Omega.{arith}
use lib.IntN.{ℤ, pos}
use lib.ListN.{length, set, take, length-append, take-append-drop}
use lib.Seq.{take-suc}
use Rattle.whole.specs.Lists.{at}
use Rattle.text.specs.Text.{space, decimal, spaced, line, line_feed, Written}
use Rattle.text.proofs.Lines.{written_then, written_byte, written_room}

spaced_append : (k l : List ℤ) → spaced (k ++ l) ≡ spaced k ++ spaced l
unfolding spaced
spaced_append [] l = refl
spaced_append (z ∷ k) l = ap (λ (t : List ℕ). (space ∷ decimal z) ++ t) (spaced_append k l) ∙ sym (append_assoc (space ∷ decimal z) (spaced k) (spaced l))

spaced_more : (l : List ℤ) (i : ℕ) → i < length l → spaced (take (i + 1) l) ≡ spaced (take i l) ++ (space ∷ decimal (at l i))
unfolding spaced
spaced_more l i h = rw (add-one, take-suc l i (pos 0), spaced_append, append-nil)

spaced_part : (l : List ℤ) (i : ℕ) → length (spaced (take i l)) ≤ length (spaced l)
spaced_part l i = let e = ap (λ (k : List ℤ). length (spaced k)) (take-append-drop i l) in
    omega (arith, rw (spaced_append, length-append) at e)

module _ {o : List ℕ} {a : ℕ} (l : List ℤ) (i : ℕ) {next : ℕ} {out : List ℕ} (p : Written o a (spaced (take i l)) next out) where
  pub numbers_room : i < length l → a + length (spaced l) ≤ length o → next + length (space ∷ decimal (at l i)) ≤ length out
  numbers_room h r = written_room (length (space ∷ decimal (at l i))) p (omega (arith, rw (spaced_more l i h, length-append) at (spaced_part l (i + 1))))

  pub numbers_more : {next' : ℕ} {out' : List ℕ} → i < length l → a + length (spaced l) ≤ length o → Written out next (space ∷ decimal (at l i)) next' out'
      → Written o a (spaced (take (i + 1) l)) next' out'
  numbers_more h r q = rw (spaced_more l i h) (written_then p q (omega (arith, rw (spaced_more l i h, length-append) at (spaced_part l (i + 1)))))

-- ---- a line by its parts
pub line_room : (word : List ℕ) (numbers : List ℤ) (a k : ℕ) → a + length (line word numbers) ≤ k → a + length word + (length (spaced numbers) + 1) ≤ k
unfolding line
line_room word numbers a k h = omega (arith, rw (length-append, length-append) at h)

module _ {o word out : List ℕ} (numbers : List ℤ) {a m : ℕ} (r : a + length (line word numbers) ≤ length o) (p : Written o a word m out) where
  end_room : a + length (word ++ spaced numbers) + 1 ≤ length o
  end_room = omega (arith, line_room word numbers a (length o) r, length-append word (spaced numbers))

  pub numbers_fit : m + length (spaced numbers) ≤ length out
  numbers_fit = written_room (length (spaced numbers)) p (omega (arith, line_room word numbers a (length o) r))

  module _ {n : ℕ} {out' : List ℕ} (q : Written out m (spaced numbers) n out') where
    both : Written o a (word ++ spaced numbers) n out'
    both = written_then p q (omega (arith, line_room word numbers a (length o) r))

    pub end_fits : n < length out'
    end_fits = omega (arith, written_room 1 both end_room)

    pub line_done : Written o a (line word numbers) (n + 1) (set out' n line_feed)
    unfolding line
    line_done = rw append_assoc at (written_then both (written_byte out' n line_feed end_fits) end_room)
