-- Texts written into a buffer, one after the other.
use mathlib.Core.Path.{◌≡◌, refl, ap, sym, ◌∙◌}
use mathlib.Core.List.{List, [], ◌∷◌, ◌++◌}
use Prim.Native.Nat.{ℕ, suc, ◌+◌, ◌<◌, ◌≤◌}
use native.Mathlib.Nat.{add-zero}
use native.Mathlib.Numerals.{add-one}
use native.Mathlib.Omega.{arith}
use lib.ListN.{length, set, length-append}
use lib.Seq.{set_split}
use Rattle.whole.proofs.Lists.{length_splice, splice_none, splice_splice}
use Rattle.text.specs.Text.{Written}

-- ---- texts written one after the other
pub written_nothing : (o : List ℕ) (a : ℕ) → Written o a [] a o
written_nothing o a = record { next_is = sym (add-zero a); after_is = splice_none o a }

pub written_byte : (o : List ℕ) (a b : ℕ) → a < length o → Written o a (b ∷ []) (a + 1) (set o a b)
written_byte o a b h = record { next_is = refl; after_is = rw add-one (set_split o a b h) }

pub written_length : {o v o' : List ℕ} {a n : ℕ} → Written o a v n o' → a + length v ≤ length o → length o' ≡ length o
written_length {o} {v} {a = a} p h = ap length p.after_is ∙ length_splice o a v h

pub written_then : {o v o' w o'' : List ℕ} {a n n' : ℕ} → Written o a v n o' → Written o' n w n' o'' → a + length v + length w ≤ length o → Written o a (v ++ w) n' o''
written_then {o} {v} {w = w} {a = a} p q h =
    record {
      next_is = omega (arith, p.next_is, q.next_is, length-append v w);
      after_is = q.after_is ∙ rw (p.after_is, p.next_is) (splice_splice o a v w h);
    }

-- where there was room for m bytes more, there is room for them after the text
pub written_room : {o v o' : List ℕ} {a n : ℕ} (m : ℕ) → Written o a v n o' → a + length v + m ≤ length o → n + m ≤ length o'
written_room m p h = omega (arith, p.next_is, written_length p (omega arith))

-- a byte, and a text after it
pub written_cons : {o w o' : List ℕ} {a n : ℕ} (b : ℕ) → a + suc (length w) ≤ length o → Written (set o a b) (a + 1) w n o' → Written o a (b ∷ w) n o'
written_cons {o} {a = a} b h p = written_then (written_byte o a b (omega arith)) p (omega arith)
