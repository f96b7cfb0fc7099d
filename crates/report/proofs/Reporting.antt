-- The ways that a report ends: a buffer that is too short, a log that is too long, settings that are refused, and a log that is printed.
use mathlib.Core.Path.{◌≡◌, refl, sym, ap, ◌∙◌}
use mathlib.Core.List.{List, []}
use Prim.Native.Nat.{ℕ, zero, suc, ◌≤◌, ◌<◌}
use native.Mathlib.Omega.{arith}
use lib.ListN.{length}
use borrow.Author.Tests.{le-leb, lt-leb}
use Rattle.lattice.specs.Refusals.{program_limit}
use Rattle.whole.proofs.Lists.{splice_none}
use Rattle.text.specs.Text.{Written}
use Rattle.report.specs.declared.opening.Opening.{Opening}
use Rattle.report.specs.Report.{most_bytes, refused_line, settings_refusal, settled_text, report, room, fitting, Reports}
use Rattle.report.specs.Inner.{RefusedRoom, Opens, Settled}
use Rattle.report.proofs.Fitting.{refused_fits}

pub too_short : (l buffer : List ℕ) → length buffer < room → Reports l buffer 0 buffer
too_short l buffer h =
    let e : fitting (length buffer) (report l) ≡ [] = rw (lt-leb room (length buffer) h) in
    record { bytes_are = ap length (sym e); after_is = rw e (splice_none buffer 0) }

-- a buffer that suffices
written : {text : List ℕ} (l : List ℕ) {buffer after : List ℕ} {bytes : ℕ} → room ≤ length buffer → report l ≡ text
    → Written buffer 0 text bytes after → Reports l buffer bytes after
written {text} l {buffer} h e w =
    let f : fitting (length buffer) (report l) ≡ text = rw (le-leb room (length buffer) h) e in
    record { bytes_are = rw f (omega (arith, w.next_is)); after_is = rw f w.after_is }

pub small_room : {size : ℕ} (x a : ℕ) → room ≤ size → a ≤ most_bytes → RefusedRoom x a size
small_room x a h k = record { offset_most = k; space = omega (arith, refused_fits x a) }

pub too_long : (l : List ℕ) {buffer after : List ℕ} {bytes : ℕ} → room ≤ length buffer → most_bytes < length l
    → Written buffer 0 (refused_line program_limit most_bytes) bytes after → Reports l buffer bytes after
unfolding report
too_long l h k w = written l h (rw (lt-leb (length l) most_bytes k) refl) w

-- ---- by what the settings are refused with, or ask for
refused_text : (l : List ℕ) (x : ℕ) → (x ≡ 0 → ⊥) → settled_text x l ≡ refused_line x 0
refused_text l zero z = absurd (z refl)
refused_text l (suc x) z = refl

module _ (l : List ℕ) (k : length l ≤ most_bytes) {x : ℕ} (n : x ≡ settings_refusal l) where
  text_is : report l ≡ settled_text x l
  unfolding report
  text_is = rw (le-leb (length l) most_bytes k, n) refl

  pub not_settled : {buffer after : List ℕ} {bytes : ℕ} → room ≤ length buffer → (x ≡ 0 → ⊥)
      → Written buffer 0 (refused_line x 0) bytes after → Reports l buffer bytes after
  not_settled h z w = written l h (text_is ∙ refused_text l x z) w

  pub settled : {o : Opening} → Opens l o → {size : ℕ} → room ≤ size → Settled l o.d o.capacity size
  settled O h = record {
    taken = record { short = k; ranged = O.ranged; few = O.few };
    d_is = O.d_is;
    capacity_is = O.capacity_is;
    space = h;
  }

  pub reported : {buffer after : List ℕ} {bytes : ℕ} → room ≤ length buffer → x ≡ 0
      → Written buffer 0 (settled_text 0 l) bytes after → Reports l buffer bytes after
  reported h z w = written l h (text_is ∙ ap (λ (x : ℕ). settled_text x l) z) w
