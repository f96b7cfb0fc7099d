-- What the program prints, by the first of its refusals that is met, or by the table of a log that is taken whole.
use mathlib.Core.Path.{◌≡◌, refl, ap, ◌∙◌}
use mathlib.Core.List.{List}
use Prim.Native.Nat.{ℕ, suc, ◌≤◌, ◌<◌}
use lib.ListN.{length}
use borrow.Author.Tests.{le-leb, lt-leb}
use Rattle.whole.proofs.Tests.{T_true, T_false}
use Rattle.lattice.specs.Refusals.{first, settings_out_of_range, program_limit}
use Rattle.table.specs.Table.{Settings}
use Rattle.table.specs.Calls.{ranged}
use Rattle.table.specs.Sound.{Ranged}
use Rattle.table.proofs.Soundness.{to_ranged, of_ranged}
use Rattle.reader.specs.Items.{settings_of, item_at, number_of}
use Rattle.load.specs.Loading.{load}
use Rattle.load.proofs.Leaving.{load_settings}
use Rattle.report.specs.Report.{most_bytes, most_log_capacity, table_text, loaded_text, settings_refusal, settled_text, report}
use Rattle.promises.specs.Refusals.{Not}
use Rattle.promises.specs.LogRefusals.{memory, Prints}

module _ (l : List ℕ) where
  abbrev c : Settings
  c = settings_of l

  -- a log that is not too long is told by the number of its settings
  settled : (x : ℕ) → length l ≤ most_bytes → settings_refusal l ≡ x → report l ≡ settled_text x l
  unfolding report
  settled x h e = rw (le-leb (length l) most_bytes h) (ap (λ (x : ℕ). settled_text x l) e)

  -- ---- that number
  by_form : (x : ℕ) → number_of (item_at l 0) ≡ suc x → settings_refusal l ≡ suc x
  unfolding settings_refusal
  by_form x e = rw e refl

  out_of_range : number_of (item_at l 0) ≡ 0 → Not (Ranged c) → settings_refusal l ≡ settings_out_of_range
  unfolding settings_refusal first
  out_of_range e n = rw (e, T_false (ranged c) (λ t. n (to_ranged c t))) refl

  wide : number_of (item_at l 0) ≡ 0 → Ranged c → most_log_capacity < c.C → settings_refusal l ≡ program_limit
  unfolding settings_refusal first
  wide e r h = rw (e, T_true (ranged c) (of_ranged c r), lt-leb c.C most_log_capacity h) refl

  accepted : number_of (item_at l 0) ≡ 0 → Ranged c → c.C ≤ most_log_capacity → settings_refusal l ≡ 0
  unfolding settings_refusal first
  accepted e r h = rw (e, T_true (ranged c) (of_ranged c r), le-leb c.C most_log_capacity h) refl

  -- ---- a log with such settings is loaded
  module _ (h : length l ≤ most_bytes) (s : settings_refusal l ≡ 0) where
    by_load : (x : ℕ) → (load l (memory l)).number ≡ x → report l ≡ loaded_text l x (load l (memory l))
    by_load x e = settled 0 h s ∙ ap (λ (x : ℕ). loaded_text l x (load l (memory l))) e

    pub taken_whole : (load l (memory l)).number ≡ 0 → report l ≡ table_text c (load l (memory l)).booked.table l
    taken_whole e = by_load 0 e ∙ ap (λ (b : Settings). table_text b (load l (memory l)).booked.table l) (load_settings l (memory l) e)

pub prints : (l : List ℕ) → Prints l
unfolding report
prints l = record {
  too_long = λ h. rw (lt-leb (length l) most_bytes h) refl;
  settings_form = λ h x e. settled l (suc x) h (by_form l x e);
  settings_range = λ h e n. settled l settings_out_of_range h (out_of_range l e n);
  too_wide = λ h e r w. settled l program_limit h (wide l e r w);
  refused = λ h e r w x k. by_load l h (accepted l e r w) (suc x) k;
  taken = λ h e r w k. taken_whole l h (accepted l e r w) k;
}
