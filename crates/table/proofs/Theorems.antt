-- The statements of specs/Theorems.antt, proved.
use mathlib.Core.Path.{refl, ◌∙◌}
use Prim.Native.Nat.{◌*◌}
use lib.IntN.{pos}
use native.Mathlib.Omega.{arith}
use Rattle.whole.specs.Sum.{over}
use Rattle.whole.specs.Lists.{tab}
use Rattle.whole.proofs.Parts.{le_out}
use Rattle.whole.proofs.Ring.{le_trans}
use Rattle.lattice.specs.Limits.{most_W, most_readings}
use Rattle.lattice.specs.Weight.{W}
use Rattle.index.proofs.Finding.{gap, finds_exactly}
use Rattle.table.specs.Table.{key, row, rows, entry}
use Rattle.table.specs.Calls.{fresh}
use Rattle.table.specs.Theorems.{SearchFinds, EmptyFound, FreshSound, FreshHolds, StoredExactly, SumsSmall}
use Rattle.table.proofs.Soundness.{to_ranged, fine_kept, mass_bound, total_most}
use Rattle.table.proofs.Sizes.{good_small}
use Rattle.table.proofs.Keeping.{fresh_fine}
use Rattle.table.proofs.Meaning.{held_given, stored_iff}

-- ---- searching
pub search_finds : SearchFinds
search_finds c t F k i = finds_exactly c.C t.m (key c t) (entry t) F.ranged.C_least F.sound.indexed k i

pub empty_found : EmptyFound
empty_found c t F = gap c.C t.m (key c t) (entry t) F.ranged.C_least F.sound.indexed.sparse

-- ---- soundness is kept
pub fresh_sound : FreshSound
fresh_sound c t = fresh_fine c (to_ranged c t)

-- ---- what is held
pub fresh_holds : FreshHolds
fresh_holds c t k = let F = fresh_fine c (to_ranged c t) in
    held_given c F.ranged.C_least (fresh c) (fine_kept c (fresh c) F) k ∙ (unfold fresh rows tab over in refl)

pub stored_exactly : StoredExactly
stored_exactly c t F k = stored_iff c F.ranged.C_least t (fine_kept c t F) k

-- ---- sizes
pub sums_small : SumsSmall
sums_small c t F i l =
    let s = good_small c.d (row c t i) (F.sound.good i l)
    (le_trans (mass_bound c t F.sound i l) (le_out (pos (W c.d c.S * t.n)) (pos (most_W * most_readings)) (omega (arith, total_most c t.n F.ranged F.sound.few)))) in
    record { mass_small = s.mass_small; value_small = s.value_small }
