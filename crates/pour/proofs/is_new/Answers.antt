-- The search ends at a place of the index, and what stands there decides.
use native.Mathlib.Omega.{arith}
use Rattle.pour.proofs.Seeking.{place_in, place_read}
use Rattle.pour.proofs.is_new.Goals as goal

pub offset_bounds-index-place : goal.offset_bounds-index-place
offset_bounds-index-place c = omega (arith, place_in _ _ _ _ c.args.key.now c.requires.searchable c.requires.key_len c.search-place.ensures, c.requires.searchable.small)

pub bounds-index-place : goal.bounds-index-place
bounds-index-place c = place_read _ _ _ _ c.args.key.now c.requires.searchable c.requires.key_len c.search-place.ensures
