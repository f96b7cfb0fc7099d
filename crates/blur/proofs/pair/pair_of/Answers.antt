-- The search ends at a place of the index, and what stands there decides.
use native.Mathlib.Omega.{arith}
use Rattle.pour.proofs.Seeking.{can_search, place_in, place_read}
use Rattle.blur.proofs.Looking.{searched}
use Rattle.blur.proofs.pair.pair_of.Goals as goal

pub search-place-requires : goal.search-place-requires
search-place-requires c = can_search _ _ _ _ c.args.key.now (searched _ _ c.args.key.now c.requires.readable c.requires.key_len) c.requires.key_len

pub offset_bounds-index-place : goal.offset_bounds-index-place
offset_bounds-index-place c =
    omega (arith, place_in _ _ _ _ c.args.key.now (searched _ _ c.args.key.now c.requires.readable c.requires.key_len) c.requires.key_len c.search-place.ensures, c.requires.readable.ranged.C_most)

pub bounds-index-place : goal.bounds-index-place
bounds-index-place c =
    place_read _ _ _ _ c.args.key.now (searched _ _ c.args.key.now c.requires.readable c.requires.key_len) c.requires.key_len c.search-place.ensures
