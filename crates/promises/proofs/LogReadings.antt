-- The readings of a log have one coordinate more than its dimension, as those of a list have, also with the numbers that they get.
use mathlib.Core.Bool.{Bool, true, false, cond}
use mathlib.Core.List.{List, [], ◌++◌}
use Prim.Native.Nat.{ℕ}
use lib.Dec.{ltb}
use Rattle.whole.specs.Lists.{All}
use Rattle.table.proofs.Lists.{all_append}
use Rattle.book.proofs.Entering.{Sized}
use Rattle.reader.specs.Items.{after_settings, settings_of}
use Rattle.reader.specs.Content.{Brought}
use Rattle.reader.specs.Walk.{Walk, then, ends, readings_in, readings, items, before}
use Rattle.load.specs.Numbering.{numbering}
use Rattle.load.proofs.Among.{numbering_sized}
use Rattle.load.proofs.Leaving.{SizedReading, SizedWalk, walk_sized}

-- readings as a log brings them
abbrev SizedAll : ℕ → List Brought → Type 0
SizedAll d rs = All (SizedReading d) rs

sized_walk : (d : ℕ) (w : Walk) → SizedWalk d w → SizedAll d (readings w)
unfolding readings
sized_walk d (then a s w) (z, h) = all_append (SizedReading d) (readings_in s) (readings w) z (sized_walk d w h)
sized_walk d (ends x a) h = tt

sized_before : (d p : ℕ) (w : Walk) → SizedWalk d w → SizedAll d (before p w)
unfolding before
sized_before d p (then a s w) (z, h) = go (ltb a p) (sized_before d p w h)
  where
    go : (b : Bool) → SizedAll d (before p w) → SizedAll d (cond b (readings_in s ++ before p w) [])
    go true k = all_append (SizedReading d) (readings_in s) (before p w) z k
    go false k = tt
sized_before d p (ends x a) h = tt

pub log_read : (l : List ℕ) → Sized (settings_of l).d (numbering [] (readings (items l)))
log_read l = numbering_sized (settings_of l).d [] (readings (items l)) (sized_walk (settings_of l).d (items l) (walk_sized l after_settings))

pub log_sized : (l : List ℕ) (p : ℕ) → Sized (settings_of l).d (numbering [] (before p (items l)))
log_sized l p = numbering_sized (settings_of l).d [] (before p (items l)) (sized_before (settings_of l).d p (items l) (walk_sized l after_settings))
