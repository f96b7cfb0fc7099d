use native.Mathlib.Omega.{arith}
use Prim.Native.Nat.{◌*◌}
use lib.IntN.{pos}
use Rattle.whole.proofs.Lists.{part_replicate}
use Rattle.lattice.specs.Limits.{most_C}
use Rattle.spread.proofs.sums_are_theirs.Goals as goal

pub on_sheet-requires : goal.on_sheet-requires
on_sheet-requires c = record { comparable = c.requires; sheet_value = part_replicate (2 * most_C) (2 * c.args.head.capacity) (pos 0) (omega (arith, c.requires.fine.ranged.C_most)) }
