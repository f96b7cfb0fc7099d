use mathlib.Core.Path.{◌≡◌}
use Prim.Native.Nat.{◌+◌}
use mir.Syntax.{w32}
use mir.Val.{SFits, to_z, of_z}
use mir.Facts.{to_z-of_z}
use Rattle.whole.specs.Lists.{at}
use Rattle.table.specs.Heads.{settings}
use Rattle.spread.proofs.OneReading.{placed, slots_ready, spread_done}
use Rattle.spread.proofs.spread_reading.Goals as goal
use Rattle.spread.proofs.spread_reading.Goals.{After-value-1}

pub enclose-simplex-requires : goal.enclose-simplex-requires
enclose-simplex-requires c = placed (settings c.args.head) _ _ _ c.args.reading.now c.requires

-- the value as the machine has it
given : (g : After-value-1) → let a = g.args in to_z w32 (of_z w32 (at a.reading.now (a.head.d + 1))) ≡ at a.reading.now (a.head.d + 1)
given g =
    let a = g.args in
    let f : SFits w32 (at a.reading.now (a.head.d + 1)) = record { sfits = g.value-1.given } in
    to_z-of_z f

pub lift_shares-requires : goal.lift_shares-requires
lift_shares-requires c =
    slots_ready (settings c.args.head) _ _ _ c.args.reading.now c.requires _ _ c.enclose-simplex.ensures _ (given (goal.at.lift_shares-requires c).After-value-1)

pub returns : goal.returns
returns c =
    spread_done (settings c.args.head) _ _ _ c.args.reading.now c.requires _ _ c.enclose-simplex.ensures _ (given (goal.at.returns c).After-value-1) c.lift_shares.ensures
