use Rattle.std.proofs.Common.{arith, sym, length, ◌-◌}
use Rattle.simplex.proofs.Placing.{placed}
use Rattle.cases.proofs.show.Goals as goal

-- what `enclose` asks follows from the tests on the way and from `judge`
pub enclose-requires : goal.enclose-requires
enclose-requires g c =
    let x = c.args.x.now in
    placed (length x - 1) c.args.fineness x (omega arith) (omega arith) (omega arith) (omega arith) (omega arith) (sym c.in-Ok.ensures)
