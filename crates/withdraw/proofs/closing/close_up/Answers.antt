use Rattle.std.proofs.Common.{rules}
use Rattle.withdraw.proofs.ClosedUp.{closes}
use Rattle.withdraw.proofs.closing.close_up.Goals as goal

pub returns : goal.returns
returns c = closes c.args.d c.args.n c.args.j c.args.book.now _ _ c.requires.2 c.requires.3 c.copy_within.ensures.after c.copy_within.ensures.len (c.fill.ensures.after (λ y e. search rules))
