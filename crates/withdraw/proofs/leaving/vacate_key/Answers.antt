-- The key is copied, then its own stretch is 0.
use Rattle.std.proofs.Common.{rules}
use Rattle.withdraw.proofs.Vacated.{key_gone}
use Rattle.withdraw.proofs.leaving.vacate_key.Goals as goal

pub returns : goal.returns
returns c = key_gone c.args.d c.args.i c.args.last c.args.keys.now _ _ c.requires.3 c.copy_within.ensures.after c.copy_within.ensures.len (c.fill.ensures.after (λ y e. search rules))
