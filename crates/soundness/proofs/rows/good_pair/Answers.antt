-- A mass that passes the first test is at most 2^32, so a million times it fits 64 bits.
use borrow.Author.Rules.{rules}
use Rattle.std.proofs.Common.{tests}
use mathlib.Core.Path.{◌≡◌}
use mathlib.Core.Bool.{◌&&◌}
use lib.IntN.{pos, ◌*ℤ◌}
use lib.Signed.{le_z}
use Rattle.lattice.specs.Limits.{most_value}
use Rattle.table.specs.Sound.{within_plus_minus}
use Rattle.soundness.proofs.Weighing.{pair_out, pair_in}
use Rattle.soundness.proofs.rows.good_pair.Goals as goal

pub returns-then-not-contains : goal.returns-then-not-contains
returns-then-not-contains c =
    let light : c.contains.result ≡ (le_z (pos 1) c.args.mass && le_z c.args.mass (pos c.args.total)) = search (rules, tests) in
    pair_out _ _ _ light c.if-not-contains.true

pub returns : goal.returns
returns c =
    let light : c.contains.result ≡ (le_z (pos 1) c.args.mass && le_z c.args.mass (pos c.args.total)) = search (rules, tests) in
    let near : c.contains-2.result ≡ within_plus_minus (pos most_value *ℤ c.args.mass) c.args.value = search (rules, tests) in
    pair_in _ _ _ light c.if-not-contains.false near
