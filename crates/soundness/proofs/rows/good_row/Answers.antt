use borrow.Author.Rules.{rules}
-- The part that is lent is the key of point i; its pair stands at 2·i.
use native.Mathlib.Nat.{le_refl}
use mathlib.Core.Path.{◌≡◌, ap₂, sym, ◌∙◌}
use Prim.Native.Nat.{suc, ◌+◌, ◌*◌}
use mir.Syntax.{w64}
use mir.Val.{SFits}
use mir.Facts.{to_z-of_z}
use Rattle.whole.specs.Lists.{at}
use Rattle.index.specs.Keys.{key_at}
use Rattle.index.proofs.Equality.{key_part, stretch_fits}
use Rattle.table.specs.Sound.{good_key}
use Rattle.soundness.specs.Inner.{light_pair}
use Rattle.soundness.proofs.Weighing.{key_of, row_key, row_pair}
use Rattle.soundness.proofs.rows.good_row.Goals as goal
use Rattle.soundness.proofs.rows.good_row.Goals.{After-good_key}

-- whether the key is good
own_key : (c : After-good_key) → c.good_key.result ≡ good_key c.args.d (key_at c.args.d c.args.keys.now c.args.i)
own_key c =
    let a = c.args in
    key_of a.d a.keys.now a.i (key_part a.d a.keys.now a.i (stretch_fits a.d a.i (suc a.i) _ (le_refl _) c.requires.stretches)) c.good_key.ensures

pub returns-else-good_key : goal.returns-else-good_key
returns-else-good_key c =
    c.if-good_key.false ∙ row_key c.args.total c.args.d c.args.keys.now c.args.sums.now c.args.i (sym (own_key (goal.at.returns-else-good_key c).After-good_key) ∙ c.if-good_key.false)

pub returns-then-good_key : goal.returns-then-good_key
returns-then-good_key c =
    let m : SFits w64 (at c.args.sums.now (2 * c.args.i)) = search rules in
    let v : SFits w64 (at c.args.sums.now (2 * c.args.i + 1)) = search rules in
    row_pair c.args.total c.args.d c.args.keys.now c.args.sums.now c.args.i
    (sym (own_key (goal.at.returns-then-good_key c).After-good_key) ∙ c.if-good_key.true)
    (c.good_pair.ensures ∙ ap₂ (light_pair c.args.total) (to_z-of_z m) (to_z-of_z v))
