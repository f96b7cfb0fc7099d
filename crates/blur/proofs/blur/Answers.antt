-- The passes start from the table's own pairs, which the copy puts on a clear sheet.
use borrow.Author.Rules.{rules}
use Rattle.table.specs.Heads.{settings, table}
use Rattle.blur.proofs.Blurring.{blurrable, blurred}
use Rattle.blur.proofs.blur.Goals as goal

pub all_passes-requires : goal.all_passes-requires
all_passes-requires c =
    let a = c.args in
    blurrable (settings a.head) (table a.head a.keys.now a.sums.now a.index.now) a.first.now a.second.now c.requires (c.fill.ensures.after (λ y e. e)) c.copy_from_slice.ensures.after (search rules)

pub returns : goal.returns
returns c =
    let a = c.args in
    blurred (settings a.head) (table a.head a.keys.now a.sums.now a.index.now) a.first.now a.second.now c.requires (c.fill.ensures.after (λ y e. e)) c.copy_from_slice.ensures.after c.all_passes.new.second c.all_passes.ensures (c.fill-2.ensures.after (λ y e. e)) (search rules)
