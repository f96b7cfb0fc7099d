-- What a table holds after a reading is entered and after another table is merged.
use mathlib.Core.Path.{sym, ap, ◌∙◌}
use lib.ListN.{take}
use Rattle.whole.specs.Sum.{over}
use Rattle.table.specs.Table.{rows, held}
use Rattle.table.specs.Reading as table
use Rattle.table.specs.Reading.{shares}
use Rattle.table.specs.Calls as base
use Rattle.table.specs.Theorems.{plus}
use Rattle.table.proofs.Soundness.{fine_kept}
use Rattle.table.proofs.Shares.{share_given}
use Rattle.table.proofs.Keeping.{entered_adds, merged_adds}
use Rattle.table.proofs.Meaning.{held_given, adds_held}
use Rattle.book.specs.Theorems.{EnterAdds, MergeAdds}
use Rattle.book.proofs.Booking.{takes, merges}

pub enter_adds : EnterAdds
enter_adds c b e size F z y Y =
    let t = b.table in
    let r = e.reading in
    let A = (takes c b e size F.room_most z).accepted in
    adds_held c t (table.entered c t r) F.fine 1 (over (shares c.d c.S r)) (entered_adds c t r F.fine A) (take c.d y)
    ∙ ap (plus (held c t (take c.d y))) (share_given c.d c.S F.fine.ranged.S_least r y Y)

pub merge_adds : MergeAdds
merge_adds c b e s z k =
    let M = (merges c b e s z).mergeable in
    adds_held c b.table (base.merged c b.table e s.table) M.target s.table.n (over (rows e s.table)) (merged_adds c b.table e s.table M) k
    ∙ ap (plus (held c b.table k)) (sym (held_given e M.source.ranged.C_least s.table (fine_kept e s.table M.source) k))
