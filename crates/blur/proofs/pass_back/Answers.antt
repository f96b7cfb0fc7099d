-- The second sheet has the new pairs after the pass, and the first after the copy.
use Rattle.table.specs.Heads.{settings, table}
use Rattle.blur.proofs.Turning.{passed_back}
use Rattle.blur.proofs.pass_back.Goals as goal

pub returns : goal.returns
returns c =
    let a = c.args in
    passed_back (settings a.head) (table a.head a.keys.now a.first.now a.index.now) a.k a.second.now _ c.requires c.pass.ensures c.copy_from_slice.ensures.after
