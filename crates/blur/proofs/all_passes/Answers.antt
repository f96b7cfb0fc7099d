use borrow.Author.Rules.{rules}
use native.Mathlib.Omega.{arith}
use mathlib.Core.Path.{refl}
use Rattle.table.specs.Heads.{settings, table}
use Rattle.blur.proofs.Turning.{start_is, returning, after_more}
use Rattle.blur.proofs.all_passes.Goals as goal

pub loop-k-init : goal.loop-k-init
loop-k-init c =
    let a = c.args in
    (omega arith, refl, refl, refl, start_is (settings a.head) (table a.head a.keys.now a.first.now a.index.now) a.second.now c.requires)

pub pass_back-requires : goal.pass_back-requires
pass_back-requires c =
    let l = c.loop-k in
    let a = c.args in
    returning (settings a.head) (table a.head a.keys.now a.first.now a.index.now) a.second.now c.requires l.k (search rules) l.invariant.4 l.invariant.3

pub loop-k-preserved : goal.loop-k-preserved
loop-k-preserved c =
    let l = c.loop-k in
    let a = c.args in (
      search rules,
      refl,
      search rules,
      search rules,
      after_more (settings a.head) (table a.head a.keys.now a.first.now a.index.now) a.second.now c.requires l.k l.invariant.4 c.pass_back.ensures,
    )
