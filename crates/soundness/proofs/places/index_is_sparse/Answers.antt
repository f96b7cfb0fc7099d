use Rattle.std.proofs.Common.{rules, tests, ◌≡◌, ◌≤◌, length, true, false, cond, arith}
use Rattle.whole.proofs.Tests.{all_more}
use Rattle.index.specs.Search.{entry_at}
use Rattle.index.specs.Indexed.{used}
use Rattle.soundness.proofs.Counting.{low, none_low, none_named, named_more, sparse_stop, sparse_done}
use Rattle.soundness.proofs.places.index_is_sparse.Goals as goal

pub loop-e-init : goal.loop-e-init
loop-e-init c = (none_low (entry_at c.args.index.now) c.args.points, none_named (entry_at c.args.index.now) c.args.points, search rules)

pub returns-then-points-from : goal.returns-then-points-from
returns-then-points-from c =
    let high : low (entry_at c.args.index.now) c.args.points c.loop-e.e-index ≡ false = search (rules, tests) in
    sparse_stop (entry_at c.args.index.now) c.args.points (length c.args.index.now) c.loop-e.e-index (search rules) high

pub loop-e-preserved : goal.loop-e-preserved
loop-e-preserved c =
    let i = c.loop-e.e-index in
    let entry = entry_at c.args.index.now in
    let here : low entry c.args.points i ≡ true = search (rules, tests) in
    let one : c.from-named.result ≡ cond (used entry i) 1 0 = search (rules, tests) in
    let few : c.from-named.result ≤ 1 = search (rules, tests) in
    (all_more i (low entry c.args.points) c.loop-e.invariant.0 here, rw one (named_more entry c.args.points i c.loop-e.invariant.1), omega (arith, few, c.loop-e.invariant.2))

pub returns : goal.returns
returns c = let e : c.loop-e.e-index ≡ length c.args.index.now = search rules in sparse_done (entry_at c.args.index.now) c.args.points e c.loop-e.invariant.0 c.loop-e.invariant.1
