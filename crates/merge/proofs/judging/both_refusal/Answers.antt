-- Each return is the first test of the two tables together that fails.
use native.Mathlib.Omega.{arith}
use mathlib.Core.Path.{◌≡◌, ap, ◌∙◌}
use Prim.Native.Nat.{ℕ, ◌+◌}
use Rattle.whole.specs.Lists.{tab}
use Rattle.index.specs.Keys.{key_at}
use Rattle.table.specs.Pour.{news_in}
use Rattle.table.specs.Heads.{settings}
use Rattle.table.proofs.Refusals.{passed, failed}
use Rattle.merge.proofs.Rows.{news_few}
use Rattle.merge.proofs.Refusing.{other_d, other_S, number_met, many_readings, many_points, both_fit}
use Rattle.merge.proofs.judging.both_refusal.Goals as goal
use Rattle.merge.proofs.judging.both_refusal.Goals.{After-new_rows-count}

-- where the dimensions are equal, the points that are new are those of the source's own dimension
counted : (c : After-new_rows-count) → let a = c.args in
    a.head.points + c.new_rows-count.result ≡ a.head.points + news_in (settings a.head) a.keys.now a.index.now (tab a.source.points (key_at a.source.d a.source_keys.now))
counted c = let a = c.args in
    ap (λ (k : ℕ). a.head.points + k) (c.new_rows-count.ensures ∙ ap (λ (d : ℕ). news_in (settings a.head) a.keys.now a.index.now (tab a.source.points (key_at d a.source_keys.now))) c.if-head-source.false)

pub returns-then-head-source : goal.returns-then-head-source
returns-then-head-source c = other_d _ _ _ _ _ _ c.if-head-source.true

pub returns-then-head-source-2 : goal.returns-then-head-source-2
returns-then-head-source-2 c = other_S _ _ _ _ _ _ c.if-head-source.false c.if-head-source-2.true

pub returns-then-not-none_met : goal.returns-then-not-none_met
returns-then-not-none_met c = number_met _ _ _ _ _ _ c.if-head-source.false c.if-head-source-2.false (failed _ c.none_met.ensures c.if-not-none_met.true-raw)

pub returns-then-head-source-3 : goal.returns-then-head-source-3
returns-then-head-source-3 c =
    many_readings _ _ _ _ _ _ c.if-head-source.false c.if-head-source-2.false (passed _ c.none_met.ensures c.if-not-none_met.false-raw) c.if-head-source-3.true

pub overflow_add-head-2 : goal.overflow_add-head-2
overflow_add-head-2 c =
    let a = c.args in
    let few = news_few (settings a.head) a.keys.now a.index.now a.source.points (key_at a.head.d a.source_keys.now) in
    record { fits = omega (arith, few, c.new_rows-count.ensures, c.requires.points_few, c.requires.stretches.few) }

pub returns-then-head-count : goal.returns-then-head-count
returns-then-head-count c =
    many_points _ _ _ _ _ _ c.if-head-source.false c.if-head-source-2.false (passed _ c.none_met.ensures c.if-not-none_met.false-raw) (omega (arith, c.if-head-source-3.false))
    (rw (← counted (goal.at.returns-then-head-count c).After-new_rows-count) c.if-head-count.true)

pub returns : goal.returns
returns c =
    both_fit _ _ _ _ _ _ c.if-head-source.false c.if-head-source-2.false (passed _ c.none_met.ensures c.if-not-none_met.false-raw) (omega (arith, c.if-head-source-3.false))
    (rw (← counted (goal.at.returns c).After-new_rows-count) (omega (arith, c.if-head-count.false)))
