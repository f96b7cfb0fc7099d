-- The query's position is judged; then the sums over the points around it give the reply.
use Rattle.std.proofs.Common.{rules, ◌≡◌, Err, sym}
use Rattle.lattice.proofs.Refusing.{number_not_0}
use Rattle.lattice.specs.Position.{judged}
use Rattle.lattice.specs.Points.{weighed}
use Rattle.table.specs.Table.{Table}
use Rattle.table.specs.Heads.{settings, table}
use Rattle.filter.specs.Inner.{WeighedIs}
use Rattle.filter.proofs.Weighing.{weights_light}
use Rattle.filter.proofs.Bounds.{quotable}
use Rattle.filter.proofs.Replying.{enclosable, weighable, weighed_are, refused_position, replied}
use Rattle.filter.proofs.reply.reply_at.Goals.{In_ok-judge, After-weigh}
use Rattle.filter.proofs.reply.reply_at.Goals as goal

-- the position is one, and what was weighed are the points around it
good : (c : In_ok-judge) → judged c.args.query.now ≡ 0
good c = sym c.in_ok-judge.ensures

abbrev table_of : After-weigh → Table
table_of c = table c.args.head c.args.keys.now c.args.sheet.now c.args.index.now

sums_are : (c : After-weigh) → WeighedIs (settings c.args.head) (table_of c) (weighed c.args.head.d c.args.head.fineness c.args.query.now) c.weigh.result.weight c.weigh.result.mass c.weigh.result.value
sums_are c = weighed_are (settings c.args.head) (table_of c) c.requires.smooth _ _ _ c.enclose-simplex.ensures c.weigh.ensures

pub returns-in_err-judge : goal.returns-in_err-judge
returns-in_err-judge c =
    let why = c.in_err-judge.field-0.0 in
    let e : c.from_residual.result ≡ Err why = search rules in
    rw e (refused_position (settings c.args.head) (table c.args.head c.args.keys.now c.args.sheet.now c.args.index.now) _ _ c.in_err-judge.ensures (number_not_0 why))

pub enclose-simplex-requires : goal.enclose-simplex-requires
enclose-simplex-requires c =
    enclosable (settings c.args.head) _ c.requires.smooth.mapped.readable.ranged c.requires.query_len (good (goal.at.enclose-simplex-requires c).In_ok-judge)

pub weigh-requires : goal.weigh-requires
weigh-requires c = weighable (settings c.args.head) (table c.args.head c.args.keys.now c.args.sheet.now c.args.index.now) c.requires.smooth _ _ _ c.enclose-simplex.ensures

pub quotient-requires : goal.quotient-requires
quotient-requires c =
    let w = (goal.at.quotient-requires c).After-weigh in
    quotable (settings c.args.head) (table_of w) c.requires.smooth _ (weights_light _ c.requires.smooth.mapped.readable.ranged _) _ _ _ (sums_are w)

pub returns : goal.returns
returns c =
    let at = goal.at.returns c in
    replied (settings c.args.head) (table_of at.After-weigh) c.requires.smooth _ (good at.In_ok-judge) _ _ _ (sums_are at.After-weigh) c.quotient.ensures
