use Rattle.std.proofs.Common.{rules, ◌≡◌, ◌-◌, sym, ap, ◌∙◌, arith}
use Rattle.index.specs.Keys.{same, key_at}
use Rattle.index.proofs.Equality.{stretch_fits, key_part}
use Rattle.withdraw.proofs.Downward.{point_down, sought_none, sought_here, sought_below}
use Rattle.withdraw.proofs.leaving.point_of.Goals as goal
use Rattle.withdraw.proofs.leaving.point_of.Goals.{After-same_key}

-- what was told of the key of the point before
told : (c : After-same_key) → same (key_at c.args.d c.args.keys.now (c.loop-i.i - 1)) c.args.key.now ≡ c.same_key.result
told c = sym (c.same_key.ensures ∙ ap (λ k. same k c.args.key.now) (key_part c.args.d c.args.keys.now (c.loop-i.i - 1) (stretch_fits c.args.d (c.loop-i.i - 1) c.args.points _ (omega arith) c.requires.2)))

pub returns-then-same_key : goal.returns-then-same_key
returns-then-same_key c = record {
  which = sought_here (point_down (key_at c.args.d c.args.keys.now) c.args.key.now) c.args.points c.loop-i.i c.loop-i.invariant c.loop-i-test.true (told (goal.at.returns-then-same_key c).After-same_key ∙ c.if-same_key.true);
  inside = search rules;
}

pub loop-i-preserved : goal.loop-i-preserved
loop-i-preserved c =
    sought_below (point_down (key_at c.args.d c.args.keys.now) c.args.key.now) c.args.points c.loop-i.i c.loop-i.invariant c.loop-i-test.true (told (goal.at.loop-i-preserved c).After-same_key ∙ c.if-same_key.false)

pub returns : goal.returns
returns c = record {
  which = sought_none (point_down (key_at c.args.d c.args.keys.now) c.args.key.now) c.args.points c.loop-i.i c.loop-i.invariant c.loop-i-test.false;
  inside = search rules;
}
