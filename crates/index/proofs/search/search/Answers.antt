use Rattle.std.proofs.Common.{◌<◌, length, refl, arith}
use Rattle.index.proofs.Hash.{home_lt}
use Rattle.index.proofs.Ring.{next_lt}
use Rattle.index.proofs.Steps.{starts, ends, finds, goes_on, falls}
use Rattle.index.proofs.search.search.Goals as goal

pub loop-e-init : goal.loop-e-init
loop-e-init c =
    let e = c.home_of-at.ensures in
    let some : 0 < c.args.capacity = omega (arith, c.requires.hole_inside) in (
      omega (arith, e, c.requires.places, home_lt c.args.capacity c.args.key.now some),
      refl,
      refl,
      starts c.args.capacity c.args.keys.now c.args.index.now c.args.key.now _ _ c.requires.places e,
    )

pub loop-e-smaller : goal.loop-e-smaller
loop-e-smaller c =
    let l = c.loop-e in
    let inside : c.requires.hole < length c.args.index.now = omega (arith, c.requires.places, c.requires.hole_inside) in
    rw c.next_place-at.ensures
    (falls c.args.keys.now c.args.index.now c.args.key.now (length c.args.index.now) c.requires.hole inside c.requires.hole_empty
    l.at _ l.invariant.0 (λ z. let h = c.if-e-eq0.false in omega arith) (c.requires.named l.at) (rw c.from-i.ensures at c.same_key.ensures) c.if-same_key.false)

pub loop-e-preserved : goal.loop-e-preserved
loop-e-preserved c =
    let l = c.loop-e in
    let inside : c.requires.hole < length c.args.index.now = omega (arith, c.requires.places, c.requires.hole_inside) in
    rw c.next_place-at.ensures (
      next_lt _ l.at l.invariant.0,
      refl,
      refl,
      goes_on c.args.keys.now c.args.index.now c.args.key.now (length c.args.index.now) c.requires.hole inside c.requires.hole_empty
          l.at _ l.invariant.0 (λ z. let h = c.if-e-eq0.false in omega arith) (c.requires.named l.at) (rw c.from-i.ensures at c.same_key.ensures) c.if-same_key.false l.invariant.3,
    )

pub returns-then-e-eq0 : goal.returns-then-e-eq0
returns-then-e-eq0 c =
    let l = c.loop-e in
    ends c.args.keys.now c.args.index.now c.args.key.now (length c.args.index.now) l.at (let z = c.if-e-eq0.true in omega arith) l.invariant.3

pub returns-then-same_key : goal.returns-then-same_key
returns-then-same_key c =
    let l = c.loop-e in
    finds c.args.keys.now c.args.index.now c.args.key.now (length c.args.index.now)
    l.at _ (λ z. let h = c.if-e-eq0.false in omega arith) (c.requires.named l.at) (rw c.from-i.ensures at c.same_key.ensures) c.if-same_key.true l.invariant.3
