use Rattle.std.proofs.Common.{◌≡◌, sym, ap, ◌∙◌, ℕ, ℤ, pos, ◌-ℤ◌, ◌*ℤ◌, ◌<◌, arith, rules}
use Rattle.std.proofs.Math.Facts.{to_z-of_z}
use lib.Dec.{lit<}
use lib.Seq.{ext_get_or}
use Rattle.whole.specs.Lists.{at}
use Rattle.whole.proofs.Lists.{place_more}
use Rattle.whole.proofs.Signed.{W32}
use Rattle.whole.proofs.Size.{back32}
use Rattle.simplex.specs.Inner.{point_of}
use Rattle.simplex.proofs.Padding.{length_padded, padded_at}
use Rattle.simplex.proofs.put_point.Goals as goal
use mir.Syntax.{w32}
use mir.Val.{SFits}

pub loop-i-preserved : goal.loop-i-preserved
loop-i-preserved c =
    let l = c.loop-i in
    let n = c.args.n in
    let z = c.args.z.now in
    let f : ℕ → ℤ = λ i. pos n *ℤ at z i -ℤ W32 c.args.total in
    let fits : SFits w32 c.point_at.result = record { sfits = c.point_at.type_inv } in
    let six : l.i < 6 = search rules in
    place_more (at (point_of n z (W32 c.args.total))) l.point (pos 0) l.i _ (search rules)
    (to_z-of_z fits ∙ c.point_at.ensures ∙ sym (padded_at n f l.i six)) l.invariant

pub returns : goal.returns
returns c =
    let l = c.loop-i in
    let n = c.args.n in
    let z = c.args.z.now in
    let own : W32 c.args.total ≡ c.args.total = back32 c.requires.span.total_near (lit< tt) in
    let six = length_padded n (λ i. pos n *ℤ at z i -ℤ W32 c.args.total) in
    ext_get_or (pos 0) l.point (point_of n z (W32 c.args.total)) (omega (arith, six, c.requires.six, l.auto.point)) (λ k h. l.invariant k (omega arith))
    ∙ ap (point_of n z) own
