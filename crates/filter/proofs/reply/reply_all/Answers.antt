use Rattle.std.proofs.Common.{rules, ◌≡◌, ◌+◌, ◌*◌, ◌/◌, ◌<◌, length, take, drop, refl, ap, ◌∙◌, arith}
use mir.Syntax.{w32}
use mir.Val.{SFits}
use mir.Facts.{to_z-of_z}
use Rattle.std.proofs.lemmas.List.{length_push}
use Rattle.whole.proofs.Pieces.{Pieces, pieces_whole, piece_met, pieces_met}
use Rattle.filter.specs.Inner.{value_told}
use Rattle.filter.proofs.Queries.{query_is, one_more_lem, all_answered}
use Rattle.filter.proofs.reply.reply_all.Goals as goal
use Rattle.filter.proofs.reply.reply_all.Goals.{In-Some}

pub loop-j-init : goal.loop-j-init
loop-j-init c = (search rules, tt, search rules, pieces_whole _ _ (omega arith) (search rules) (search rules), search rules)

-- the piece that is met is query j
met : (c : In-Some) → let w = c.args.head.d + 1 in let l = c.args.queries.now in let j = length c.loop-j.yielded in
    (j < length l / w) × (c.in-Some.query.now ≡ take w (drop (w * j) l)) × Pieces w (length l / w) l (j + 1) c.next.new.self.iter
met c = piece_met c.loop-j.invariant.3 c.in-Some.query refl c.in-Some.ensures.steps.0

pub loop-j-preserved : goal.loop-j-preserved
loop-j-preserved c =
    let i = c.loop-j.invariant in
    let s = c.in-Some.ensures.steps in
    let m = met (goal.at.loop-j-preserved c).In-Some in
    let f : SFits w32 c.unwrap_or.result = search rules in
    let v : c.unwrap_or.result ≡ value_told c.reply_at-reply.result = c.unwrap_or.ensures in
    rw (length_push c.loop-j.yielded (c.in-Some.j, c.in-Some.query), s.1 ∙ i.2)
    (search rules, tt, s.2 ∙ ap (λ k. k + 1) i.2, m.2, one_more_lem _ m.0 i.4 (query_is _ _ _ m.0 m.1) (rw (to_z-of_z f, v, c.number_told.ensures) c.reply_at-reply.ensures))

pub returns : goal.returns
returns c = all_answered _ (omega (arith, pieces_met c.loop-j.invariant.3 c.next.new.self.iter refl c.in-None.ensures.steps.0)) c.loop-j.invariant.4
