use mathlib.Core.Path.{◌≡◌, refl}
use borrow.Author.Rules.{rules}
use Rattle.std.specs.Prelude.{Some, None, Ok}
use Rattle.reader.proofs.Forms.{kind_found, behind_found, less_left, end_found, refused_found}
use Rattle.report.proofs.Replies.{replies_start, reply_room, replies_more, replies_end}
use Rattle.report.proofs.answers.put_replies.Goals as goal
use Rattle.report.proofs.answers.put_replies.Goals.{In-Ok-Some}

-- an item of a kind stands here
met : (c : In-Ok-Some) → c.read_at-found.result.item ≡ Ok (Some c.in-Ok-Some.kind)
met c = search rules

pub loop-kind-init : goal.loop-kind-init
loop-kind-init c = replies_start _ _ _ _ _

pub put_reply-next-requires : goal.put_reply-next-requires
put_reply-next-requires c =
    let f = c.read_at-found.ensures in
    let q = met (goal.at.put_reply-next-requires c).In-Ok-Some in
    reply_room c.requires c.loop-kind.invariant (kind_found _ _ _ f q) (behind_found _ _ _ f q)

pub loop-kind-smaller : goal.loop-kind-smaller
loop-kind-smaller c = less_left _ _ _ c.read_at-found.ensures (met (goal.at.loop-kind-smaller c).In-Ok-Some)

pub loop-kind-preserved : goal.loop-kind-preserved
loop-kind-preserved c =
    let f = c.read_at-found.ensures in
    let q = met (goal.at.loop-kind-preserved c).In-Ok-Some in
    replies_more c.requires c.loop-kind.invariant (kind_found _ _ _ f q) (behind_found _ _ _ f q) c.put_reply-next.ensures

pub returns-in-Ok-None : goal.returns-in-Ok-None
returns-in-Ok-None c =
    let q : c.read_at-found.result.item ≡ Ok None = search rules in
    replies_end c.requires c.loop-kind.invariant (end_found _ _ _ c.read_at-found.ensures q) refl

pub returns-in-Err : goal.returns-in-Err
returns-in-Err c = replies_end c.requires c.loop-kind.invariant (refused_found _ _ _ c.read_at-found.ensures c.in-Err.is) refl
