use mathlib.Core.Path.{◌≡◌}
use borrow.Author.Rules.{rules}
use mir.Facts.{to_z-of_z}
use mir.Syntax.{w32}
use mir.Val.{SFits}
use Rattle.filter.specs.Inner.{value_told}
use Rattle.reader.proofs.Contents.{bodied}
use Rattle.report.proofs.Replies.{an_item, query_room, query_done, no_query}
use Rattle.report.proofs.answers.put_reply.Goals as goal

pub content_at-requires : goal.content_at-requires
content_at-requires c = bodied _ _ _ (an_item c.requires)

pub put_answer-requires : goal.put_answer-requires
put_answer-requires c =
    let f : SFits w32 c.unwrap_or.result = search rules in
    let v : c.unwrap_or.result ≡ value_told c.reply_at-reply.result = c.unwrap_or.ensures in
    rw (to_z-of_z f, v, c.number_told.ensures) (query_room c.requires c.content_at.ensures c.in-Asks.is c.reply_at-reply.ensures)

pub returns-in-Asks : goal.returns-in-Asks
returns-in-Asks c =
    let f : SFits w32 c.unwrap_or.result = search rules in
    let v : c.unwrap_or.result ≡ value_told c.reply_at-reply.result = c.unwrap_or.ensures in
    query_done c.requires c.content_at.ensures c.in-Asks.is c.reply_at-reply.ensures (rw (to_z-of_z f, v, c.number_told.ensures) at c.put_answer.ensures)

pub returns-in-Reads : goal.returns-in-Reads
returns-in-Reads c = no_query _ _ _ _ _ _ _ c.content_at.ensures.means_is c.in-Reads.is
