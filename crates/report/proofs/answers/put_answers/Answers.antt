use Rattle.report.proofs.Replies.{answers_room, answers_done}
use Rattle.report.proofs.answers.put_answers.Goals as goal

pub put_replies-requires : goal.put_replies-requires
put_replies-requires c =
    answers_room c.requires c.blur.ensures _

pub returns : goal.returns
returns c =
    answers_done c.requires c.blur.ensures _ c.put_replies.ensures
