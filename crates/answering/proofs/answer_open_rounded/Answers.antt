use Rattle.answering.proofs.Laws.{rounded_is}
use Rattle.answering.proofs.answer_open_rounded.Goals as goal

pub returns : goal.returns
returns c =
    let opened = c.open_rounded-opened.ensures in
    rounded_is _ c.args.asked c.args.many _ c.min-m.ensures c.min-n.ensures _ opened.answer opened.memory
    opened.left c.lent_after.ensures c.put_opening.ensures
