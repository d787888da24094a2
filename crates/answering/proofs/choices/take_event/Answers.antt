use Rattle.answering.proofs.Laws.{taken_is}
use Rattle.answering.proofs.choices.take_event.Goals as goal

pub returns : goal.returns
returns c =
    taken_is _ c.min-m.ensures c.min-n.ensures c.take_rounded-taken.result _ c.put_answer.ensures c.args.event c.take_rounded-taken.ensures
