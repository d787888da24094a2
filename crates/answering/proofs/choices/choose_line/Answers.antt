use Rattle.answering.proofs.Laws.{chosen_is}
use Rattle.answering.proofs.choices.choose_line.Goals as goal

pub returns : goal.returns
returns c =
    chosen_is _ c.min-m.ensures c.min-n.ensures c.choose_rounded-chosen.result _ c.put_answer.ensures c.args.choice c.choose_rounded-chosen.ensures
