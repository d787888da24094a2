use Rattle.serving.proofs.Walk.{a_line}
use Rattle.serving.proofs.first_line.Goals as goal

pub returns : goal.returns
returns c = a_line _ c.in_ok-end.ensures
