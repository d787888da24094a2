use Rattle.std.proofs.Common.{arith}
use Rattle.serving.proofs.Moving.{moved_all}
use Rattle.serving.proofs.keep_rest.Goals as goal

pub returns-clause-moves : goal.returns-clause-moves
returns-clause-moves c = moved_all _ _ _ (omega arith) (omega arith) c.copy_within.ensures.after
