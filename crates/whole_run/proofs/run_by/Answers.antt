-- A refused opening is the whole run.
use Rattle.whole_run.proofs.Summing.{refused_run}
use Rattle.whole_run.proofs.run_by.Goals as goal

pub returns-in-Err-clause-answer : goal.returns-in-Err-clause-answer
returns-in-Err-clause-answer g c =
    (refused_run _ _ _ _ c.open-opened.ensures.answer c.open-opened.ensures.memory c.in-Err.is c.number.ensures c.from.ensures).0

pub returns-in-Err-clause-memory : goal.returns-in-Err-clause-memory
returns-in-Err-clause-memory g c =
    (refused_run _ _ _ _ c.open-opened.ensures.answer c.open-opened.ensures.memory c.in-Err.is c.number.ensures c.from.ensures).1
