-- A refused opening is the whole run.
use Rattle.rounded_run.proofs.Making.{refused_run}
use Rattle.rounded_run.proofs.pipeline_run_rounded.Goals as goal

pub returns-in-Err-clause-answer : goal.returns-in-Err-clause-answer
returns-in-Err-clause-answer c =
    (refused_run _ _ _ c.opened-start.ensures.answer c.opened-start.ensures.memory c.opened-start.ensures.left c.in-Err.is c.number.ensures c.from.ensures).0

pub returns-in-Err-clause-memory : goal.returns-in-Err-clause-memory
returns-in-Err-clause-memory c =
    (refused_run _ _ _ c.opened-start.ensures.answer c.opened-start.ensures.memory c.opened-start.ensures.left c.in-Err.is c.number.ensures c.from.ensures).1.0

pub returns-in-Err-clause-left : goal.returns-in-Err-clause-left
returns-in-Err-clause-left c =
    (refused_run _ _ _ c.opened-start.ensures.answer c.opened-start.ensures.memory c.opened-start.ensures.left c.in-Err.is c.number.ensures c.from.ensures).1.1
