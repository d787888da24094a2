use Rattle.console.proofs.Inputs.{passed_some}
use Rattle.console.proofs.input.Input.past_line.Goals as goal

pub returns-clause-passes : goal.returns-clause-passes
returns-clause-passes c = passed_some _ _ c.requires c.in-Some.ensures.some
