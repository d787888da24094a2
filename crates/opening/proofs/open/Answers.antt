-- `open` meets its contract.
use Rattle.opening.proofs.OpenCases.{loaded_plan}
use Rattle.opening.proofs.open.Goals as goal

pub begin_loaded-requires : goal.begin_loaded-requires
begin_loaded-requires c = loaded_plan _ _ c.args.mem.now _ c.load-loaded.ensures.answer

pub returns-clause-answer : goal.returns-clause-answer
returns-clause-answer c = c.begin_loaded.ensures _ c.load-loaded.ensures.answer
