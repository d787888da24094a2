-- `preview` meets its contract.
use Rattle.opening.proofs.OpenCases.{loaded_plan}
use Rattle.opening.proofs.preview.Goals as goal

pub begin_loaded-requires : goal.begin_loaded-requires
begin_loaded-requires c = loaded_plan _ _ c.args.mem.now _ c.preview-loaded.ensures

pub returns : goal.returns
returns c = c.begin_loaded.ensures _ c.preview-loaded.ensures
