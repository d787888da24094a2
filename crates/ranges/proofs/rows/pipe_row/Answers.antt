-- The row is a window on the fixed one.
use Rattle.std.proofs.Common.{◌∙◌, arith}
use Rattle.ranges.proofs.in_range.FlagLaws.{window_is}
use Rattle.ranges.proofs.rows.pipe_row.Goals as goal

pub returns : goal.returns
returns c = c.copy_from_slice.ensures.after ∙ window_is c.args.pipes _ c.requires (omega arith)
