-- Each flag is stored as a number.
use Rattle.std.proofs.Common.{arith}
use Rattle.ranges.specs.RangeParts.{flag_row}
use Rattle.state.proofs.in_range.Filling.{row_first, row_store, row_full}
use Rattle.ranges.proofs.flags.flag_row.Goals as goal

pub loop-p-init : goal.loop-p-init
unfolding flag_row
loop-p-init c = row_first _

pub loop-p-preserved : goal.loop-p-preserved
unfolding flag_row
loop-p-preserved c = row_store _ c.loop-p.invariant (omega arith) c.flag_number.ensures

pub returns : goal.returns
unfolding flag_row
returns c = row_full _ c.loop-p.invariant (omega arith)
