-- Each pipe's higher counter is stored.
use Rattle.std.proofs.Common.{arith}
use Rattle.ranges.specs.RangeParts.{raised_row}
use Rattle.state.proofs.in_range.Filling.{row_first, row_store, row_full}
use Rattle.ranges.proofs.counters.raised.Goals as goal

pub loop-p-init : goal.loop-p-init
unfolding raised_row
loop-p-init c = row_first _

pub loop-p-preserved : goal.loop-p-preserved
unfolding raised_row
loop-p-preserved c = row_store _ c.loop-p.invariant (omega arith) c.max.ensures

pub returns : goal.returns
unfolding raised_row
returns c = row_full _ c.loop-p.invariant (omega arith)
