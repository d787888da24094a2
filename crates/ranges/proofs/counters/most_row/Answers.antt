-- Each pipe's most is stored.
use Rattle.std.proofs.Common.{◌∙◌, ◌<◌, arith}
use Rattle.state.proofs.in_range.Filling.{row_first, row_store, row_full}
use Rattle.ranges.proofs.in_range.CounterLaws.{most_is}
use Rattle.ranges.proofs.counters.most_row.Goals as goal

pub loop-p-init : goal.loop-p-init
loop-p-init c = (c.pipe_row-known.ensures, row_first _)

pub loop-p-preserved : goal.loop-p-preserved
loop-p-preserved c =
    let less : c.loop-p.p < 16 = omega arith in (
      c.loop-p.invariant.0,
      row_store _ c.loop-p.invariant.1 less
          (c.min.ensures ∙ rw (c.pipe_row-known.ensures, c.full.ensures, c.from_flag.ensures) (most_is c.args.pipes c.args.serial.now c.loop-p.p less)),
    )

pub returns : goal.returns
returns c = row_full _ c.loop-p.invariant.1 (omega arith)
