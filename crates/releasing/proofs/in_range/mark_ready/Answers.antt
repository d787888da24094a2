use Rattle.std.proofs.Common.{arith}
use Rattle.tables.proofs.code.Marking as passes
use Rattle.releasing.proofs.in_range.mark_ready.Goals as goal

-- the token in the cell is below 4,096
pub bounds-mem-from : goal.bounds-mem-from
bounds-mem-from c =
    omega (arith, c.from.ensures, passes.mark_below c.loop-cell.invariant c.loop-cell-test.true c.requires.deferred_at_le_from.1.1, c.loop-cell.invariant.long, c.requires.deferred_at_le_from)

pub loop-cell-preserved : goal.loop-cell-preserved
loop-cell-preserved c = passes.mark_next c.loop-cell.invariant c.loop-cell-test.true c.requires.deferred_at_le_from.1.1 c.from.ensures

pub returns : goal.returns
returns c = passes.mark_end c.loop-cell.invariant c.loop-cell-test.false
