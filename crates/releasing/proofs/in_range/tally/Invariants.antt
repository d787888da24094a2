use Rattle.std.proofs.Common.{◌-◌}
use Rattle.tables.proofs.code.Tallying.{Tallying}
use Rattle.releasing.proofs.in_range.tally.Given as goal

abbrev pub invariant-loop-cell : goal.invariant-loop-cell
invariant-loop-cell l = Tallying l.mem l.tokens l.past l.held l.tally.free l.tally.held l.from

abbrev pub decreases-loop-cell : goal.decreases-loop-cell
decreases-loop-cell l = l.held - l.from
