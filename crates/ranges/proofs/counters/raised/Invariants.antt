-- The invariant: the new row is filled before `p`.
use Rattle.ranges.specs.RangeParts.{raised_row}
use Rattle.state.proofs.in_range.Filling.{Filled}
use Rattle.ranges.proofs.counters.raised.Given as goal

abbrev pub invariant-loop-p : goal.invariant-loop-p
invariant-loop-p l = Filled (raised_row l.counters l.row l.l) l.next l.p
