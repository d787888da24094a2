-- The invariant: the row is filled before `p`.
use Rattle.ranges.specs.RangeParts.{flag_row}
use Rattle.state.proofs.in_range.Filling.{Filled}
use Rattle.ranges.proofs.flags.flag_row.Given as goal

abbrev pub invariant-loop-p : goal.invariant-loop-p
invariant-loop-p l = Filled (flag_row l.serial) l.row l.p
