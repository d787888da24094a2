-- The invariant: the row has the highest counters of the lines before `l`.
use Rattle.std.proofs.Common.{◌≡◌}
use Rattle.ranges.specs.RangeParts.{highest_row}
use Rattle.ranges.proofs.counters.highest_row.Given as goal

abbrev pub invariant-loop-l : goal.invariant-loop-l
invariant-loop-l l = (l.row ≡ highest_row l.counters l.from l.l)
