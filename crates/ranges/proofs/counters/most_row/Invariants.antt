-- The invariant: the row is filled before `p`.
use Rattle.std.proofs.Common.{◌≡◌}
use Rattle.rules.specs.Lists.{table}
use Rattle.rules.specs.Ranges.{most_at}
use Rattle.ranges.specs.RangeParts.{pipe_row}
use Rattle.state.proofs.in_range.Filling.{Filled}
use Rattle.ranges.proofs.counters.most_row.Given as goal

abbrev pub invariant-loop-p : goal.invariant-loop-p
invariant-loop-p l =
    (l.known ≡ pipe_row l.pipes) × Filled (table 16 (most_at l.pipes 1 l.serial 0)) l.most l.p
