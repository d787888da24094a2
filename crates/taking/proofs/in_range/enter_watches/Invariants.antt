use Rattle.std.proofs.Common.{◌+◌, ◌-◌}
use Rattle.tables.proofs.code.TakingLaws.{Watching}
use Rattle.taking.proofs.in_range.enter_watches.Given as goal

abbrev pub invariant-loop-token : goal.invariant-loop-token
invariant-loop-token l = Watching l.fn.mem l.at l.count l.to l.mem (l.at + (l.token - l.count)) l.token
