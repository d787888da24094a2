use Rattle.std.proofs.Common.{◌-◌}
use Rattle.tables.proofs.code.Renewing.{Renewing}
use Rattle.releasing.proofs.in_range.renew.Given as goal

abbrev pub invariant-loop-left : goal.invariant-loop-left
invariant-loop-left l = Renewing l.fn.mem l.tokens l.past l.held l.mem l.from l.left

abbrev pub decreases-loop-left : goal.decreases-loop-left
decreases-loop-left l = l.held - l.from
