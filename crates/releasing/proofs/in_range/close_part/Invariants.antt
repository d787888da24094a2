use Rattle.std.proofs.Common.{◌-◌}
use Rattle.tables.proofs.code.Closing.{Closing}
use Rattle.releasing.proofs.in_range.close_part.Given as goal

abbrev pub invariant-loop : goal.invariant-loop
invariant-loop l = Closing l.fn.mem l.part l.past l.held l.mem l.at l.cell (l.n - l.counter)
