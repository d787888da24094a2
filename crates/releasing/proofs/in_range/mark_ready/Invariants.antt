use Rattle.tables.proofs.code.Marking.{Marking}
use Rattle.releasing.proofs.in_range.mark_ready.Given as goal

abbrev pub invariant-loop-cell : goal.invariant-loop-cell
invariant-loop-cell l = Marking l.fn.mem l.from l.to l.mem l.cell
