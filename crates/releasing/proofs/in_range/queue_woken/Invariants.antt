use Rattle.tables.proofs.code.Queueing.{Queueing}
use Rattle.releasing.proofs.in_range.queue_woken.Given as goal

abbrev pub invariant-loop-at : goal.invariant-loop-at
invariant-loop-at l = Queueing l.fn.mem l.past l.held l.from l.to l.mem l.cell l.at
