use Rattle.tables.proofs.code.ScanLaws.{Passed}
use Rattle.releasing.proofs.watching.next.Given as goal

abbrev pub invariant-loop-cell : goal.invariant-loop-cell
invariant-loop-cell l = Passed l.mem l.number l.from l.held l.cell
