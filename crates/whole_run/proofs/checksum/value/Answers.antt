use Rattle.std.proofs.Common.{arith}
use Rattle.whole_run.proofs.Summing.{value_refused}
use Rattle.whole_run.proofs.checksum.value.Goals as goal

pub returns-in-Err-clause-same : goal.returns-in-Err-clause-same
returns-in-Err-clause-same c = omega (arith, value_refused c.in-Err.is c.number.ensures c.from.ensures)
