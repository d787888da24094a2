use Rattle.std.proofs.Common.{arith}
use Rattle.console.proofs.Consoles as laws
use Rattle.console.proofs.refuse_long.Goals as goal

pub returns-then-was-le-MOST_OF_LINE-clause-refuses : goal.returns-then-was-le-MOST_OF_LINE-clause-refuses
returns-then-was-le-MOST_OF_LINE-clause-refuses c = laws.refuses_not _ _ (omega arith)

pub returns-clause-refuses : goal.returns-clause-refuses
returns-clause-refuses c = laws.refuses _ _ (omega arith) c.put.ensures c.too_long.ensures
