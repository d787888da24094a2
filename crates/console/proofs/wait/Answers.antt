use Rattle.console.proofs.Consoles.{left_within}
use Rattle.console.proofs.Turns.{waited_reads}
use Rattle.console.proofs.wait.Goals as goal

pub read_more-requires : goal.read_more-requires
read_more-requires c = left_within _ _ c.requires c.refuse_long-left.ensures.refuses

pub returns-clause-waits : goal.returns-clause-waits
returns-clause-waits c =
    waited_reads _ _ _ c.refuse_long-left.ensures.refuses c.if-was.false c.flush.ensures c.read_more.ensures.reads
