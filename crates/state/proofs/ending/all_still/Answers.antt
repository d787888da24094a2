-- No line below n can move exactly if each is found still.
use Rattle.std.proofs.Common.{arith, sym}
use Rattle.state.specs.Ending.{is_still}
use Rattle.rules.proofs.lists.Tests.{tests}
use Rattle.rules.proofs.lists.EveryBelow.{every_none, every_more, every_done, every_fails}
use Rattle.state.proofs.ending.all_still.Goals as goal

pub returns-then-lines-gt-SLOTS : goal.returns-then-lines-gt-SLOTS
unfolding is_still
returns-then-lines-gt-SLOTS c = every_fails _ _ 32 (omega arith) (search tests depth 12)

pub loop-l-init : goal.loop-l-init
loop-l-init c = (omega arith, every_none _)

pub returns-then-not-is_still : goal.returns-then-not-is_still
returns-then-not-is_still c = every_fails _ _ c.loop-l.l (omega arith) (sym c.if-not-is_still.ensures)

pub loop-l-preserved : goal.loop-l-preserved
loop-l-preserved c = (omega arith, every_more _ _ c.loop-l.invariant.1 (sym c.if-not-is_still.ensures))

pub returns : goal.returns
returns c = every_done _ _ c.loop-l.l (omega arith) (omega arith) c.loop-l.invariant.1
