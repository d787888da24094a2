-- The code's two tests are those of the definition.
use Rattle.rules.proofs.lists.Tests.{if_eta}
use Rattle.state.specs.Ending.{is_early}
use Rattle.engine.proofs.is_early.Goals as goal

pub returns-then-not-slot : goal.returns-then-not-slot
unfolding is_early
returns-then-not-slot c = rw (c.from.ensures, c.from-then-not-slot.ensures, c.if-not-slot.true, if_eta)

pub returns-else-not-slot : goal.returns-else-not-slot
unfolding is_early
returns-else-not-slot c = rw c.if-not-slot.false
