-- The answer is the one marked stopped.
use Rattle.rules.proofs.lists.Tests.{tests}
use Rattle.state.specs.Ending.{over_of}
use Rattle.state.proofs.ending.is_over.Goals as goal

pub returns-then-stopped : goal.returns-then-stopped
unfolding over_of
returns-then-stopped c = search tests depth 8

pub returns-else-stopped : goal.returns-else-stopped
unfolding over_of
returns-else-stopped c = search tests depth 8
