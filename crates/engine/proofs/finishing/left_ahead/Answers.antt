-- Both may be one counter.
use Rattle.engine.proofs.moves.FinishLaws as laws
use Rattle.engine.proofs.finishing.left_ahead.Goals as goal

pub returns-then-fallen-ahead : goal.returns-then-fallen-ahead
returns-then-fallen-ahead c = laws.left_same _ _ c.if-fallen-ahead.true

pub returns-else-fallen-ahead : goal.returns-else-fallen-ahead
returns-else-fallen-ahead c = laws.left_other _ _ c.if-fallen-ahead.false
