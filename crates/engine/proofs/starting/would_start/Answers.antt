-- At pipe 0, and later.
use Rattle.engine.proofs.moves.StartLaws as laws
use Rattle.engine.proofs.starting.would_start.Goals as goal

pub returns-then-slot-eq0 : goal.returns-then-slot-eq0
returns-then-slot-eq0 c = λ counters slots at.
    laws.would_first _ counters slots _ _ _ _ at _ c.if-slot-eq0.true (c.would_start_first.ensures counters slots)

pub returns : goal.returns
returns c = λ counters slots at. laws.would_later _ counters slots _ _ _ _ at c.if-slot-eq0.false c.step_of.ensures
