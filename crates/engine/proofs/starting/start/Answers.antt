-- At pipe 0, and later.
use Rattle.engine.proofs.moves.StartLaws as laws
use Rattle.engine.proofs.starting.start.Goals as goal

pub returns-then-slot-eq0-clause-follows : goal.returns-then-slot-eq0-clause-follows
returns-then-slot-eq0-clause-follows c = λ counters slots at.
    laws.start_first_lem _ counters slots _ _ _ at _ c.if-slot-eq0.true (c.start_first.ensures.starts counters slots at)

pub returns-clause-follows : goal.returns-clause-follows
returns-clause-follows c = λ counters slots at.
    laws.start_later_lem _ counters slots _ _ _ at _ c.if-slot-eq0.false c.start_at.ensures
