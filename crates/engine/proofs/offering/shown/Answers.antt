-- A line that runs, and one that waits.
use Rattle.engine.proofs.moves.TakeLaws as laws
use Rattle.engine.proofs.offering.shown.Goals as goal

pub returns-then-slot : goal.returns-then-slot
returns-then-slot c = λ counters slots slot_is.
    laws.shown_finish _ counters slots c.args.choice.worker c.args.choice.line _ slot_is c.if-slot.true c.finished.ensures

pub returns : goal.returns
returns c = λ counters slots slot_is.
    laws.shown_start _ counters slots c.args.choice.worker c.args.choice.line _ slot_is c.would_start.result c.if-slot.false
    (c.would_start.ensures counters slots slot_is)
