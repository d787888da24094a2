-- What a start at pipe 0 would answer, by what the tables offer.
use Rattle.std.proofs.lemmas.Result.{err_from_is_err_and}
use Rattle.engine.proofs.moves.StartLaws as laws
use Rattle.engine.proofs.starting.would_start_first.Goals as goal

pub returns-in_err-would_take : goal.returns-in_err-would_take
returns-in_err-would_take c = λ counters slots.
    let (why, is, same) = err_from_is_err_and c.from_residual.result c.from_residual.ensures.1 in
    rw is (laws.would_spoiled _ counters slots _ _ _ c.would_take.ensures c.in_err-would_take.was same)

pub returns-in-None : goal.returns-in-None
returns-in-None c = λ counters slots. laws.would_stop _ counters slots _ _ _ c.would_take.ensures c.in_ok-would_take.was c.in-None.is

pub returns-then-f : goal.returns-then-f
returns-then-f c = λ counters slots.
    laws.would_overfill _ counters slots _ _ _ c.would_take.ensures c.in_ok-would_take.was c.in-Some.is c.if-f.true

pub returns-else-f : goal.returns-else-f
returns-else-f c = λ counters slots.
    laws.would_take _ counters slots _ _ _ c.would_take.ensures c.in_ok-would_take.was c.in-Some.is c.if-f.false
