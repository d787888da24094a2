-- A start at pipe 0, by what the tables give.
use Rattle.std.proofs.Common.{arith}
use Rattle.std.proofs.lemmas.Result.{err_from_is_err_and}
use Rattle.engine.proofs.moves.StartLaws as laws
use Rattle.engine.proofs.starting.start_first.Goals as goal

pub returns-then-overfull-clause-starts : goal.returns-then-overfull-clause-starts
returns-then-overfull-clause-starts c = λ counters slots at.
    laws.first_overfull _ counters slots _ _ _ at _ c.overfull.ensures c.if-overfull.true

pub returns-in_err-token-clause-starts : goal.returns-in_err-token-clause-starts
returns-in_err-token-clause-starts c = λ counters slots at.
    let (why, is, same) = err_from_is_err_and c.from_residual.result c.from_residual.ensures.1 in
    rw is (laws.first_spoiled _ counters slots _ _ _ at _ c.take.ensures.answer c.take.ensures.memory c.in_err-token.was same)

pub start_with-requires : goal.start_with-requires
start_with-requires c = (
  omega (arith, c.requires),
  laws.took_room _ _ c.overfull.ensures c.if-overfull.false c.take.ensures.answer c.in_ok-token.was c.in-Some.is,
)

pub returns-in-Some-clause-starts : goal.returns-in-Some-clause-starts
returns-in-Some-clause-starts c = λ counters slots at.
    laws.first_took _ counters slots _ _ _ at _ c.take.ensures.answer c.take.ensures.memory c.in_ok-token.was c.in-Some.is
    (laws.took_room _ _ c.overfull.ensures c.if-overfull.false c.take.ensures.answer c.in_ok-token.was c.in-Some.is) c.start_with.ensures

pub returns-in-None-clause-starts : goal.returns-in-None-clause-starts
returns-in-None-clause-starts c = λ counters slots at.
    laws.first_nothing _ counters slots _ _ _ at _ c.take.ensures.answer c.take.ensures.memory c.in_ok-token.was c.in-None.is c.stop_line.ensures
