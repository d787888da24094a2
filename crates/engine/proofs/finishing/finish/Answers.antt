-- A finish, case by case.
use Rattle.std.proofs.lemmas.Result.{err_from_is_err_and}
use Rattle.engine.proofs.moves.FinishLaws as laws
use Rattle.engine.proofs.finishing.finish.Goals as goal

pub returns-in_default-clause-follows : goal.returns-in_default-clause-follows
returns-in_default-clause-follows c = λ slots at. laws.finish_low _ _ slots _ _ at _ c.both_falls.ensures.same c.in_default.is

pub returns-then-slot-ne0-clause-follows : goal.returns-then-slot-ne0-clause-follows
returns-then-slot-ne0-clause-follows c = λ slots at.
    laws.finish_later _ _ slots _ _ at _ c.both_falls.ensures.same c.in-Some.is c.if-slot-ne0.true c.settle.ensures

pub returns-in_err-tables-clause-follows : goal.returns-in_err-tables-clause-follows
returns-in_err-tables-clause-follows c = λ slots at.
    let (why, is, same) = err_from_is_err_and c.from_residual.result c.from_residual.ensures.1 in
    rw is
    (laws.finish_broken _ _ slots _ _ at _ c.both_falls.ensures.same c.in-Some.is c.if-slot-ne0.false
    c.release.ensures.answer c.release.ensures.memory c.in_err-tables.was same)

pub returns-clause-follows : goal.returns-clause-follows
returns-clause-follows c = λ slots at.
    laws.finish_passed _ _ slots _ _ at _ c.both_falls.ensures.same c.in-Some.is c.if-slot-ne0.false
    c.release.ensures.answer c.release.ensures.memory c.in_ok-tables.was c.settle-2.ensures
