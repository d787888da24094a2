-- A choice, by what its checks tell.
use Rattle.std.proofs.Common.{sym, ap, ◌∙◌, is_ok}
use Rattle.std.proofs.lemmas.Result.{err_from_is_err_and}
use Rattle.rules.proofs.choices.Offered.{only_same}
use Rattle.engine.proofs.moves.ChooseLaws as laws
use Rattle.engine.proofs.moves.TakeLaws.{refuses, refuses_fits}
use Rattle.engine.proofs.turn_of.Goals as goal

pub would-requires : goal.would-requires
would-requires c = (_, laws.told_next _ _ _ _ _ _ c.move_of.ensures c.in_ok-next.was)

pub start-requires : goal.start-requires
start-requires c =
    (laws.told_start _ _ _ _ _ _ (laws.told_next _ _ _ _ _ _ c.move_of.ensures c.in_ok-next.was) c.in-Start.is).ready

pub finish-requires : goal.finish-requires
finish-requires c =
    (laws.told_finish _ _ _ _ _ _ (laws.told_next _ _ _ _ _ _ c.move_of.ensures c.in_ok-next.was) c.in-Finish.is).ready

pub returns-in_err-next-clause-chooses : goal.returns-in_err-next-clause-chooses
returns-in_err-next-clause-chooses c =
    let (why, is, same) = err_from_is_err_and c.from_residual.result c.from_residual.ensures.1 in
    rw (is, same) (laws.told_refused _ _ _ _ _ _ c.move_of.ensures c.in_err-next.was _ _)

pub returns-in-Err-clause-fits : goal.returns-in-Err-clause-fits
returns-in-Err-clause-fits c = refuses_fits _ c.would.result _ c.and.ensures

pub returns-in-Err-clause-chooses : goal.returns-in-Err-clause-chooses
returns-in-Err-clause-chooses c =
    refuses _ _ _ _ c.in-Err.is c.would.result
    (c.would.ensures _ (laws.told_next _ _ _ _ _ _ c.move_of.ensures c.in_ok-next.was)) c.and.ensures

pub returns-in-Start-clause-chooses : goal.returns-in-Start-clause-chooses
returns-in-Start-clause-chooses c =
    let goes = laws.told_start _ _ _ _ _ _ (laws.told_next _ _ _ _ _ _ c.move_of.ensures c.in_ok-next.was) c.in-Start.is in
    c.start.ensures.follows _ _ goes.at ∙ goes.chosen ∙ sym (only_same _ _ _ _ (ap is_ok c.in_default.is))

pub returns-in-Finish-clause-chooses : goal.returns-in-Finish-clause-chooses
returns-in-Finish-clause-chooses c =
    let goes = laws.told_finish _ _ _ _ _ _ (laws.told_next _ _ _ _ _ _ c.move_of.ensures c.in_ok-next.was) c.in-Finish.is in
    c.finish.ensures.follows _ goes.at ∙ goes.chosen ∙ sym (only_same _ _ _ _ (ap is_ok c.in_default.is))
