-- What a choice would answer, by what its checks tell.
use Rattle.std.proofs.lemmas.Result.{err_from_is_err_and}
use Rattle.engine.proofs.moves.ChooseLaws as laws
use Rattle.engine.proofs.offering.answer_of.Goals as goal

pub would-requires : goal.would-requires
would-requires c = (_, laws.told_next _ _ _ _ _ _ c.move_of.ensures c.in_ok-next.was)

pub returns-in_err-next : goal.returns-in_err-next
returns-in_err-next c =
    let (why, is, same) = err_from_is_err_and c.from_residual.result c.from_residual.ensures.1 in
    rw (is, same) (laws.told_refusal _ _ _ _ _ _ c.move_of.ensures c.in_err-next.was)

pub returns : goal.returns
returns c = c.would.ensures _ (laws.told_next _ _ _ _ _ _ c.move_of.ensures c.in_ok-next.was)
