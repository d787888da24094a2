-- `check_parts` meets its contract.
use Rattle.std.proofs.lemmas.Result.{err_from_is_err_and}
use native.Mathlib.Nat.{add-sub_cancel_left}
use Rattle.plan.specs.Reading.{parts_check}
use Rattle.plan.proofs.check_parts.Goals as goal

pub returns-in_err-check_pipes : goal.returns-in_err-check_pipes
unfolding parts_check
returns-in_err-check_pipes c =
    let (why, is, same) = err_from_is_err_and c.from_residual.result c.from_residual.ensures.1 in
    let pipes = rw (c.from-start.ensures, c.from.ensures, add-sub_cancel_left) at c.in_err-check_pipes.ensures in
    rw (is, same, ← pipes)

pub returns : goal.returns
unfolding parts_check
returns c =
    let pipes = rw (c.from-start.ensures, c.from.ensures, add-sub_cancel_left) at c.in_ok-check_pipes.ensures in
    rw (c.check_records.ensures, c.from-start.ensures, ← pipes)
