-- A number that is no base; what is lent does not fit, or does.
use Rattle.std.proofs.Common.{refl, sym}
use Rattle.std.proofs.lemmas.Result.{err_from_is_err_and}
use Rattle.rules.specs.Rounding.{lent_fits}
use Rattle.rounding.proofs.laws.Openings as laws
use Rattle.rounding.proofs.opening.open.Goals as goal

pub returns-in_err-try_from-clause-answer : goal.returns-in_err-try_from-clause-answer
returns-in_err-try_from-clause-answer c =
    let p = err_from_is_err_and c.from_residual.result c.from_residual.ensures.1 in
    rw (p.1, p.2) (laws.no_base _ _ _ _ _ _ _ c.if-pipes-gt-MOST_PIPES.false (sym c.if-not-is_rounding_pipe.ensures) c.in_err-try_from.ensures).0

pub returns-then-not-lent_fits-clause-answer : goal.returns-then-not-lent_fits-clause-answer
unfolding lent_fits
returns-then-not-lent_fits-clause-answer c =
    (laws.unfit _ _ _ _ _ _ _ c.if-pipes-gt-MOST_PIPES.false (sym c.if-not-is_rounding_pipe.ensures) c.in_ok-try_from.ensures
    (sym (rw c.from.ensures at c.if-not-lent_fits.ensures))).0

pub returns-clause-answer : goal.returns-clause-answer
unfolding lent_fits
returns-clause-answer c =
    (laws.opens _ _ _ _ _ _ c.args.figures.now c.if-pipes-gt-MOST_PIPES.false (sym c.if-not-is_rounding_pipe.ensures) c.in_ok-try_from.ensures
    (sym (rw c.from.ensures at c.if-not-lent_fits.ensures)) _ refl).0
