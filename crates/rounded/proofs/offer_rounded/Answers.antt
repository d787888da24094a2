-- What an offer answers that is refused before anything is asked, by the choice itself, or by rounding.
use Rattle.std.proofs.Common.{refl, ap, Ok, Err}
use Rattle.std.proofs.lemmas.Result.{err_from_is_err_and}
use Rattle.rules.specs.Answers.{answer_of}
use Rattle.rules.specs.Rounding.{RoundedChosen}
use Rattle.tables.specs.State as tables
use Rattle.rounded.specs.Runs.{chosen_of}
use Rattle.rounded.proofs.LeaveLaws.{own_told, event_told}
use Rattle.rounded.proofs.Calls as calls
use Rattle.rounded.proofs.offer_rounded.Goals as goal

pub returns-then-not-in_range : goal.returns-then-not-in_range
unfolding chosen_of
returns-then-not-in_range c =
    ap (λ (x : RoundedChosen tables.State). x.answer)
    (calls.spoiled_choice c.args.run c.args.mem.now c.args.cells.now c.args.figures.now c.args.worker.0 c.args.line.0 c.in_range.ensures c.if-not-in_range.true)

pub returns-in_err-event : goal.returns-in_err-event
unfolding answer_of
returns-in_err-event c =
    let p = err_from_is_err_and c.from_residual.result c.from_residual.ensures.1 in
    rw (p.1, p.2) (calls.offered c.args.run c.args.mem.now c.args.cells.now c.args.figures.now c.args.worker.0 c.args.line.0 c.in_range.ensures c.if-not-in_range.false
    refl (Err c.in_err-event.field-0.0) (Err c.in_err-event.field-0.0) c.in_err-event.ensures (own_told _ _))

pub returns-in_err-leave_for : goal.returns-in_err-leave_for
unfolding answer_of
returns-in_err-leave_for c =
    let why = c.in_err-leave_for.field-0.0 in
    let p = err_from_is_err_and c.from_residual-in_err-leave_for.result c.from_residual-in_err-leave_for.ensures.1 in
    rw (p.1, p.2) (calls.offered c.args.run c.args.mem.now c.args.cells.now c.args.figures.now c.args.worker.0 c.args.line.0 c.in_range.ensures c.if-not-in_range.false
    c.in_err-leave_for.ensures (Ok c.in_ok-event.event) (Err why) c.in_ok-event.ensures (event_told why c.in_ok-event.event))
