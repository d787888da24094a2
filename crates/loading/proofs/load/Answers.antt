-- `load` meets its contract: an accepted file is that of a valid plan.
use Rattle.std.proofs.Common.{sym, arith}
use Rattle.std.proofs.lemmas.List.{length-take-le}
use Rattle.loading.proofs.loading.PlanRead.{plan_read}
use Rattle.loading.proofs.loading.LoadCases.{keeps, was_read, has_room, loads}
use Rattle.loading.proofs.load.Goals as goal

pub returns-in_err-h-clause-memory : goal.returns-in_err-h-clause-memory
returns-in_err-h-clause-memory c = keeps _ _ _ c.in_err-h.ensures

pub slice_bounds-lay_out-end : goal.slice_bounds-lay_out-end
slice_bounds-lay_out-end c =
    let read = plan_read c.args.file.now (λ i. omega (arith, c.type_inv.file i)) _ (was_read _ _ _ c.in_ok-h.ensures) in
    sym (length-take-le c.from.result c.args.file.now (omega (arith, read)))

pub lay_out-requires-clause-in_bounds : goal.lay_out-requires-clause-in_bounds
lay_out-requires-clause-in_bounds c = has_room _ _ _ c.in_ok-h.ensures

pub lay_out-requires-clause-spells : goal.lay_out-requires-clause-spells
lay_out-requires-clause-spells c =
    let read = plan_read c.args.file.now (λ i. omega (arith, c.type_inv.file i)) _ (was_read _ _ _ c.in_ok-h.ensures) in
    rw c.from.ensures read.spells

pub returns-clause-memory : goal.returns-clause-memory
returns-clause-memory c =
    let read = plan_read c.args.file.now (λ i. omega (arith, c.type_inv.file i)) _ (was_read _ _ _ c.in_ok-h.ensures) in
    loads _ _ _ c.in_ok-h.ensures read (rw c.from.ensures at c.lay_out.ensures)
