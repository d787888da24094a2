-- `begin` meets its contract: the file is that of a valid plan.
use Rattle.std.proofs.Common.{arith, length-take}
use native.Mathlib.Nat.{add-sub_cancel_left}
use Rattle.loading.proofs.loading.PlanRead.{plan_read}
use Rattle.opening.proofs.OpenCases.{begins}
use Rattle.opening.proofs.begin.Goals as goal

pub slice_bounds-serials-end : goal.slice_bounds-serials-end
slice_bounds-serials-end c =
    let read = plan_read c.args.file.now (λ i. omega (arith, c.type_inv.file i)) _ c.requires in
    omega (arith, read)

pub serials-serial-requires : goal.serials-serial-requires
serials-serial-requires c =
    let read = plan_read c.args.file.now (λ i. omega (arith, c.type_inv.file i)) _ c.requires in
    rw (add-sub_cancel_left, length-take) (omega (arith, read))

pub counters-all-requires : goal.counters-all-requires
counters-all-requires c =
    let read = plan_read c.args.file.now (λ i. omega (arith, c.type_inv.file i)) _ c.requires in
    (omega (arith, read), omega (arith, read))

pub returns : goal.returns
returns c =
    let read = plan_read c.args.file.now (λ i. omega (arith, c.type_inv.file i)) _ c.requires in
    begins _ _ read (rw (add-sub_cancel_left, c.from-start.ensures, c.from-pipes.ensures) at c.serials-serial.ensures)
    (rw (c.from-pipes.ensures, c.from.ensures) at c.counters-all.ensures) c.fresh.ensures
