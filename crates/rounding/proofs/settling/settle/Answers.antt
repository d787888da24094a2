-- No known base; T past its limit; and the cell added.
use Rattle.std.proofs.Common.{sym}
use Rattle.rounding.proofs.laws.Settlings as laws
use Rattle.rounding.proofs.settling.settle.Goals as goal

pub returns-in_err-base : goal.returns-in_err-base
returns-in_err-base c = rw c.from_residual.ensures
    (laws.numbered _ _ _ _ (sym c.if-not-is_known.ensures) _ c.in-Some.ensures (rw c.try_from.ensures at c.in_err-base.ensures.value))

pub returns-in_err-passed : goal.returns-in_err-passed
returns-in_err-passed c = rw c.from_residual-in_err-passed.ensures
    (laws.too_much _ _ _ _ (sym c.if-not-is_known.ensures) _ c.in-Some.ensures _ (rw c.try_from.ensures at c.in_ok-base.ensures.value)
    c.cell_of.ensures c.pass.ensures c.in_err-passed.was)

pub returns : goal.returns
returns c =
    laws.passes _ _ _ _ (sym c.if-not-is_known.ensures) _ c.in-Some.ensures _ (rw c.try_from.ensures at c.in_ok-base.ensures.value)
    c.cell_of.ensures c.pass.ensures _ c.in_ok-passed.was _ c.put.ensures
