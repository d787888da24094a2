-- `ok` says whether all cells so far fit.
use Rattle.std.proofs.Common.{refl, sym, ◌∙◌, arith, leb, get_or}
use Rattle.rules.specs.Rounding.{cells_fit}
use Rattle.rules.proofs.lists.Tests.{and_if}
use Rattle.rules.proofs.lists.EveryBelow.{every_none, every_next, every_all}
use Rattle.rounding.proofs.lending.cells_fit.Goals as goal

pub loop-cell-init : goal.loop-cell-init
loop-cell-init c = sym (every_none _)

pub loop-cell-preserved : goal.loop-cell-preserved
loop-cell-preserved c =
    and_if (leb (get_or c.args.cells.now c.loop-cell.cell-index 0) 1000000) c.loop-cell.ok ∙
    every_next _ c.loop-cell.cell-index c.loop-cell.invariant refl

pub returns : goal.returns
unfolding cells_fit
returns c = every_all _ _ c.loop-cell.cell-index (omega arith) (omega arith) c.loop-cell.invariant
