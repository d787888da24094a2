-- `ok` says whether all cells so far fit.
use Rattle.std.proofs.Common.{get_or, ◌≡◌}
use lib.Dec.{leb}
use Rattle.rules.specs.Lists.{every}
use Rattle.rounding.proofs.lending.cells_fit.Given as goal

abbrev pub invariant-loop-cell : goal.invariant-loop-cell
invariant-loop-cell l = l.ok ≡ every l.cell-index (λ j. leb (get_or l.cells j 0) 1000000)
