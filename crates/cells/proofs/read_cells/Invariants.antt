-- The cells before `i` are stored, the others are as at the start.
use Rattle.std.proofs.Common.{◌≡◌, ◌++◌, take, drop}
use Rattle.cells.specs.Cells.{cells_in}
use Rattle.cells.proofs.read_cells.Given as goal

abbrev pub invariant-loop-i : goal.invariant-loop-i
invariant-loop-i l = l.cells ≡ take l.i (cells_in l.bytes) ++ drop l.i l.fn.cells
