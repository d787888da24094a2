-- The invariant: line l's counters begin at row, and no line below l can move.
use Rattle.std.proofs.Common.{◌≡◌, ◌*◌, true}
use Rattle.rules.specs.Lists.{every}
use Rattle.state.specs.Ending.{is_still}
use Rattle.state.proofs.ending.all_still.Given as goal

abbrev pub invariant-loop-l : goal.invariant-loop-l
invariant-loop-l l = (l.row ≡ 16 * l.l) × (every l.l (is_still l.counters l.slots) ≡ true)
