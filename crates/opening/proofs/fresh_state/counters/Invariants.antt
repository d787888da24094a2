-- The counters are filled up to the present line, or line and pipe.
use Rattle.std.proofs.Common.{◌≡◌, ◌+◌, ◌*◌, ◌≤◌, ◌<◌, length}
use Rattle.opening.specs.Opened.{opened_counters}
use Rattle.state.proofs.in_range.Filling.{Filled}
use Rattle.opening.proofs.fresh_state.counters.Given as goal

abbrev pub invariant-loop-line : goal.invariant-loop-line
invariant-loop-line l = (l.line ≤ l.lines) × (length l.c ≡ 512) × Filled (opened_counters l.serial l.pipes l.lines) l.c (16 * l.line)

abbrev pub invariant-loop-pipe : goal.invariant-loop-pipe
invariant-loop-pipe l =
    (l.line < l.lines) × (l.pipe ≤ l.pipes) × (length l.c ≡ 512) × Filled (opened_counters l.serial l.pipes l.lines) l.c (16 * l.line + l.pipe)
