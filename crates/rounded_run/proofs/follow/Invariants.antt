-- The run goes on as that at the start does.
use Rattle.std.proofs.Common.{◌≡◌}
use Rattle.std.specs.Slice.Iter.{chunks_exact_rest, chunks_exact_size}
use Rattle.rounded_run.proofs.Making.{GoesOn}
use Rattle.rounded_run.proofs.follow.Given as goal

abbrev pub invariant-loop-choice : goal.invariant-loop-choice
invariant-loop-choice l =
    (chunks_exact_size l.choice-iterator ≡ 2) ×
    GoesOn l.fn.choices l.cells l.fn.run l.fn.mem l.fn.figures 0 (chunks_exact_rest l.choice-iterator) l.chosen.run l.mem l.figures l.sum
