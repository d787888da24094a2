-- The sum and the machine go on as those at the start do.
use Rattle.whole_run.proofs.Summing.{GoesOn}
use Rattle.std.specs.Slice.Iter.{chunks_exact_rest, chunks_exact_size}
use Rattle.std.proofs.Common.{◌≡◌}
use Rattle.whole_run.proofs.following.follow.Given as goal

abbrev pub invariant-loop-choice : goal.invariant-loop-choice
invariant-loop-choice g l =
    (chunks_exact_size l.choice-iterator ≡ 2) × GoesOn l.fn.choices l.fn.mem l.fn.state 0 (chunks_exact_rest l.choice-iterator) l.mem l.chosen.state l.sum
