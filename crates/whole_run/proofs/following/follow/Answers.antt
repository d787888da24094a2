-- A chunk is a choice, and goes on by a turn; after the last, what goes on is told.
use Rattle.std.proofs.Common.{◌∙◌, arith}
use Rattle.whole_run.proofs.Summing.{again, at_end}
use Rattle.whole_run.proofs.following.follow.Goals as goal

pub bounds-choice-1 : goal.bounds-choice-1
bounds-choice-1 g c = omega (arith, c.in-Some.ensures.steps.1.1)

pub loop-choice-preserved : goal.loop-choice-preserved
loop-choice-preserved g c =
    let inv = c.loop-choice.invariant in
    let next = c.in-Some.ensures.steps in (
      next.0 ∙ inv.0,
      again inv.1 _ _ next.1.0 (next.1.1 ∙ inv.0) c.from.ensures c.from-in-loop-choice.ensures _ _ c.choose.ensures c.add-sum.ensures,
    )

pub returns-clause-answer : goal.returns-clause-answer
returns-clause-answer g c = (at_end c.loop-choice.invariant.1 (omega (arith, c.in-None.ensures.steps.1.0))).0

pub returns-clause-memory : goal.returns-clause-memory
returns-clause-memory g c = (at_end c.loop-choice.invariant.1 (omega (arith, c.in-None.ensures.steps.1.0))).1
