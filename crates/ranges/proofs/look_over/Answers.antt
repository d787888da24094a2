-- What is told, by the first test that fails.
use Rattle.std.proofs.Common.{arith}
use borrow.Author.Tests.{not-true, not-false}
use Rattle.ranges.proofs.in_range.RangeLaws as laws
use Rattle.ranges.proofs.look_over.Goals as goal
use Rattle.ranges.proofs.look_over.Goals.{then-not-rest-via-then-not-rest, then-not-rest-via-else-not-rest+then-f-lt1}

-- where the rest is sound there is a pipe
pub returns-then-not-rest : goal.returns-then-not-rest
returns-then-not-rest c = λ counters mem rest_is. elim c.then-not-rest.branch [
  | then-not-rest-via-then-not-rest w ↦ laws.rest_fails _ counters _ mem _ _ rest_is w.if-not-rest.true
  | then-not-rest-via-else-not-rest+then-f-lt1 w ↦
      absurd (omega (arith, w.if-f-lt1.true, laws.pipes_some _ (laws.figures_ok _ counters mem rest_is w.if-not-rest.false)))
]

pub returns-then-not-found : goal.returns-then-not-found
returns-then-not-found c = λ counters mem rest_is.
    laws.slots_fail _ counters _ mem _ _ rest_is c.if-not-rest.false c.walk-found.ensures (not-true _ c.if-not-found.true)

pub returns : goal.returns
returns c = λ counters mem rest_is.
    rw c.slot_at.ensures (laws.told _ counters _ mem _ _ rest_is c.if-not-rest.false c.walk-found.ensures (not-false _ c.if-not-found.false) c.near.ensures.same)
