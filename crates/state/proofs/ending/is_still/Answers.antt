-- The code's tests, one after the other.
use Rattle.std.proofs.Common.{sym, ◌∙◌}
use borrow.Author.Tests.{le-ltb}
use Rattle.rules.specs.RunState.{slot_at}
use Rattle.state.specs.Ending.{is_early, is_still}
use Rattle.rules.proofs.lists.Tests.{tests, if_eta, never}
use Rattle.state.proofs.ending.is_still.Goals as goal
use Rattle.state.proofs.ending.is_still.Goals.{then-pipe-lt-COUNTERS_OF_LINE, else-pipe-lt-COUNTERS_OF_LINE}

pub returns-then-not-slots-l : goal.returns-then-not-slots-l
unfolding is_still is_early slot_at
returns-then-not-slots-l c = elim c.if-pipe-lt-COUNTERS_OF_LINE.branch [
  | then-pipe-lt-COUNTERS_OF_LINE w ↦
      let pipe = rw c.from-pipe.ensures at w.if-pipe-lt-COUNTERS_OF_LINE.true in
      let waits = sym w.value-is ∙ c.if-not-slots-l.true in
      rw (c.from-pipe.ensures, c.requires.1) (search (tests, if_eta, pipe, waits) depth 12)
  | else-pipe-lt-COUNTERS_OF_LINE w ↦ absurd (never (sym c.if-not-slots-l.true ∙ w.value-is ∙ le-ltb _ _ w.if-pipe-lt-COUNTERS_OF_LINE.false))
]

pub returns-else-not-slots-l : goal.returns-else-not-slots-l
unfolding is_still is_early slot_at
returns-else-not-slots-l c = elim c.if-pipe-lt-COUNTERS_OF_LINE.branch [
  | then-pipe-lt-COUNTERS_OF_LINE w ↦
      let pipe = rw c.from-pipe.ensures at w.if-pipe-lt-COUNTERS_OF_LINE.true in
      let waits = sym w.value-is ∙ c.if-not-slots-l.false in
      rw c.if-not-slots-l.false (search (tests, pipe, waits) depth 12)
  | else-pipe-lt-COUNTERS_OF_LINE w ↦
      let pipe = rw c.from-pipe.ensures at w.if-pipe-lt-COUNTERS_OF_LINE.false in
      rw c.if-not-slots-l.false (search (tests, pipe) depth 12)
]
