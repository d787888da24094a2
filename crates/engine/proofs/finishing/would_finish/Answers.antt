-- What a finish would answer, case by case.
use Rattle.engine.proofs.moves.FinishLaws as laws
use Rattle.engine.proofs.finishing.would_finish.Goals as goal
use Rattle.engine.proofs.finishing.would_finish.Goals.{else-slot-eq0-via-then-slot-eq0+else-not-would_release, else-slot-eq0-via-else-slot-eq0}

pub returns-in_default : goal.returns-in_default
returns-in_default c = λ slots at. laws.would_low _ _ slots _ _ at _ c.both_falls.ensures.same c.in_default.is

pub returns-then-not-would_release : goal.returns-then-not-would_release
returns-then-not-would_release c = λ slots at.
    laws.would_broken _ _ slots _ _ at _ c.both_falls.ensures.same c.in-Some.is c.if-slot-eq0.true c.would_release.ensures c.if-not-would_release.true

pub returns : goal.returns
returns c = λ slots at. elim c.else-slot-eq0.branch [
  | else-slot-eq0-via-then-slot-eq0+else-not-would_release w ↦
      laws.would_pass _ _ slots _ _ at _ c.both_falls.ensures.same c.in-Some.is w.if-slot-eq0.true w.would_release.ensures
      w.if-not-would_release.false c.finished.ensures
  | else-slot-eq0-via-else-slot-eq0 w ↦
      laws.would_later _ _ slots _ _ at _ c.both_falls.ensures.same c.in-Some.is w.if-slot-eq0.false c.finished.ensures
]
