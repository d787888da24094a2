-- The checks of a choice, one after the other.
use Rattle.std.proofs.Common.{sym, ◌∙◌}
use borrow.Author.Tests.{not-true, not-false}
use Rattle.engine.proofs.moves.ChooseLaws as laws
use Rattle.engine.proofs.move_of.Goals as goal

pub returns-in_default : goal.returns-in_default
returns-in_default c = laws.choose_unsound _ _ _ _ _ _ c.look.ensures c.in_default.is

pub returns-then-f-line : goal.returns-then-f-line
returns-then-f-line c = laws.choose_far _ _ _ _ _ _ c.look.ensures c.in-Some.is c.if-f-line.true

pub returns-then-f-worker : goal.returns-then-f-worker
returns-then-f-worker c = laws.choose_unknown _ _ _ _ _ _ c.look.ensures c.in-Some.is c.if-f-line.false c.if-f-worker.true

pub is_early-requires : goal.is_early-requires
is_early-requires c = laws.ready_seen _ _ _ _ _ _ c.look.ensures c.in-Some.is c.if-f-line.false

pub returns-then-is_over : goal.returns-then-is_over
returns-then-is_over c =
    laws.choose_over _ _ _ _ _ _ c.look.ensures c.in-Some.is c.if-f-line.false c.if-f-worker.false
    (sym c.is_early.ensures ∙ c.if-is_early.true) c.is_over.ensures c.if-is_over.true

pub returns-then-is_early : goal.returns-then-is_early
returns-then-is_early c =
    laws.choose_early _ _ _ _ _ _ c.look.ensures c.in-Some.is c.if-f-line.false c.if-f-worker.false
    (sym c.is_early.ensures ∙ c.if-is_early.true) c.is_over.ensures c.if-is_over.false

pub returns-then-ne : goal.returns-then-ne
returns-then-ne c =
    laws.choose_wrong _ _ _ _ _ _ c.look.ensures c.in-Some.is c.if-f-line.false c.if-f-worker.false
    (sym c.is_early.ensures ∙ c.if-is_early.false) c.if-slot.true (not-true _ (sym c.if-ne.ensures))

pub returns-then-slot : goal.returns-then-slot
returns-then-slot c =
    laws.choose_finish _ _ _ _ _ _ c.look.ensures c.in-Some.is c.if-f-line.false c.if-f-worker.false
    (sym c.is_early.ensures ∙ c.if-is_early.false) c.if-slot.true (not-false _ (sym c.if-ne.ensures))

pub returns-then-seen : goal.returns-then-seen
returns-then-seen c =
    laws.choose_busy _ _ _ _ _ _ c.look.ensures c.in-Some.is c.if-f-line.false c.if-f-worker.false
    (sym c.is_early.ensures ∙ c.if-is_early.false) c.if-slot.false c.if-seen.true

pub returns : goal.returns
returns c =
    laws.choose_start _ _ _ _ _ _ c.look.ensures c.in-Some.is c.if-f-line.false c.if-f-worker.false
    (sym c.is_early.ensures ∙ c.if-is_early.false) c.if-slot.false c.if-seen.false
