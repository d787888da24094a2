-- The falls, one after the other.
use Rattle.std.proofs.Common.{◌∙◌}
use Rattle.engine.proofs.moves.FinishLaws as laws
use Rattle.engine.proofs.finishing.fall.Goals as goal

pub returns-in_err-second : goal.returns-in_err-second
returns-in_err-second c =
    c.from_residual.ensures ∙ laws.falls_ahead _ _ c.if-not-serial.true c.lowered.ensures c.in_err-second.was

pub returns-then-not-serial : goal.returns-then-not-serial
returns-then-not-serial c = laws.falls_ahead _ _ c.if-not-serial.true c.lowered.ensures c.in_ok-second.was

pub returns-in_err-first : goal.returns-in_err-first
returns-in_err-first c =
    c.from_residual-in_err-first.ensures ∙ laws.falls_low _ _ c.if-not-serial.false c.lowered-2.ensures c.in_err-first.was

pub returns-in_err-second-2 : goal.returns-in_err-second-2
returns-in_err-second-2 c =
    c.from_residual-in_err-second-2.ensures ∙
    laws.falls_both _ _ c.if-not-serial.false c.lowered-2.ensures c.in_ok-first.was c.left_ahead.ensures c.lowered-3.ensures c.in_err-second-2.was

pub returns : goal.returns
returns c =
    laws.falls_both _ _ c.if-not-serial.false c.lowered-2.ensures c.in_ok-first.was c.left_ahead.ensures c.lowered-3.ensures c.in_ok-second-2.was
