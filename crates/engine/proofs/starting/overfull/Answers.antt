-- What the tables offer, where no place is left.
use Rattle.std.proofs.Common.{◌∙◌}
use Rattle.engine.proofs.moves.StartLaws as laws
use Rattle.engine.proofs.starting.overfull.Goals as goal

pub returns-then-f : goal.returns-then-f
returns-then-f c = laws.overfull_no _ _ c.if-f.true

pub returns-in-Ok : goal.returns-in-Ok
returns-in-Ok c = c.is_some.ensures ∙ laws.overfull_by _ _ c.if-f.false c.would_take.ensures c.in-Ok.is

pub returns-in-Err : goal.returns-in-Err
returns-in-Err c = laws.overfull_by _ _ c.if-f.false c.would_take.ensures c.in-Err.is
