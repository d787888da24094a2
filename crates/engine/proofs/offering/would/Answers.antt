-- What a start or a finish would answer is what its choice would.
use Rattle.std.proofs.Common.{ap, ◌∙◌}
use Rattle.engine.proofs.moves.ChooseLaws as laws
use Rattle.engine.proofs.offering.would.Goals as goal

pub would_finish-requires : goal.would_finish-requires
would_finish-requires c =
    let (slots, told) = c.requires in
    (laws.told_finish _ _ _ _ _ _ told c.in-Finish.is).ready

pub returns-in-Start : goal.returns-in-Start
returns-in-Start c = λ slots told.
    let goes = laws.told_start _ _ _ _ _ _ told c.in-Start.is in
    c.would_start.ensures _ _ goes.at ∙ ap (λ x. x.answer) goes.chosen

pub returns-in-Finish : goal.returns-in-Finish
returns-in-Finish c = λ slots told.
    let goes = laws.told_finish _ _ _ _ _ _ told c.in-Finish.is in
    c.would_finish.ensures _ goes.at ∙ ap (λ x. x.answer) goes.chosen
