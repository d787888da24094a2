-- A choice that is agreed.
use Rattle.std.proofs.Common.{refl, ◌∙◌}
use Rattle.rules.proofs.choices.Offered.{only_same}
use Rattle.whole_run.proofs.ByChoiceWay.choose.Goals as goal

pub returns : goal.returns
returns c = c.choose_if.ensures ∙ only_same _ _ _ _ refl
