use Rattle.std.proofs.Common.{ap, ◌∙◌}
use Rattle.std.specs.Prelude.{position, nat_eq}
use Rattle.console.proofs.Inputs.{whole_line}
use Rattle.console.proofs.input.Input.line_size.Goals as goal

pub returns-clause-some : goal.returns-clause-some
returns-clause-some c = whole_line _ _ c.requires _ (c.first.ensures ∙ ap (position (λ b. nat_eq b 10)) c.pending.ensures)
