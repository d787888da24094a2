-- `refused` meets its contract.
use Rattle.std.proofs.Common.{ap, ◌∙◌, Err}
use Rattle.opening.specs.declared.Opened as opening
use Rattle.rounding.specs.declared.run.Run.{Run}
use Rattle.rounding.specs.Runs.{without_rounding}
use Rattle.rounded_opening.specs.declared.Opened.{Opened}
use Rattle.rounded_opening.specs.RoundedOpenings.{refused_rounded}
use Rattle.rounded_opening.proofs.refused.Goals as goal

pub returns : goal.returns
unfolding refused_rounded
returns c =
    ap {B = Opened} (λ (run : Run). record { answer = Err c.args.why; run = run })
    (c.without_rounding.ensures ∙ ap (λ (o : opening.Opened). without_rounding o.state) c.refused.ensures)
