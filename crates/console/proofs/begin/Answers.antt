use Rattle.std.proofs.Common.{ap, ◌∙◌}
use Rattle.opening.specs.declared.Opened.{Opened}
use Rattle.console.proofs.Consoles as laws
use Rattle.console.proofs.begin.Goals as goal

pub returns-clause-begins : goal.returns-clause-begins
returns-clause-begins c =
    let state = ap (λ (o : Opened). o.state) (c.open-none.ensures.answer ∙ laws.none_opened c.args.mem.now) in
    rw (c.without_rounding.ensures, state, c.written.ensures, c.none.ensures)

pub returns-clause-memory : goal.returns-clause-memory
returns-clause-memory c = c.open-none.ensures.memory ∙ laws.none_written c.args.mem.now
