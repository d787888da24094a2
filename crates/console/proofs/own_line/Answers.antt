use Rattle.std.proofs.Common.{◌≡◌, ◌+◌, ◌-◌, take, drop, refl, sym, ap, arith}
use Rattle.commands.specs.Commands.{command_of}
use Rattle.console.specs.declared.input.Input.{Input}
use Rattle.console.proofs.Turns as laws
use Rattle.console.proofs.own_line.Goals as goal

pub returns-clause-obeys : goal.returns-clause-obeys
returns-clause-obeys c =
    let was = c.args.was in
    let part : was.input.at + c.args.size - was.input.at ≡ c.args.size = omega arith in
    laws.obeyed_as (ap (λ n. command_of (take n (drop was.input.at c.args.buffer.now))) (sym part))
    (ap (λ (i : Input). record { talk = was.talk; size = was.size; input = i; done = was.done }) (sym c.from.ensures)) refl refl
    c.obey.ensures.obeys
