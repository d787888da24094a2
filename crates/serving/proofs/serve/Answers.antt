use Rattle.std.proofs.Common.{◌-◌, ◌∙◌, sym, length, arith}
use Rattle.serving.proofs.Walk.{served_end, served_own, served_turn}
use Rattle.serving.proofs.serve.Goals as goal
use Rattle.serving.proofs.serve.Goals.{in-Some+then-for_program, in_default}

pub loop-line-preserved : goal.loop-line-preserved
loop-line-preserved c =
    let first = c.in-Some.ensures in
    let others = sym c.for_program.ensures ∙ c.if-for_program.false in
    record {
      within = omega (arith, first.size);
      turns = c.loop-line.invariant.turns ∙ served_turn _ _ _ _ first c.parse-command.ensures others c.answer-now.ensures (omega (arith, first.size));
    }

pub returns-clause-serves : goal.returns-clause-serves
returns-clause-serves c =
    let file = c.args.file.now in
    let rest = c.loop-line.rest.now in
    let at = length c.args.text.now - length rest in
    elim c.match-first_line.branch [
      | in-Some+then-for_program w ↦ served_own file rest at _ w.in-Some.ensures w.parse-command.ensures (sym w.for_program.ensures ∙ w.if-for_program.true) ∙ sym c.loop-line.invariant.turns
      | in_default w ↦ served_end file rest at _ w.in_default.ensures ∙ sym c.loop-line.invariant.turns
    ]
