use Rattle.console.proofs.Turns as laws
use Rattle.console.proofs.turn.Goals as goal

pub returns-in-Some-clause-turns : goal.returns-in-Some-clause-turns
returns-in-Some-clause-turns c = laws.turned_line _ c.answer_lines-left.ensures.serves c.in-Some.ensures.some c.own_line.ensures.obeys

pub returns-in-None-clause-turns : goal.returns-in-None-clause-turns
returns-in-None-clause-turns c = laws.turned_wait _ c.answer_lines-left.ensures.serves c.in-None.ensures.none c.wait.ensures.waits
