use Rattle.std.proofs.Common.{refl, rules}
use Rattle.console.specs.Turns.{none, then}
use Rattle.console.proofs.run.Goals as goal

pub loop-init : goal.loop-init
loop-init c = record { file = refl; buffer = refl; kept = c.requires; turns = none }

pub loop-preserved : goal.loop-preserved
loop-preserved c = record {
  file = search rules;
  buffer = search rules;
  kept = search rules;
  turns = then c.loop.invariant.turns c.turn-now.ensures.turns;
}

pub returns-then-now : goal.returns-then-now
returns-then-now c = then c.loop.invariant.turns c.turn-now.ensures.turns
