use Rattle.std.proofs.Common.{refl}
use Rattle.console.specs.Turns.{fresh_numbers}
use Rattle.console.proofs.fresh_numbers.Goals as goal

pub returns-clause-zeros : goal.returns-clause-zeros
unfolding fresh_numbers
returns-clause-zeros c = refl
