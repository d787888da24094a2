use Rattle.std.proofs.Common.{◌-◌, ◌≡◌, ◌+◌}
use Rattle.std.proofs.lemmas.List.Edits.{sets}
use Rattle.tables.specs.State.{span}
use Rattle.taking.proofs.in_range.enter.Given as goal

abbrev pub invariant-loop-token : goal.invariant-loop-token
invariant-loop-token l = sets l.fn.mem l.at (span l.from l.to) ≡ sets l.mem (l.at + (l.token - l.from)) (span l.token l.to)
