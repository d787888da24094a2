-- The invariant: `sound` says whether all slots below l are within their ranges, `busy` whether the worker runs one of these lines.
use Rattle.std.proofs.Common.{◌≡◌}
use Rattle.rules.specs.Lists.{every}
use Rattle.rules.specs.Choices.{at_work}
use Rattle.rules.specs.Ranges.{slot_sound}
use Rattle.ranges.proofs.slots.walk.Given as goal

abbrev pub invariant-loop-l : goal.invariant-loop-l
invariant-loop-l l =
    (l.sound ≡ every l.l (slot_sound l.pipes l.lines l.tokens l.workers l.slots)) ×
    (l.busy ≡ at_work l.slots l.worker l.l)
