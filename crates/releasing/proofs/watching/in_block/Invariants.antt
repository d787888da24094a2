use Rattle.std.proofs.Common.{◌≡◌, true, drop}
use Rattle.rules.specs.Lists.{if, has}
use Rattle.releasing.proofs.watching.in_block.Given as goal

abbrev pub invariant-loop-watch : goal.invariant-loop-watch
invariant-loop-watch l = has l.watch-items l.number ≡ if l.found true (has (drop l.watch-index l.watch-items) l.number)
