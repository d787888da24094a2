use Rattle.std.proofs.Common.{◌≡◌, take}
use Rattle.tables.specs.Facts.{new_hold}
use Rattle.tables.specs.State.{span}
use Rattle.tables.specs.Taking.{first_free}
use Rattle.taking.proofs.in_range.find.Given as goal

abbrev pub invariant-loop-token : goal.invariant-loop-token
invariant-loop-token l =
    first_free (new_hold (take 20480 l.mem) l.count) l.tokens (span l.count l.tokens)
    ≡ first_free (new_hold (take 20480 l.mem) l.count) l.tokens (span l.token l.tokens)
