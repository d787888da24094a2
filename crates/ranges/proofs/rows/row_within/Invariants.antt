-- The invariant: `ok` says whether all numbers before `p` are within.
use Rattle.std.proofs.Common.{◌≡◌, get_or}
use lib.Dec.{leb}
use Rattle.rules.specs.Lists.{every}
use Rattle.ranges.proofs.rows.row_within.Given as goal

abbrev pub invariant-loop-p : goal.invariant-loop-p
invariant-loop-p l = (l.ok ≡ every l.p (λ q. leb (get_or l.row q 0) (get_or l.most q 0)))
