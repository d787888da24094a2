-- Too many pipes.
use Rattle.std.proofs.Common.{arith}
use borrow.Author.Tests.{lt-leb}
use Rattle.rounding.specs.Roundings.{rounding_fits}
use Rattle.rounding.proofs.range.in_range.Goals as goal

pub returns-then-pipes-gt-MOST_PIPES : goal.returns-then-pipes-gt-MOST_PIPES
unfolding rounding_fits
returns-then-pipes-gt-MOST_PIPES c = rw (lt-leb c.args.pipes 16 (omega arith))
