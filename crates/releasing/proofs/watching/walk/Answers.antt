use Rattle.std.proofs.Common.{arith}
use Rattle.releasing.proofs.Scanning.{walk_none, walk_some}
use Rattle.releasing.proofs.watching.walk.Goals as goal

pub returns-in_err-place-clause-value : goal.returns-in_err-place-clause-value
returns-in_err-place-clause-value c =
    rw c.from_residual.ensures
    (walk_none c.args.mem.now c.args.number c.args.from c.args.held (omega (arith, c.requires.0, c.requires.1.1)) c.requires.1.0 c.place_of.ensures
    c.in_err-place.was)

pub returns-clause-value : goal.returns-clause-value
returns-clause-value c =
    walk_some c.args.mem.now c.args.number c.args.from c.args.held (omega (arith, c.requires.0, c.requires.1.1)) c.requires.1.0 c.place_of.ensures
    c.in_ok-place.was
