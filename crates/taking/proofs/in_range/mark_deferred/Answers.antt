use Rattle.std.proofs.Common.{ap, ◌+◌, arith}
use Rattle.taking.proofs.Filling.{filled}
use Rattle.taking.proofs.in_range.mark_deferred.Goals as goal

pub returns : goal.returns
returns c =
    filled c.args.mem.now 1 c.args.from c.args.to c.requires.from_le_to.0 (ap (λ k. 16384 + k) c.from.ensures) (ap (λ k. 16384 + k) c.from-2.ensures)
    (omega (arith, c.from-2.ensures)) (c.fill.ensures.after (λ y e. e))
