use Rattle.tables.proofs.code.TakingLaws.{deferred_is}
use Rattle.taking.proofs.in_range.defer.Goals as goal

pub returns : goal.returns
returns c =
    deferred_is c.args.mem.now c.args.held c.args.count c.args.upto (rw c.from.ensures at c.enter.ensures) (rw c.from-2.ensures at c.enter_watches.ensures) c.mark_deferred.ensures
