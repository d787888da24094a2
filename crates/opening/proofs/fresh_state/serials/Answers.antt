-- `fresh_state::serials` meets its contract.
use Rattle.std.proofs.Common.{arith}
use Rattle.opening.proofs.OpenedParts.{serials_store}
use Rattle.opening.proofs.fresh_state.serials.Goals as goal

pub loop-p-preserved : goal.loop-p-preserved
loop-p-preserved c = (omega arith, serials_store c.args.bytes.now c.requires c.loop-p.p (omega arith) c.loop-p.invariant.1)
