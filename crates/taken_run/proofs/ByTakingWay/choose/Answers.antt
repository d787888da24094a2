use Rattle.taken_run.proofs.Taking.{taken_way}
use Rattle.taken_run.proofs.ByTakingWay.choose.Goals as goal

pub returns-in-Ok : goal.returns-in-Ok
returns-in-Ok c = taken_way _ _ _ _ _ c.in-Ok.ensures c.record-record.ensures _ _ c.take_record.ensures
