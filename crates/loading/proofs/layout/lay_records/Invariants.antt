-- To lay all records out is to lay those out that are left.
use Rattle.std.proofs.Common.{◌≡◌, length}
use Rattle.plan.specs.Records.{records_in}
use Rattle.loading.proofs.memory_laid.RecordWalk.{Left, laying}
use Rattle.loading.proofs.layout.lay_records.Given as goal

abbrev pub invariant-loop-rest : goal.invariant-loop-rest
invariant-loop-rest l = (length l.mem ≡ length l.fn.mem) × Left l.rest (laying l.fn.mem 0 (records_in l.part)) l.mem l.position

abbrev pub decreases-loop-rest : goal.decreases-loop-rest
decreases-loop-rest l = length l.rest
