-- The check of all records is that of those that are left, at the present floor, total and number of records found.
use Rattle.std.proofs.Common.{length, suc, ◌+◌, ◌-◌, ◌≡◌, ◌≤◌}
use Rattle.plan.specs.Records.{records_check, records_from}
use Rattle.plan.proofs.records.check_records.Given as goal

abbrev pub invariant-loop-rest : goal.invariant-loop-rest
invariant-loop-rest l =
    (length l.rest + l.found ≤ length l.part) × (l.found ≤ l.total) × (l.total ≤ 8192)
    × (records_check l.tokens l.records l.part ≡ records_from l.tokens l.records (suc (length l.part - l.found)) l.found l.floor l.total l.rest)

abbrev pub decreases-loop-rest : goal.decreases-loop-rest
decreases-loop-rest l = length l.rest
