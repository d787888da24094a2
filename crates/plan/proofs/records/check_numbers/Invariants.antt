-- The check of all numbers is that of those that are left, at the present floor.
use Rattle.std.proofs.Common.{◌≡◌, ◌≤◌, drop}
use Rattle.fields.specs.Bytes.{fields}
use Rattle.plan.specs.Records.{numbers_from}
use Rattle.plan.proofs.records.check_numbers.Given as goal

abbrev pub invariant-loop-number : goal.invariant-loop-number
invariant-loop-number l =
    (l.floor ≤ 65536) × (numbers_from l.token 0 (fields l.fn.numbers) ≡ numbers_from l.token l.floor (drop l.number-index (fields l.fn.numbers)))
