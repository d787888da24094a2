-- `records::check_records` meets its contract.
use Rattle.std.proofs.Common.{◌≡◌, sym, ap, ◌∙◌, ◌+◌, ◌*◌, arith, length, drop, length-drop}
use Rattle.std.proofs.lemmas.Result.{err_from_is_err_and}
use borrow.Author.Tests.{eqb-true, eqb-false}
use Rattle.rules.proofs.lists.Tests.{tests}
use Rattle.plan.specs.Records.{count_of, after_record}
use Rattle.plan.proofs.Facts.{record_read}
use Rattle.plan.proofs.Steps.{records_turn, records_end}
use Rattle.plan.proofs.records.check_records.Goals as goal

pub returns-in_err-check_record : goal.returns-in_err-check_record
returns-in_err-check_record c =
    let l = c.loop-rest in
    let (why, is, same) = err_from_is_err_and c.from_residual.result c.from_residual.ensures.1 in
    let more : length l.rest.now ≡ 0 → ⊥ = eqb-false _ _ (sym c.loop-rest-test.ensures) in
    rw (is, same, l.invariant.3, records_turn c.args.part.now l.rest.now c.args.tokens c.args.records l.found l.floor l.total (omega arith) (omega arith), ← c.in_err-check_record.ensures)

pub overflow_add-floor : goal.overflow_add-floor
overflow_add-floor c =
    let read = record_read c.in_ok-check_record.ensures c.field_or_zero-floor.ensures c.field_or_zero-count.ensures in
    omega (arith, read, read.facts)

pub overflow_add-total : goal.overflow_add-total
overflow_add-total c =
    let read = record_read c.in_ok-check_record.ensures c.field_or_zero-floor.ensures c.field_or_zero-count.ensures in
    omega (arith, read, read.facts)

pub split_at-requires : goal.split_at-requires
split_at-requires c =
    let read = record_read c.in_ok-check_record.ensures c.field_or_zero-floor.ensures c.field_or_zero-count.ensures in
    omega (arith, read, read.facts)

pub loop-rest-preserved : goal.loop-rest-preserved
loop-rest-preserved c =
    let l = c.loop-rest in
    let s = l.rest.now in
    let more : length s ≡ 0 → ⊥ = eqb-false _ _ (sym c.loop-rest-test.ensures) in
    let read = record_read c.in_ok-check_record.ensures c.field_or_zero-floor.ensures c.field_or_zero-count.ensures in
    let f = read.facts in
    let stride : 4 + 2 * c.from.result ≡ 4 + 2 * count_of s = omega (arith, read) in
    let later : c.split_at.result.1.now ≡ after_record s = c.split_at.ensures.back ∙ ap (λ n. drop n s) stride in (
      omega (arith, read, f, ap length later, length-drop (4 + 2 * count_of s) s),
      omega (arith, read, f),
      omega (arith, read, f),
      rw (
        l.invariant.3,
        records_turn c.args.part.now s c.args.tokens c.args.records l.found l.floor l.total (omega arith) (omega arith),
        ← c.in_ok-check_record.ensures,
        later,
        read.token_is,
        read.count_is,
      ),
    )

pub returns-then-found-records : goal.returns-then-found-records
returns-then-found-records c =
    let l = c.loop-rest in
    let none : length l.rest.now ≡ 0 = eqb-true _ _ (sym c.loop-rest-test.ensures) in
    rw (l.invariant.3, records_end c.args.part.now l.rest.now c.args.tokens c.args.records l.found l.floor l.total none) (search tests)

pub returns-else-found-records : goal.returns-else-found-records
returns-else-found-records c =
    let l = c.loop-rest in
    let none : length l.rest.now ≡ 0 = eqb-true _ _ (sym c.loop-rest-test.ensures) in
    rw (l.invariant.3, records_end c.args.part.now l.rest.now c.args.tokens c.args.records l.found l.floor l.total none) (search tests)
