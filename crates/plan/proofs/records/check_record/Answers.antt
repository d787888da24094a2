-- `records::check_record` meets its contract.
use Rattle.std.proofs.Common.{◌≡◌, ◌+◌, ◌-◌, ◌*◌, arith}
use borrow.Author.Tests.{le-leb}
use Rattle.fields.proofs.Fields.{field_inside}
use Rattle.plan.specs.Records.{token_of, count_of}
use Rattle.plan.proofs.Facts.{record_refused}
use Rattle.plan.proofs.Ranges.{among, not_among, inside, outside}
use Rattle.plan.proofs.Steps.{record_laid}
use Rattle.plan.proofs.Totals.{total_over}
use Rattle.plan.proofs.records.check_record.Goals as goal
use Rattle.plan.proofs.records.check_record.Goals.{then-part-end-via-then-part-end, then-part-end-via-else-part-end+then-not-contains, then-part-end-via-else-part-end+else-not-contains+then-not-contains-2}

pub returns-then-part-end : goal.returns-then-part-end
returns-then-part-end c = record_refused _ _ _ _ (λ begun ascends entered some most whole.
    let token : c.field_or_zero-token.result ≡ token_of c.args.part.now = field_inside _ _ (omega arith) c.field_or_zero-token.ensures in
    let count : c.field_or_zero-count.result ≡ count_of c.args.part.now = field_inside _ _ (omega arith) c.field_or_zero-count.ensures in
    elim c.then-part-end.branch [
      | then-part-end-via-then-part-end w ↦ omega arith
      | then-part-end-via-else-part-end+then-not-contains w ↦ not_among c.args.floor c.args.tokens c.field_or_zero-token.result w.if-not-contains.ensures.value (omega arith) (omega arith)
      | then-part-end-via-else-part-end+else-not-contains+then-not-contains-2 w ↦
          let e = w.new.ensures in outside e.start e.end e.exhausted c.field_or_zero-count.result w.if-not-contains-2.ensures.value (omega arith) (omega arith)
    ])

pub returns-then-total-count-gt8192 : goal.returns-then-total-count-gt8192
returns-then-total-count-gt8192 c =
    let e = c.new.ensures in
    let (ascends, entered) = among c.args.floor c.args.tokens c.field_or_zero-token.result c.if-not-contains.ensures.value in
    let (some, most) = inside e.start e.end e.exhausted c.field_or_zero-count.result c.if-not-contains-2.ensures.value in
    total_over _ _ _ _ c.field_or_zero-token.result c.field_or_zero-count.result (omega arith) c.field_or_zero-token.ensures c.field_or_zero-count.ensures
    (omega arith) entered some most (omega arith) (omega arith)

pub returns : goal.returns
returns c =
    let e = c.new.ensures in
    let (ascends, entered) = among c.args.floor c.args.tokens c.field_or_zero-token.result c.if-not-contains.ensures.value in
    let (some, most) = inside e.start e.end e.exhausted c.field_or_zero-count.result c.if-not-contains-2.ensures.value in
    let token : c.field_or_zero-token.result ≡ token_of c.args.part.now = field_inside _ _ (omega arith) c.field_or_zero-token.ensures in
    let count : c.field_or_zero-count.result ≡ count_of c.args.part.now = field_inside _ _ (omega arith) c.field_or_zero-count.ensures in
    let size : 4 + 2 * c.from.result - 4 ≡ 2 * count_of c.args.part.now = omega arith in
    rw (
      record_laid c.args.tokens c.args.floor c.args.total c.args.part.now (omega arith) (omega arith) (omega arith) (omega arith) (omega arith) (omega arith),
      le-leb (c.args.total + count_of c.args.part.now) 8192 (omega arith),
      c.check_numbers.ensures,
      size,
      token,
    )
