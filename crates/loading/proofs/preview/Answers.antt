-- `preview` meets its contract: each return is a case of loading.
use Rattle.std.proofs.Common.{arith}
use Rattle.std.proofs.lemmas.Result.{err_from_is_err_and}
use Rattle.plan.proofs.Ranges.{inside, outside}
use Rattle.loading.proofs.loading.LoadCases.{plan_refused, workers_refused, little_memory, accepts}
use Rattle.loading.proofs.preview.Goals as goal

pub returns-in_err-header : goal.returns-in_err-header
returns-in_err-header c =
    let (why, is, same) = err_from_is_err_and c.from_residual.result c.from_residual.ensures.1 in
    rw (is, same) (plan_refused _ _ _ c.in_err-header.ensures)

pub returns-then-not-contains : goal.returns-then-not-contains
returns-then-not-contains c =
    let e = c.new.ensures in
    workers_refused _ _ _ c.in_ok-header.ensures (outside e.start e.end e.exhausted _ c.if-not-contains.ensures.value)

pub returns-then-mem-lt-LENT : goal.returns-then-mem-lt-LENT
returns-then-mem-lt-LENT c =
    let e = c.new.ensures in
    let (some, most) = inside e.start e.end e.exhausted c.args.workers c.if-not-contains.ensures.value in
    little_memory _ _ _ c.in_ok-header.ensures some most (omega arith)

pub returns : goal.returns
returns c =
    let e = c.new.ensures in
    let (some, most) = inside e.start e.end e.exhausted c.args.workers c.if-not-contains.ensures.value in
    accepts _ _ _ c.in_ok-header.ensures some most (omega arith)
