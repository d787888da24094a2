-- `pipes::check_kinds` meets its contract: a byte that is known leaves the check to those after it.
use Rattle.std.proofs.Common.{sym, ◌∙◌, arith}
use Rattle.std.proofs.lemmas.Result.{err_from_is_err_and}
use Rattle.plan.proofs.Steps.{kinds_known, kinds_unknown, kinds_end}
use Rattle.plan.proofs.pipes.check_kinds.Goals as goal

pub returns-in_err-try_from : goal.returns-in_err-try_from
returns-in_err-try_from c =
    let (why, is, same) = err_from_is_err_and c.from_residual.result c.from_residual.ensures.1 in
    let refused = kinds_unknown c.args.bytes.now c.loop-byte.byte-index (omega arith) c.in_err-try_from.ensures in
    rw (is, same) (sym (c.loop-byte.invariant ∙ refused))

pub loop-byte-preserved : goal.loop-byte-preserved
loop-byte-preserved c = c.loop-byte.invariant ∙ kinds_known c.args.bytes.now c.loop-byte.byte-index (omega arith) c.in_ok-try_from.ensures

pub returns : goal.returns
returns c = sym (c.loop-byte.invariant ∙ kinds_end c.args.bytes.now c.loop-byte.byte-index (omega arith))
