use Rattle.std.proofs.Common.{◌+◌, ap, slice_index_or}
use Rattle.tables.proofs.code.TakingLaws as laws
use Rattle.taking.proofs.in_range.take_ready.Goals as goal

pub returns-then-t-token-clause-answer : goal.returns-then-t-token-clause-answer
returns-then-t-token-clause-answer c =
    (laws.ready_bad c.args.t c.args.mem.now (ap (λ k. slice_index_or c.args.mem.now (28672 + k) 0) c.from.ensures) c.if-t-token.true).0

pub returns-then-t-token-clause-memory : goal.returns-then-t-token-clause-memory
returns-then-t-token-clause-memory c =
    (laws.ready_bad c.args.t c.args.mem.now (ap (λ k. slice_index_or c.args.mem.now (28672 + k) 0) c.from.ensures) c.if-t-token.true).1

pub returns-clause-answer : goal.returns-clause-answer
returns-clause-answer c =
    (laws.ready_took c.args.t c.args.mem.now (ap (λ k. slice_index_or c.args.mem.now (28672 + k) 0) c.from.ensures) c.from-2.ensures c.if-t-token.false).0

pub returns-clause-memory : goal.returns-clause-memory
returns-clause-memory c =
    (laws.ready_took c.args.t c.args.mem.now (ap (λ k. slice_index_or c.args.mem.now (28672 + k) 0) c.from.ensures) c.from-2.ensures c.if-t-token.false).1
