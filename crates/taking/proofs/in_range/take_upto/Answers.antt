use Rattle.tables.proofs.code.TakingLaws as laws
use Rattle.taking.proofs.in_range.take_upto.Goals as goal

pub returns-then-held-gt-TOKENS-clause-answer : goal.returns-then-held-gt-TOKENS-clause-answer
returns-then-held-gt-TOKENS-clause-answer c = (laws.upto_full c.args.t c.args.mem.now _ c.if-held-gt-TOKENS.true).0

pub returns-then-held-gt-TOKENS-clause-memory : goal.returns-then-held-gt-TOKENS-clause-memory
returns-then-held-gt-TOKENS-clause-memory c = (laws.upto_full c.args.t c.args.mem.now _ c.if-held-gt-TOKENS.true).1

pub returns-then-upto-t-clause-answer : goal.returns-then-upto-t-clause-answer
returns-then-upto-t-clause-answer c =
    (laws.upto_took c.args.t c.args.mem.now _ c.if-held-gt-TOKENS.false c.defer.ensures c.if-upto-t.true).0

pub returns-then-upto-t-clause-memory : goal.returns-then-upto-t-clause-memory
returns-then-upto-t-clause-memory c =
    (laws.upto_took c.args.t c.args.mem.now _ c.if-held-gt-TOKENS.false c.defer.ensures c.if-upto-t.true).1

pub returns-clause-answer : goal.returns-clause-answer
returns-clause-answer c = (laws.upto_none c.args.t c.args.mem.now _ c.if-held-gt-TOKENS.false c.defer.ensures c.if-upto-t.false).0

pub returns-clause-memory : goal.returns-clause-memory
returns-clause-memory c = (laws.upto_none c.args.t c.args.mem.now _ c.if-held-gt-TOKENS.false c.defer.ensures c.if-upto-t.false).1
