use Rattle.std.proofs.Common.{◌∙◌}
use Rattle.tables.proofs.code.CallLaws as calls
use Rattle.tables.proofs.code.TakingLaws as laws
use Rattle.taking.proofs.Holds.{one_error}
use Rattle.taking.proofs.take.Goals as goal

pub returns-then-not-sound-clause-answer : goal.returns-then-not-sound-clause-answer
returns-then-not-sound-clause-answer c = (calls.takes_none c.args.t c.args.mem.now c.sound.ensures c.if-not-sound.true).0

pub returns-then-not-sound-clause-memory : goal.returns-then-not-sound-clause-memory
returns-then-not-sound-clause-memory c = (calls.takes_none c.args.t c.args.mem.now c.sound.ensures c.if-not-sound.true).1

pub take_ready-requires-clause-in_range : goal.take_ready-requires-clause-in_range
take_ready-requires-clause-in_range c = (calls.in_range c.args.t c.args.mem.now c.sound.ensures c.if-not-sound.false).0

pub take_ready-requires-clause-lent_in_bounds : goal.take_ready-requires-clause-lent_in_bounds
take_ready-requires-clause-lent_in_bounds c = (calls.in_range c.args.t c.args.mem.now c.sound.ensures c.if-not-sound.false).1

pub returns-then-t-clause-answer : goal.returns-then-t-clause-answer
returns-then-t-clause-answer c =
    (calls.takes c.args.t c.args.mem.now c.sound.ensures c.if-not-sound.false
    (laws.take_first c.args.t c.args.mem.now c.if-t.true (c.take_ready.ensures.answer, c.take_ready.ensures.memory))).0

pub returns-then-t-clause-memory : goal.returns-then-t-clause-memory
returns-then-t-clause-memory c =
    (calls.takes c.args.t c.args.mem.now c.sound.ensures c.if-not-sound.false
    (laws.take_first c.args.t c.args.mem.now c.if-t.true (c.take_ready.ensures.answer, c.take_ready.ensures.memory))).1

pub find-requires-clause-lent_in_bounds : goal.find-requires-clause-lent_in_bounds
find-requires-clause-lent_in_bounds c = (calls.in_range c.args.t c.args.mem.now c.sound.ensures c.if-not-sound.false).1

pub find-requires-clause-count_le_tokens : goal.find-requires-clause-count_le_tokens
find-requires-clause-count_le_tokens c =
    let ok = (calls.in_range c.args.t c.args.mem.now c.sound.ensures c.if-not-sound.false).0 in (ok.count, ok.tokens)

pub returns-in_err-upto-clause-answer : goal.returns-in_err-upto-clause-answer
returns-in_err-upto-clause-answer c =
    one_error c.from_residual.ensures.0
    ∙ (calls.takes c.args.t c.args.mem.now c.sound.ensures c.if-not-sound.false
    (laws.take_new_lem c.args.t c.args.mem.now c.if-t.false c.find.ensures c.in_err-upto.was (laws.upto_bad c.args.t c.args.mem.now))).0

pub returns-in_err-upto-clause-memory : goal.returns-in_err-upto-clause-memory
returns-in_err-upto-clause-memory c =
    (calls.takes c.args.t c.args.mem.now c.sound.ensures c.if-not-sound.false
    (laws.take_new_lem c.args.t c.args.mem.now c.if-t.false c.find.ensures c.in_err-upto.was (laws.upto_bad c.args.t c.args.mem.now))).1

pub take_upto-requires-clause-in_range : goal.take_upto-requires-clause-in_range
take_upto-requires-clause-in_range c = (calls.in_range c.args.t c.args.mem.now c.sound.ensures c.if-not-sound.false).0

pub take_upto-requires-clause-count_le_upto : goal.take_upto-requires-clause-count_le_upto
take_upto-requires-clause-count_le_upto c =
    laws.found_within _ _ _ (calls.in_range c.args.t c.args.mem.now c.sound.ensures c.if-not-sound.false).0.count c.find.ensures c.in_ok-upto.was

pub take_upto-requires-clause-lent_in_bounds : goal.take_upto-requires-clause-lent_in_bounds
take_upto-requires-clause-lent_in_bounds c = (calls.in_range c.args.t c.args.mem.now c.sound.ensures c.if-not-sound.false).1

pub returns-clause-answer : goal.returns-clause-answer
returns-clause-answer c =
    (calls.takes c.args.t c.args.mem.now c.sound.ensures c.if-not-sound.false
    (laws.take_new_lem c.args.t c.args.mem.now c.if-t.false c.find.ensures c.in_ok-upto.was (c.take_upto.ensures.answer, c.take_upto.ensures.memory))).0

pub returns-clause-memory : goal.returns-clause-memory
returns-clause-memory c =
    (calls.takes c.args.t c.args.mem.now c.sound.ensures c.if-not-sound.false
    (laws.take_new_lem c.args.t c.args.mem.now c.if-t.false c.find.ensures c.in_ok-upto.was (c.take_upto.ensures.answer, c.take_upto.ensures.memory))).1
