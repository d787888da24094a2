use Rattle.std.proofs.Common.{◌-◌, length}
use borrow.Rule.Slice.PartMut.{put_mid, take_put}
use Rattle.console.proofs.Inputs as laws
use Rattle.console.proofs.input.read_more.Goals as goal

pub returns-then-count-eq0-clause-reads : goal.returns-then-count-eq0-clause-reads
returns-then-count-eq0-clause-reads c =
    let kept = c.keep_rest-kept.result in
    let front = c.keep_rest-kept.new.buffer in
    let new = c.read_some-count.new.buffer in
    laws.arrived_last c.args.input c.args.buffer.now c.requires c.keep_rest-kept.ensures.moves (put_mid kept (length front - kept) front new)
    (take_put kept (length front - kept) front new c.keep_rest-kept.ensures.within) c.end_last.ensures.ends

pub returns-clause-reads : goal.returns-clause-reads
returns-clause-reads c =
    let kept = c.keep_rest-kept.result in
    let front = c.keep_rest-kept.new.buffer in
    let new = c.read_some-count.new.buffer in
    laws.arrived_more c.args.input c.args.buffer.now c.requires c.keep_rest-kept.ensures.moves c.read_some-count.result c.if-count-eq0.false
    (take_put kept (length front - kept) front new c.keep_rest-kept.ensures.within) c.past_long.ensures.passes
