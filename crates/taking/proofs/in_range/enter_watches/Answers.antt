use Rattle.std.proofs.Common.{◌≡◌, ◌+◌, ◌-◌, arith}
use Rattle.tables.proofs.code.TakingLaws as laws
use Rattle.taking.proofs.in_range.enter_watches.Goals as goal

pub loop-token-init : goal.loop-token-init
loop-token-init c =
    let none : c.args.at + (c.args.count - c.args.count) ≡ c.args.at = omega arith in
    rw none
    (laws.watching_start c.args.mem.now c.args.at c.args.count c.args.to c.requires.watches_at_le_at.1.1 c.requires.count_le_to.0 c.requires.watches_at_le_at.0
    c.requires.watches_at_le_at.1.0)

pub loop-token-preserved : goal.loop-token-preserved
loop-token-preserved c =
    let next : c.args.at + (c.loop-token.token - c.args.count) + 1 ≡ c.args.at + (c.loop-token.token + 1 - c.args.count) = omega arith in
    rw (c.from.ensures, ← next) (laws.watching_next c.loop-token.invariant c.loop-token-test.true c.watch.ensures)

pub returns : goal.returns
returns c = laws.watching_end c.loop-token.invariant c.loop-token-test.false
