use Rattle.std.proofs.Common.{◌≡◌, ◌+◌, ◌-◌, sym, ◌∙◌, arith}
use Rattle.tables.proofs.memory.Cells as laws
use Rattle.taking.proofs.in_range.enter.Goals as goal

pub loop-token-init : goal.loop-token-init
loop-token-init c = let none : c.args.at + (c.args.from - c.args.from) ≡ c.args.at = omega arith in rw none

pub loop-token-preserved : goal.loop-token-preserved
loop-token-preserved c =
    let next : c.args.at + (c.loop-token.token - c.args.from) + 1 ≡ c.args.at + (c.loop-token.token + 1 - c.args.from) = omega arith in
    rw (c.from.ensures, ← next) (c.loop-token.invariant ∙ laws.sets_next _ _ _ _ c.loop-token-test.true)

pub returns : goal.returns
returns c = sym (c.loop-token.invariant ∙ laws.sets_done _ _ _ _ c.loop-token-test.false)
