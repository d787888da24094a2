use Rattle.std.proofs.Common.{◌≤◌, ◌+◌, length, sym, ◌∙◌, arith}
use Rattle.tables.proofs.code.ScanLaws.{next_of, next_is, passed_block, passed_walk, passed_end}
use Rattle.releasing.proofs.watching.next.Goals as goal

pub returns-then-in_block-clause-value : goal.returns-then-in_block-clause-value
returns-then-in_block-clause-value c =
    let long : 24576 + c.args.held ≤ length c.args.mem.now = omega (arith, c.requires.0, c.requires.1.1) in
    next_is c.args.mem.now c.args.number c.args.held long c.requires.1.0
    (passed_walk c.loop-cell.invariant c.loop-cell-test.true
    (next_of c.args.mem.now c.args.number c.args.held long (omega (arith, c.loop-cell-test.true)) c.walk.ensures.value))

pub loop-cell-preserved : goal.loop-cell-preserved
loop-cell-preserved c =
    passed_block c.loop-cell.invariant (sym c.in_block.ensures ∙ c.if-in_block.false)
    (omega (arith, c.loop-cell-test.true, c.requires.0, c.requires.1.1))

pub returns-clause-value : goal.returns-clause-value
returns-clause-value c =
    next_is c.args.mem.now c.args.number c.args.held (omega (arith, c.requires.0, c.requires.1.1)) c.requires.1.0
    (passed_end c.loop-cell.invariant c.requires.1.0 c.loop-cell-test.false)

pub returns-else-in_block-clause-value : goal.returns-else-in_block-clause-value
returns-else-in_block-clause-value c =
    next_is c.args.mem.now c.args.number c.args.held (omega (arith, c.requires.0, c.requires.1.1)) c.requires.1.0
    (passed_end (passed_block c.loop-cell.invariant (sym c.in_block.ensures ∙ c.if-in_block.false)
    (omega (arith, c.loop-cell-test.true, c.requires.0, c.requires.1.1))) c.requires.1.0 (omega arith))
