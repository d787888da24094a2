-- The row of the lines before `l`, and of one line more.
use Rattle.std.proofs.Common.{◌≡◌, ap, ◌∙◌, arith}
use Rattle.ranges.specs.RangeParts.{highest_row, raised_row}
use Rattle.ranges.proofs.in_range.Highest.{row_none, row_more}
use Rattle.ranges.proofs.counters.highest_row.Goals as goal

pub loop-l-init : goal.loop-l-init
loop-l-init c = row_none _ _

pub loop-l-preserved : goal.loop-l-preserved
loop-l-preserved c =
    let counters = c.args.counters.now in
    c.raised-next.ensures ∙ ap (λ row. raised_row counters row c.loop-l.l) c.loop-l.invariant ∙
    row_more counters c.args.from c.loop-l.l (omega arith)

pub returns : goal.returns
returns c =
    let all : c.loop-l.l ≡ c.args.to = omega arith in
    c.loop-l.invariant ∙ ap (highest_row c.args.counters.now c.args.from) all
