-- All numbers are within, one number at a time.
use Rattle.std.proofs.Common.{refl, sym, ◌∙◌, arith}
use Rattle.rules.proofs.lists.EveryBelow.{every_none}
use Rattle.ranges.specs.RangeParts.{row_within}
use Rattle.ranges.proofs.in_range.Rows.{every_next, every_all}
use Rattle.ranges.proofs.rows.row_within.Goals as goal

pub loop-p-init : goal.loop-p-init
loop-p-init c = sym (every_none _)

pub loop-p-preserved : goal.loop-p-preserved
loop-p-preserved c = c.both-ok.ensures ∙ every_next _ c.loop-p.p c.loop-p.invariant refl

pub returns : goal.returns
unfolding row_within
returns c = every_all _ 16 c.loop-p.p (omega arith) (omega arith) c.loop-p.invariant
