-- `fresh_state::counters` meets its contract.
use Rattle.std.proofs.Common.{refl, arith, length-set}
use Rattle.opening.proofs.OpenedParts.{counters_first, counters_store, counters_line, counters_all}
use Rattle.opening.proofs.fresh_state.counters.Goals as goal

pub loop-line-init : goal.loop-line-init
loop-line-init c = (omega arith, refl, counters_first c.args.serial c.args.pipes c.args.lines)

pub loop-pipe-preserved : goal.loop-pipe-preserved
loop-pipe-preserved c =
    let l = c.loop-pipe.invariant in (
      l.0,
      omega arith,
      simp length-set l.2,
      counters_store c.args.serial c.args.pipes c.args.lines c.requires.0 c.requires.1 _ _ l.0 c.loop-pipe-test.true l.3 c.counter.ensures,
    )

pub loop-line-preserved : goal.loop-line-preserved
loop-line-preserved c =
    let l = c.loop-pipe.invariant in
    (omega arith, l.2, counters_line c.args.serial c.args.pipes c.args.lines c.requires.0 c.requires.1 _ _ l.0 l.1 c.loop-pipe-test.false l.3)

pub returns : goal.returns
returns c =
    counters_all c.args.serial c.args.pipes c.args.lines c.requires.0 c.requires.1 _ c.loop-line-test.false c.loop-line.invariant.2
