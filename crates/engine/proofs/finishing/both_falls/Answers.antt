-- Both falls, by the numbers after.
use Rattle.std.proofs.Common.{arith}
use Rattle.engine.proofs.moves.FinishLaws as laws
use Rattle.engine.proofs.finishing.both_falls.Goals as goal

pub returns-clause-same : goal.returns-clause-same
returns-clause-same c =
    laws.both_told c.args.f c.args.counters.now c.args.l c.args.slot c.from.ensures c.next_of.ensures c.next_of-2.ensures
    c.counter_of-beside.ensures c.counter_of-ahead.ensures c.fall.ensures

pub returns-clause-fits : goal.returns-clause-fits
returns-clause-fits c =
    laws.both_within c.args.f c.args.counters.now c.args.l c.args.slot c.from.ensures c.next_of.ensures c.next_of-2.ensures
    c.counter_of-beside.ensures c.counter_of-ahead.ensures c.fall.ensures
    (omega (arith, laws.next_less _ _ c.requires.line c.next_of.ensures, c.requires))
    (omega (arith, laws.next_less _ _ c.requires.pipe c.next_of-2.ensures, c.requires))
