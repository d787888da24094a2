-- The code's test of the end is that of the rules.
use Rattle.std.proofs.Common.{ap, ◌∙◌}
use Rattle.state.specs.Ending.{over_of}
use Rattle.state.proofs.in_range.SoundLaws.{both_rules}
use Rattle.state.proofs.ended.Goals as goal

pub returns-clause-rules : goal.returns-clause-rules
returns-clause-rules c = (both_rules c.args.s (c.is_over.ensures ∙ ap (over_of c.args.s.stopped c.args.s.lines c.args.s.counters) c.slots.ensures)).1
