-- The slot's worker, and its load.
use Rattle.std.proofs.Common.{◌∙◌}
use Rattle.ranges.proofs.in_range.SlotLaws.{worker_is}
use Rattle.ranges.proofs.slots.slot_sound.Goals as goal

pub returns : goal.returns
returns c = c.both.ensures ∙ rw (c.held_sound-by.ensures, c.load_sound.ensures, worker_is)
