-- The code's test of one slot is that of the rules.
use Rattle.std.proofs.Common.{◌∙◌}
use Rattle.ranges.proofs.in_range.SlotLaws.{slot_is}
use Rattle.ranges.proofs.slots.load_sound.Goals as goal

pub returns : goal.returns
returns c =
    c.both.ensures ∙
    rw (c.held_sound-fits.ensures, c.bound.ensures, c.max-held.ensures, c.either-loaded.ensures)
    (slot_is c.args.s c.args.used c.args.pipes c.args.tokens c.requires)
