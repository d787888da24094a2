-- One slot more, and all.
use Rattle.std.proofs.Common.{sym, ◌∙◌, arith}
use Rattle.rules.specs.Ranges.{slot_sound}
use Rattle.rules.proofs.lists.EveryBelow.{every_none}
use Rattle.ranges.proofs.in_range.Rows.{every_next}
use Rattle.ranges.proofs.in_range.SlotLaws as laws
use Rattle.ranges.proofs.slots.walk.Goals as goal

pub loop-l-init : goal.loop-l-init
loop-l-init c = (sym (every_none _), laws.works_none _ _)

pub loop-l-preserved : goal.loop-l-preserved
unfolding slot_sound
loop-l-preserved c =
    let inv = c.loop-l.invariant in (
      c.both-sound.ensures ∙ every_next _ c.loop-l.l inv.0 (rw c.slot_at-slot.ensures at c.slot_sound.ensures),
      c.either-busy.ensures ∙ laws.works_more _ _ c.loop-l.l (rw c.slot_at-slot.ensures at c.run_by.ensures) inv.1,
    )

pub returns : goal.returns
returns c =
    let inv = c.loop-l.invariant in
    laws.found_is _ _ _ _ _ _ (omega arith) inv.0 inv.1
