-- The counters, by the highest ones.
use Rattle.ranges.proofs.in_range.CounterLaws.{counters_are}
use Rattle.ranges.proofs.counters.counters_sound.Goals as goal

pub returns-then-row_within : goal.returns-then-row_within
returns-then-row_within c =
    rw (
      counters_are _ _ _ _ c.requires.1,
      ← c.most_row.ensures,
      ← c.highest_row-used.ensures,
      ← c.highest_row-unused.ensures,
      ← c.if-row_within.ensures,
    ) c.row_within-then-row_within.ensures

pub returns-else-row_within : goal.returns-else-row_within
returns-else-row_within c =
    rw (
      counters_are _ _ _ _ c.requires.1,
      ← c.most_row.ensures,
      ← c.highest_row-used.ensures,
      ← c.if-row_within.ensures,
    ) c.if-row_within.false
