-- The code's two tests.
use Rattle.std.proofs.Common.{◌∙◌}
use Rattle.ranges.proofs.in_range.FlagLaws as laws
use Rattle.ranges.proofs.flags.flags_sound.Goals as goal

pub returns-then-row_within : goal.returns-then-row_within
returns-then-row_within c =
    laws.first_told _ _ c.flag_row.ensures c.pipe_row.ensures c.row_within.ensures c.if-row_within.true

pub returns-else-row_within : goal.returns-else-row_within
returns-else-row_within c =
    c.if-row_within.false ∙ laws.no_pipe_serial _ _ c.flag_row.ensures c.pipe_row.ensures c.row_within.ensures c.if-row_within.false
