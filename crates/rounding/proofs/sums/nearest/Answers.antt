-- No base is 0.
use Rattle.rules.proofs.rounding.Sums.{is_base_lem}
use Rattle.rounding.proofs.laws.Bases.{not_zero}
use Rattle.rounding.proofs.sums.nearest.Goals as goal

pub nonzero_rem-over : goal.nonzero_rem-over
nonzero_rem-over g c = not_zero (is_base_lem _ c.requires)
