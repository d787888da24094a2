-- A cell's passing.
use Rattle.std.specs.Prelude.{Option, Some, None, ℕ, ◌+◌, leb}
use Rattle.rules.specs.Lists.{must}
use Rattle.rules.specs.Rounding.{rise, sum_most}
use Rattle.rounding.specs.declared.sums.Passed.{Passed}

-- "14 if T would pass 4,096,000,000"; else the cell is added to T, and publishes the rise
unfoldable pub pass_of : ℕ → ℕ → ℕ → Option Passed
pass_of base sum cell =
    must (leb (sum + cell) sum_most) None
    (Some (record { sum = sum + cell; figure = rise base sum cell }))
