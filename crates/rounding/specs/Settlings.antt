-- What a choice that is accepted without rounding does to T and the figures.
use Rattle.std.specs.Prelude.{Bool, true, List, Option, Some, None, ℕ, leb, eqb}
use Rattle.vocabulary.specs.declared.Token.{Token}
use Rattle.rules.specs.Lists.{if, must}
use Rattle.rules.specs.Choices.{Answer}
use Rattle.rules.specs.Rounding.{sum_most, is_base, Rounding, with_sum, Passing, NonePasses, passing, sum_after, figures_after}
use Rattle.rules.specs.Rounding as paper
use Rattle.rounding.specs.Roundings.{rounding_of}
use Rattle.rounding.specs.declared.Rounding as code

-- whose cell passes when a token finishes a pipe: its own, if that is the pipe that rounds
unfoldable pub passer : Rounding → ℕ → ℕ → Passing
passer r p t = if (eqb r.base 0) NonePasses (if (eqb p r.pipe) (paper.Passes t) NonePasses)

-- who passes
abbrev pub passer_of : Option Token → Passing
passer_of None = NonePasses
passer_of (Some t) = paper.Passes t.0

-- a base, or that of a run without rounding
unfoldable pub is_known : ℕ → Bool
is_known b = if (eqb b 0) true (is_base b)

-- what a choice comes to: 14, or the state's three numbers; and the figures
pub data Settling : Type 0 where
  Spoils : List ℕ → Settling
  Leaves : Rounding → List ℕ → Settling

abbrev pub settled_of : Option code.Rounding → List ℕ → Settling
settled_of (Some r) figures = Leaves (rounding_of r) figures
settled_of None figures = Spoils figures

-- "then 14 if T would pass 4,096,000,000, and nothing is changed"; else the cell that passes is added to T, and its token has the rise
-- for its figure. (With a rounding within its ranges its base is known.)
unfoldable pub settle_by : Rounding → Answer → List ℕ → List ℕ → Settling
settle_by r a cells figures =
    must (is_known r.base) (Spoils figures)
    (must (leb (sum_after r cells (passing r a)) sum_most) (Spoils figures)
    (Leaves (with_sum r (sum_after r cells (passing r a))) (figures_after r cells figures (passing r a))))
