-- "Pipe, base and T belong to the state".
use Rattle.std.specs.Prelude.{Bool, List, [], ◌∷◌, ℕ, leb}
use Rattle.rules.specs.Lists.{all}
use Rattle.rules.specs.Rounding as paper
use Rattle.rounding.specs.declared.Rounding.{Rounding}

-- the paper's numbers of a rounding
abbrev pub rounding_of : Rounding → paper.Rounding
rounding_of r = record { pipe = r.pipe.0; base = r.base; sum = r.sum }

-- they are within their ranges, in a plan that has at most 16 pipes
unfoldable pub rounding_fits : ℕ → List Bool → paper.Rounding → Bool
rounding_fits pipes serial r = all (leb pipes 16 ∷ paper.rounding_sound pipes serial r ∷ [])
