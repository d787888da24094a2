-- "base b, 3 or 5".
use Rattle.std.specs.Prelude.{ℕ, Result, Ok, Err, eqb}
use Rattle.vocabulary.specs.declared.refusal.Refusal.{Refusal}
use Rattle.rules.specs.Lists.{if}
use Rattle.rounding.specs.declared.base.Base.{Base}
use Rattle.rounding.specs.declared.base.Base.TheVariants.{Three, Five}

-- the number of a base
abbrev pub base_of : Base → ℕ
base_of Three = 3
base_of Five = 5

-- what a number says of a base
abbrev pub base_in : ℕ → Result Base Refusal
base_in n = if (eqb n 3) (Ok Three) (if (eqb n 5) (Ok Five) (Err Refusal.Base))
