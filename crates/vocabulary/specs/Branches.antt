-- By a test.
use Rattle.std.specs.Prelude.{Bool, true, false}

-- the first where it holds, else the second
abbrev pub if : {A : Type 0} → Bool → A → A → A
if true a b = a
if false a b = b
