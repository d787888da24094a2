-- Checks one after the other, each passed or failed with a refusal.
use Rattle.std.specs.Prelude.{Result, Ok, Err}
use Rattle.vocabulary.specs.declared.refusal.Refusal.{Refusal}

-- what a check answers: nothing where it is passed, else the refusal
abbrev pub Check : Type 0
Check = Result (Unit {0}) Refusal

abbrev pub passed : Check
passed = Ok tt

-- the first of two checks that fails
abbrev pub both : Check → Check → Check
both (Ok ok) c = c
both (Err r) c = Err r
