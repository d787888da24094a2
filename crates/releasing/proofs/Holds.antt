-- What holds a token, and the one error, by the tests of the code.
use Rattle.std.proofs.Common.{◌≡◌, refl, Some, None, Result, Ok, Err, ℕ}
use Rattle.std.specs.Result.{IsErr, result_unwrap_or}
use Rattle.tables.specs.declared.Spoiled.{Spoiled}
use Rattle.tables.specs.Facts.{Hold, spoiled}

-- there is one error
pub one_error : {A : Type 0} {r : Result A Spoiled} → IsErr r → r ≡ Err spoiled
one_error {r = Ok x} h = cc
one_error {r = Err e} h = refl

-- a number, or none: then nothing holds it, or its record is bad
pub by_number : (h : Hold) {n : ℕ} → result_unwrap_or h None ≡ Some n → h ≡ Ok (Some n)
by_number (Err e) told = cc
by_number (Ok o) told = cc

pub by_none : {C : Type 0} (h : Hold) → result_unwrap_or h None ≡ None → (h ≡ Ok None → C) → (h ≡ Err spoiled → C) → C
by_none (Err e) told f g = g refl
by_none (Ok o) told f g = f cc
