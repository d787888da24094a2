-- What holds a token, and the one error, by the tests of the code.
use Rattle.std.proofs.Common.{◌≡◌, refl, Bool, true, false, not, Option, Some, None, Result, Ok, Err, ℕ}
use Rattle.std.specs.Prelude.{unwrap_or}
use Rattle.std.specs.Option.{is_some}
use Rattle.std.specs.Result.{IsErr, result_unwrap_or}
use Rattle.tables.specs.declared.Spoiled.{Spoiled}
use Rattle.tables.specs.Facts.{Hold, spoiled, by_hold}

-- there is one error
pub one_error : {A : Type 0} {r : Result A Spoiled} → IsErr r → r ≡ Err spoiled
one_error {r = Ok x} h = cc
one_error {r = Err e} h = refl

-- nothing holds it
pub none_is : {o : Option ℕ} {b : Bool} → is_some o ≡ not b → b ≡ true → o ≡ None
none_is {o = None} told e = refl
none_is {o = Some n} told e = let z : true ≡ false = rw e at told in cc

-- a number does, whichever
pub held_is : {A : Type 0} (o : Option ℕ) {b : Bool} (x y z : A) → is_some o ≡ not b → b ≡ false → by_hold (Ok o) x y (λ n. z) ≡ z
held_is None x y z told e = let q : false ≡ true = rw e at told in cc
held_is (Some n) x y z told e = refl

-- the number, or 0
pub number_or : (h : Hold) → unwrap_or (result_unwrap_or h None) 0 ≡ by_hold h 0 0 (λ n. n)
number_or (Err e) = refl
number_or (Ok None) = refl
number_or (Ok (Some n)) = refl
