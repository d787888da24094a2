-- A link of a chain of tests, by a test that holds, or does not.
use mathlib.Core.Path.{◌≡◌}
use mathlib.Core.Bool.{Bool, true, false}
use Rattle.vocabulary.specs.Branches.{if}

pub if_holds : {A : Type 0} (b : Bool) (a d x : A) → b ≡ true → x ≡ a → x ≡ if b a d
if_holds b a d x p q = rw p q

pub if_fails : {A : Type 0} (b : Bool) (a d x : A) → b ≡ false → x ≡ d → x ≡ if b a d
if_fails b a d x p q = rw p q
