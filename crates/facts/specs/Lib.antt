-- What a closure answers.
use Rattle.std.specs.Prelude.{◌≡◌, Bool, ℕ}

-- each call, of which `post` says what it may give, answers what a test does
abbrev pub Answers : (ℕ → Bool → Type 0) → (ℕ → Bool) → Type 0
Answers post test = (n : ℕ) (b : Bool) → post n b → b ≡ test n
