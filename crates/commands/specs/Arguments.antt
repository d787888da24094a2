-- Several numbers in a row, one a word (docs/CONSOLE.md): neither fewer words nor more.
use Rattle.std.specs.Prelude.{List, [], ◌∷◌, ℕ, Option, Some, None}
use Rattle.words.specs.Words as words
use Rattle.words.specs.Numbers.{short_of}
use Rattle.vocabulary.specs.declared.event.Step.{Step}
use Rattle.commands.specs.declared.numbers.Two.{Two}

-- a space, and the words of a text with single spaces between them
abbrev pub space : ℕ
space = 32

abbrev pub words_in : List ℕ → List (List ℕ)
words_in text = words.words_in space text

-- two numbers, if both are
abbrev pub pair_of : Option ℕ → Option ℕ → Option Two
pair_of (Some a) (Some b) = Some (record { first = a; second = b })
pair_of (Some a) None = None
pair_of None second = None

-- two words that are numbers
unfoldable pub pair_in : List (List ℕ) → Option Two
pair_in [] = None
pair_in (a ∷ []) = None
pair_in (a ∷ b ∷ []) = pair_of (short_of a) (short_of b)
pair_in (a ∷ b ∷ c ∷ more) = None

-- line and pipe, token and place, and worker, if all are numbers
abbrev pub step_of : Option Two → Option Two → Option ℕ → Option Step
step_of (Some a) (Some b) (Some w) =
    Some (record { line = record { 0 = a.first }; pipe = record { 0 = a.second }; token = record { 0 = b.first }; place = record { 0 = b.second }; worker = record { 0 = w } })
step_of (Some a) (Some b) None = None
step_of (Some a) None worker = None
step_of None order worker = None

-- five words that are numbers: line, pipe, token, place and worker
unfoldable pub step_in : List (List ℕ) → Option Step
step_in [] = None
step_in (l ∷ []) = None
step_in (l ∷ p ∷ []) = None
step_in (l ∷ p ∷ t ∷ []) = None
step_in (l ∷ p ∷ t ∷ k ∷ []) = None
step_in (l ∷ p ∷ t ∷ k ∷ w ∷ []) = step_of (pair_of (short_of l) (short_of p)) (pair_of (short_of t) (short_of k)) (short_of w)
step_in (l ∷ p ∷ t ∷ k ∷ w ∷ x ∷ more) = None
