-- What the program prints before and after the choices, in texts (01, "The program").
use Rattle.std.specs.Prelude.{Bool, List, [], ◌∷◌, ℕ, Result, Ok, Err}
use Rattle.rules.specs.Lists.{if}
use Rattle.vocabulary.specs.Refusals.{number_of}
use Rattle.vocabulary.specs.declared.refusal.Refusal.{Refusal}
use Rattle.printing.specs.Texts.{refusal_texts}

-- "A refused plan or opening prints `R n` only."
unfoldable pub opening_texts : Result (Unit {0}) Refusal → List (List ℕ)
opening_texts (Ok _) = []
opening_texts (Err why) = refusal_texts (number_of why)

-- "Last comes `E` if ended, else `O`."
unfoldable pub closing_texts : Bool → List (List ℕ)
closing_texts ended = if ended (69 ∷ 10 ∷ []) (79 ∷ 10 ∷ []) ∷ []
