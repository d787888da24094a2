-- What the program prints of its choices, in texts (01, "The program").
use Rattle.std.specs.Prelude.{List, ℕ}
use Rattle.std.specs.List.{flat_map}
use Rattle.rules.specs.Choices.{Answer}
use Rattle.printing.specs.Texts.{answer_texts}

-- "Otherwise each choice prints a line"
unfoldable pub lines_of : List Answer → List (List ℕ)
lines_of = flat_map answer_texts
