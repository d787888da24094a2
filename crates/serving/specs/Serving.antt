-- Lines answered one after another.
use Rattle.std.specs.Prelude.{Bool, true, false, List, [], ◌∷◌, ℕ, ◌+◌, length}
use Rattle.rules.specs.Lists.{must_not}
use Rattle.commands.specs.Commands.{command_of}
use Rattle.commands.specs.declared.Command.{Command}
use Rattle.commands.specs.declared.Command.TheVariants.{Plan, Open, OpenRounded, Choose, Offer, Take, Mark, Figures, Sum, Ended, Quit, Unknown}
use Rattle.answering.specs.Answers.{Held, answered}

-- the commands that the program itself answers: it reads a file, or ends
abbrev pub for_program : Command → Bool
for_program (Plan start) = true
for_program (Open workers) = false
for_program (OpenRounded asked) = true
for_program (Choose choice) = false
for_program (Offer choice) = false
for_program (Take event) = false
for_program (Mark journal) = true
for_program Figures = false
for_program Sum = false
for_program Ended = false
for_program Quit = true
for_program Unknown = false

-- lines, each answered in turn, up to the first that is the program's own: where that starts, and the console then. The first line
-- starts at a place of the text, each other one behind the newline of the line before it
unfoldable pub served_from : List ℕ → ℕ → List (List ℕ) → Held → ℕ × Held
served_from file at [] c = (at, c)
served_from file at (line ∷ lines) c =
    must_not (for_program (command_of line)) (at, c)
    (served_from file (at + (length line + 1)) lines (answered file (command_of line) c))
