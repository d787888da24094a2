-- The console's commands (docs/CONSOLE.md): what a line asks for. A line that is none of them asks for nothing, and is answered by `?`.
use Rattle.std.specs.Prelude.{Bool, List, [], ◌∷◌, ℕ, ◌+◌, ◌-◌, leb, length, Option, Some, None, option_map, unwrap_or}
use Rattle.rules.specs.Lists.{if, must, within, has}
use Rattle.words.specs.Words.{up_to, past, same}
use Rattle.words.specs.Numbers.{short_of}
use Rattle.vocabulary.specs.declared.event.Stop.{Stop}
use Rattle.vocabulary.specs.declared.event.Event.{Event}
use Rattle.commands.specs.declared.Choice.{Choice}
use Rattle.commands.specs.declared.RoundingAt.{RoundingAt}
use Rattle.commands.specs.declared.JournalAt.{JournalAt}
use Rattle.commands.specs.declared.Command.{Command}
use Rattle.commands.specs.declared.Command.TheVariants.{Plan, Open, OpenRounded, Choose, Offer, Take, Mark, Figures, Sum, Ended, Quit, Unknown}
use Rattle.commands.specs.Arguments.{space, words_in, pair_in, step_in}

-- the commands' words: `figures`, `sum`, `ended`, `quit`, `plan`, `open`, `choose`, `offer`, `take`, `mark`, and the kinds of events, `S`, `F`, `X`
abbrev pub figures_word : List ℕ
figures_word = 102 ∷ 105 ∷ 103 ∷ 117 ∷ 114 ∷ 101 ∷ 115 ∷ []

abbrev pub sum_word : List ℕ
sum_word = 115 ∷ 117 ∷ 109 ∷ []

abbrev pub ended_word : List ℕ
ended_word = 101 ∷ 110 ∷ 100 ∷ 101 ∷ 100 ∷ []

abbrev pub quit_word : List ℕ
quit_word = 113 ∷ 117 ∷ 105 ∷ 116 ∷ []

abbrev pub plan_word : List ℕ
plan_word = 112 ∷ 108 ∷ 97 ∷ 110 ∷ []

abbrev pub open_word : List ℕ
open_word = 111 ∷ 112 ∷ 101 ∷ 110 ∷ []

abbrev pub choose_word : List ℕ
choose_word = 99 ∷ 104 ∷ 111 ∷ 111 ∷ 115 ∷ 101 ∷ []

abbrev pub offer_word : List ℕ
offer_word = 111 ∷ 102 ∷ 102 ∷ 101 ∷ 114 ∷ []

abbrev pub take_word : List ℕ
take_word = 116 ∷ 97 ∷ 107 ∷ 101 ∷ []

abbrev pub mark_word : List ℕ
mark_word = 109 ∷ 97 ∷ 114 ∷ 107 ∷ []

abbrev pub started_word : List ℕ
started_word = 83 ∷ []

abbrev pub finished_word : List ℕ
finished_word = 70 ∷ []

abbrev pub stopped_word : List ℕ
stopped_word = 88 ∷ []

-- a command of one word
unfoldable pub alone_of : List ℕ → Option Command
alone_of word =
    if (same word figures_word) (Some Figures)
    (if (same word sum_word) (Some Sum)
    (if (same word ended_word) (Some Ended)
    (if (same word quit_word) (Some Quit)
    None)))

-- a path has 1 to 4,095 bytes
unfoldable pub is_path : List ℕ → Bool
is_path text = within 1 4095 (length text)

-- `plan PATH`: the path is the rest of the line, which starts there; spaces are allowed in it
unfoldable pub plan_of : ℕ → List ℕ → Option Command
plan_of start path = must (is_path path) None (Some (Plan start))

-- `open W`
unfoldable pub plain_of : List ℕ → Option Command
plain_of word = option_map Open (short_of word)

-- an opening with rounding, if W, PIPE and BASE are numbers; its path starts there
abbrev pub rounded_at : ℕ → Option ℕ → Option ℕ → Option ℕ → Option RoundingAt
rounded_at start (Some w) (Some p) (Some b) = Some (record { workers = w; pipe = record { 0 = p }; base = b; start = start })
rounded_at start (Some w) (Some p) None = None
rounded_at start (Some w) None base = None
rounded_at start None pipe base = None

-- `open W PIPE BASE PATH`: the numbers are the first three words; the path is what follows their spaces, as `plan` has it, and ends with
-- the text
unfoldable pub rounded_of : ℕ → List ℕ → Option RoundingAt
rounded_of start text =
    let fromPipe : List ℕ = past space text in
    let fromBase : List ℕ = past space fromPipe in
    let path : List ℕ = past space fromBase in
    must (is_path path) None
    (rounded_at (start + (length text - length path)) (short_of (up_to space text)) (short_of (up_to space fromPipe)) (short_of (up_to space fromBase)))

-- what follows `open`: with no space in it, it is W
unfoldable pub open_of : ℕ → List ℕ → Option Command
open_of start text = must (has text space) (plain_of text) (option_map OpenRounded (rounded_of start text))

-- a worker and a line
unfoldable pub choice_in : List (List ℕ) → Option Choice
choice_in arguments = option_map (λ two. record { worker = record { 0 = two.first }; line = record { 0 = two.second } }) (pair_in arguments)

-- `choose WORKER LINE`
abbrev pub choose_of : List (List ℕ) → Option Command
choose_of arguments = option_map Choose (choice_in arguments)

-- `offer WORKER LINE`
abbrev pub offer_of : List (List ℕ) → Option Command
offer_of arguments = option_map Offer (choice_in arguments)

-- a stop, by its line and its worker
unfoldable pub stop_in : List (List ℕ) → Option Stop
stop_in numbers = option_map (λ two. record { line = record { 0 = two.first }; worker = record { 0 = two.second } }) (pair_in numbers)

-- an event by the word of its kind, and its numbers: `S l p t k w`, `F l p t k w` or `X l w`
unfoldable pub event_of : List ℕ → List (List ℕ) → Option Event
event_of kind numbers =
    if (same kind started_word) (option_map Event.Started (step_in numbers))
    (if (same kind finished_word) (option_map Event.Finished (step_in numbers))
    (if (same kind stopped_word) (option_map Event.Stopped (stop_in numbers))
    None))

-- what follows `take`
unfoldable pub event_in : List (List ℕ) → Option Event
event_in [] = None
event_in (kind ∷ numbers) = event_of kind numbers

-- `mark W PATH`: W is the first word; the path is what follows its space, as `plan` has it
unfoldable pub mark_of : ℕ → List ℕ → Option JournalAt
mark_of start text =
    must (is_path (past space text)) None
    (option_map (λ w. record { workers = w; start = start + (length (up_to space text) + 1) }) (short_of (up_to space text)))

-- a command with arguments: its first word, where the rest of the line starts, and that rest
unfoldable pub arguments_of : List ℕ → ℕ → List ℕ → Option Command
arguments_of word start rest =
    if (same word plan_word) (plan_of start rest)
    (if (same word open_word) (open_of start rest)
    (if (same word choose_word) (choose_of (words_in rest))
    (if (same word offer_word) (offer_of (words_in rest))
    (if (same word take_word) (option_map Take (event_in (words_in rest)))
    (if (same word mark_word) (option_map Mark (mark_of start rest))
    None)))))

-- a line that is a command: it has at most 8,191 bytes; its first word ends at its first space
unfoldable pub asked_of : List ℕ → Option Command
asked_of line =
    must (leb (length line) 8191) None
    (must (has line space) (alone_of line)
    (arguments_of (up_to space line) (length (up_to space line) + 1) (past space line)))

-- what a line asks for
unfoldable pub command_of : List ℕ → Command
command_of line = unwrap_or (asked_of line) Unknown
