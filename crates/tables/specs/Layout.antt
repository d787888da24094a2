-- The layout of the lent memory (src/layout.rt says what each part holds), and what its numbers stand for.
use Rattle.std.specs.Prelude.{List, ℕ, take}

-- where the parts of the memory begin, after the records
abbrev pub positions_at : ℕ
positions_at = 12288

abbrev pub standing_at : ℕ
standing_at = 16384

abbrev pub deferred_at : ℕ
deferred_at = 20480

abbrev pub watches_at : ℕ
watches_at = 24576

abbrev pub ready_at : ℕ
ready_at = 28672

-- "32,768 lent 16-bit numbers"
abbrev pub lent : ℕ
lent = 32768

-- "N tokens (0 to 4,096)": so much room has each part that is by token
abbrev pub most_tokens : ℕ
most_tokens = 4096

-- "count (1 to 16)"
abbrev pub most_numbers : ℕ
most_numbers = 16

-- the standings: none of these, in the deferred table, in the ready queue now, has finished pipe 0
abbrev pub no_mark : ℕ
no_mark = 0

abbrev pub deferred_mark : ℕ
deferred_mark = 1

abbrev pub ready_mark : ℕ
ready_mark = 2

abbrev pub finished_mark : ℕ
finished_mark = 3

-- the part that holds the facts of the tokens: records, positions and standings
abbrev pub facts_of : List ℕ → List ℕ
facts_of m = take deferred_at m
