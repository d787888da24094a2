-- The kinds of pipes (01, "The plan file" and "Choices and join counters").
use Rattle.std.specs.Prelude.{Bool, true, false, ℕ, eqb, Result, Ok, Err}
use Rattle.vocabulary.specs.Branches.{if}
use Rattle.vocabulary.specs.declared.pipe_kind.PipeKind.{PipeKind}
use Rattle.vocabulary.specs.declared.pipe_kind.PipeKind.TheVariants.{Serial, Parallel}
use Rattle.vocabulary.specs.declared.refusal.Refusal.{Refusal}
use Rattle.vocabulary.specs.declared.refusal.Refusal.TheVariants.{Pipes}

-- "83 serial, 80 parallel": the file byte of a kind
abbrev pub byte_of : PipeKind → ℕ
byte_of Serial = 83
byte_of Parallel = 80

-- what a file byte says of a pipe: its kind, if it is the byte of one; "a pipe byte other than 83 or 80" is refused with 4
abbrev pub pipe_of : ℕ → Result PipeKind Refusal
pipe_of b = if (eqb b 83) (Ok Serial) (if (eqb b 80) (Ok Parallel) (Err Pipes))

-- the kind that a byte stands for, where it stands for one
abbrev pub kind_of : ℕ → PipeKind
kind_of b = if (eqb b 83) Serial Parallel

-- whether it stands for a kind
abbrev pub is_known : Result PipeKind Refusal → Bool
is_known (Ok k) = true
is_known (Err why) = false

-- "Its full value is 2 for a serial pipe, 1 for a parallel one."
abbrev pub full_of : PipeKind → ℕ
full_of Serial = 2
full_of Parallel = 1

-- the kind of a pipe that is serial, or is not
abbrev pub kind_if : Bool → PipeKind
kind_if true = Serial
kind_if false = Parallel

-- whether a kind is serial
abbrev pub serial_kind : PipeKind → Bool
serial_kind Serial = true
serial_kind Parallel = false
