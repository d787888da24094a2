-- What the program does between one reading of its input and the next. Which bytes are read, and what a file holds, is not said.
use Rattle.std.specs.Prelude.{◌≡◌, true, false, List, ◌++◌, ℕ, ◌+◌, ◌≤◌, length, take, drop, replicate}
use Rattle.rules.specs.Lists.{has}
use Rattle.plan.specs.Reading.{read_of, reading_of}
use Rattle.sink.specs.Sinks.{put_each}
use Rattle.words.specs.Words.{up_to}
use Rattle.commands.specs.Commands.{command_of}
use Rattle.commands.specs.declared.RoundingAt.{RoundingAt}
use Rattle.commands.specs.declared.JournalAt.{JournalAt}
use Rattle.commands.specs.declared.Command.{Command}
use Rattle.commands.specs.declared.Command.TheVariants.{Plan, OpenRounded, Mark, Quit}
use Rattle.marking.specs.Marking.{mark_of}
use Rattle.journal_file.specs.Records.{records_in}
use Rattle.answering.specs.Lines.{reading_texts, marking_texts}
use Rattle.cells.specs.Cells.{cells_in}
use Rattle.answering.specs.Answers.{Held, held_of, opened_rounded_in}
use Rattle.serving.specs.Lines.{lines_in}
use Rattle.serving.specs.Serving.{for_program, served_from}
use Rattle.console.specs.declared.Console.{Console}
use Rattle.console.specs.Inputs.{Arrived, pending, input_from}
use Rattle.console.specs.Consoles.{finished, console_from, refused_long, written_out}

-- the buffers that are lent to the run: of its numbers, of its cells and of its figures
pub record Lent : Type 0 where
  pub memory : List ℕ
  pub cells : List ℕ
  pub figures : List ℕ

abbrev pub lent_of : List ℕ → List ℕ → List ℕ → Lent
lent_of memory cells figures = record { memory = memory; cells = cells; figures = figures }

-- the console with its buffers: of the plan file, those that are lent, of the input and of the output
pub record Whole : Type 0 where
  pub console : Console
  pub file : List ℕ
  pub lent : Lent
  pub buffer : List ℕ
  pub out : List ℕ

abbrev pub whole : Console → List ℕ → Lent → List ℕ → List ℕ → Whole
whole c file lent buffer out = record { console = c; file = file; lent = lent; buffer = buffer; out = out }

-- what a console holds with what is lent
abbrev pub holding : Console → Lent → List ℕ → Held
holding c lent out = held_of c.talk lent.memory lent.cells lent.figures out

-- the lines that are there, served; and the console then
abbrev pub served_of : Whole → ℕ × Held
served_of a =
    served_from (take a.console.size a.file) 0 (lines_in (pending a.console.input a.buffer)) (holding a.console a.lent a.out)

abbrev pub left_by : Console → ℕ × Held → Console
left_by c served = record {
  talk = record { run = served.1.run; lent = served.1.lent; sink = served.1.output.0 };
  size = c.size;
  input = input_from c.input (c.input.at + served.0);
  done = c.done;
}

-- the cells stay
abbrev pub lent_by : Lent → ℕ × Held → Lent
lent_by lent served = lent_of served.1.memory lent.cells served.1.figures

pub record Answered (a : Whole) (r : Console) (lent : Lent) (out : List ℕ) : Type 0 where
  pub served : ℕ × Held
  pub is_served : served ≡ served_of a
  pub console : r ≡ left_by a.console served
  pub lent_is : lent ≡ lent_by a.lent served
  pub output_is : out ≡ served.1.output.1

-- `plan PATH`: whatever the file was found to be, it is kept, and told by its line
pub record Planned (c : Console) (out : List ℕ) (r : Console) (file left : List ℕ) : Type 0 where
  pub size : r.size ≤ length file
  pub input : r.input ≡ c.input
  pub done : r.done ≡ c.done
  pub run : (r.talk.run ≡ c.talk.run) × (r.talk.lent ≡ c.talk.lent)
  pub output : (r.talk.sink, left) ≡ put_each (c.talk.sink, out) (reading_texts (reading_of (read_of (take r.size file))))

-- lent numbers for the run of a journal
unfoldable pub fresh_numbers : List ℕ
fresh_numbers = replicate 32768 0

-- `mark W PATH`: whatever journal the file was found to hold, of at most 131,074 records, it is marked for the kept plan in lent numbers
-- of its own, and told by its line; nothing else changes
pub record Marked (workers : ℕ) (c : Console) (file out : List ℕ) (r : Console) (left : List ℕ) : Type 0 where
  pub journal : List ℕ
  pub most : length journal ≤ 1441814
  pub size : r.size ≡ c.size
  pub input : r.input ≡ c.input
  pub done : r.done ≡ c.done
  pub run : (r.talk.run ≡ c.talk.run) × (r.talk.lent ≡ c.talk.lent)
  pub output : (r.talk.sink, left) ≡
      put_each (c.talk.sink, out) (marking_texts (mark_of (take c.size file) workers (records_in journal) fresh_numbers))

-- `open W PIPE BASE PATH`: whatever cells the file was found to hold, of at most 4,097, they come to the front of the console's cells; the
-- kept plan is opened with these and as many figures, and told by its line; nothing else changes
pub record Rounded (asked : RoundingAt) (c : Console) (file : List ℕ) (lent : Lent) (out : List ℕ) (r : Console) (lent' : Lent) (left : List ℕ) : Type 0 where
  pub found : List ℕ
  pub most : length found ≤ 16388
  pub cells : List ℕ
  pub cells_are : cells ≡ take (length lent.cells) (cells_in found)
  pub kept : lent'.cells ≡ cells ++ drop (length cells) lent.cells
  pub size : r.size ≡ c.size
  pub input : r.input ≡ c.input
  pub done : r.done ≡ c.done
  pub opened : holding r lent' left ≡
      opened_rounded_in (take c.size file) asked (length cells) (holding c (lent_of lent.memory lent'.cells lent.figures) out)

-- the console, the plan file, what is lent and the output are these
pub record Same (c : Console) (file : List ℕ) (lent : Lent) (out : List ℕ) (r : Console) (file' : List ℕ) (lent' : Lent) (out' : List ℕ) : Type 0 where
  pub console : r ≡ c
  pub plan : file' ≡ file
  pub lent_is : lent' ≡ lent
  pub output : out' ≡ out

-- what a line that was left to the program makes of them
pub data Obeyed (command : Command) (c : Console) (file : List ℕ) (lent : Lent) (out : List ℕ) (r : Console) (file' : List ℕ) (lent' : Lent) (out' : List ℕ) : Type 0 where
  own_plan : {start : ℕ} → command ≡ Plan start → Planned c out r file' out' → lent' ≡ lent → Obeyed command c file lent out r file' lent' out'
  own_opening : {asked : RoundingAt} → command ≡ OpenRounded asked → Rounded asked c file lent out r lent' out' → file' ≡ file →
      Obeyed command c file lent out r file' lent' out'
  own_mark : {journal : JournalAt} → command ≡ Mark journal → Marked journal.workers c file out r out' → file' ≡ file → lent' ≡ lent →
      Obeyed command c file lent out r file' lent' out'
  own_quit : command ≡ Quit → Same (finished c) file lent out r file' lent' out' → Obeyed command c file lent out r file' lent' out'
  not_own : for_program command ≡ false → Same c file lent out r file' lent' out' → Obeyed command c file lent out r file' lent' out'

-- no whole line is left: the input has ended, and nothing more is done; or what was answered is written out, and more is read
pub data Waited (c : Console) (buffer out : List ℕ) (r : Console) (buffer' out' : List ℕ) : Type 0 where
  over : c.input.ended ≡ true → r ≡ finished c → buffer' ≡ buffer → out' ≡ out → Waited c buffer out r buffer' out'
  reads : c.input.ended ≡ false → r ≡ written_out (refused_long c out).0 (refused_long c out).1 r.input → out' ≡ (refused_long c out).1 →
      Arrived (refused_long c out).0.input (pending (refused_long c out).0.input buffer) r.input buffer' → Waited c buffer out r buffer' out'

-- a turn: the lines that are there are served; then the next one, if there is one, is obeyed, and else the console waits
pub data Turned (a b : Whole) : Type 0 where
  next_line : (served : ℕ × Held) → served ≡ served_of a → has (pending (left_by a.console served).input a.buffer) 10 ≡ true →
      Obeyed (command_of (up_to 10 (pending (left_by a.console served).input a.buffer)))
      (console_from (left_by a.console served)
      ((left_by a.console served).input.at + length (up_to 10 (pending (left_by a.console served).input a.buffer)) + 1))
      a.file (lent_by a.lent served) served.1.output.1 b.console b.file b.lent b.out →
      b.buffer ≡ a.buffer → Turned a b
  no_line : (served : ℕ × Held) → served ≡ served_of a → has (pending (left_by a.console served).input a.buffer) 10 ≡ false →
      Waited (left_by a.console served) a.buffer served.1.output.1 b.console b.buffer b.out →
      b.lent ≡ lent_by a.lent served → b.file ≡ a.file → Turned a b

-- one turn after another
pub data Turns (a : Whole) : Whole → Type 0 where
  none : Turns a a
  then : {b c : Whole} → Turns a b → Turned b c → Turns a c
