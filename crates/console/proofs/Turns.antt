-- A turn of the program, case by case.
use mathlib.Core.Path.{◌≡◌, refl, sym, ap, ◌∙◌}
use mathlib.Core.Bool.{true, false}
use mathlib.Core.List.{List, ◌++◌}
use Prim.Native.Nat.{ℕ, ◌+◌, ◌-◌, ◌≤◌}
use native.Mathlib.Omega.{arith}
use lib.ListN.{length, take, drop}
use lib.Seq.{take-take}
use Rattle.rules.specs.Lists.{has}
use Rattle.sink.specs.declared.Sink.{Sink}
use Rattle.sink.specs.Sinks.{flushed_of}
use Rattle.words.specs.Words.{up_to}
use Rattle.words.proofs.Walks.{up_to_is}
use Rattle.commands.specs.Commands.{command_of}
use Rattle.commands.specs.declared.RoundingAt.{RoundingAt}
use Rattle.commands.specs.declared.Command.{Command}
use Rattle.cells.specs.Cells.{cells_in}
use Rattle.answering.specs.declared.Talk.{Talk}
use Rattle.answering.specs.Answers.{held_of, opened_rounded_in}
use Rattle.serving.specs.Serving.{for_program}
use Rattle.serving.proofs.Cutting.{served_own_line}
use Rattle.console.specs.declared.input.Input.{Input}
use Rattle.console.specs.declared.Console.{Console}
use Rattle.console.specs.Inputs.{WholeLine, Arrived, pending}
use Rattle.console.specs.Consoles.{console_from, refused_long}
use Rattle.console.specs.Turns.{Lent, lent_of, Rounded, Whole, whole, holding, served_of, left_by, Answered, Obeyed, Waited, reads, Turned, next_line, no_line}
use Rattle.console.proofs.Inputs.{pending_from}

-- the same line, obeyed by the same console; and the same wait
module _ {c d : Console} {out before : List ℕ} {r : Console} {rest after : List ℕ} where
  pub obeyed_as : {command made : Command} {file : List ℕ} {lent was left : Lent} → made ≡ command → d ≡ c → was ≡ lent → before ≡ out →
      Obeyed command c file lent out r rest left after → Obeyed made d file was before r rest left after
  obeyed_as e f l g o = rw (e, f, l, g) o

  waited_as : {buffer : List ℕ} → d ≡ c → before ≡ out → Waited c buffer out r rest after → Waited d buffer before r rest after
  waited_as f g w = rw (f, g) w

-- a line is not the program's own by its kind
pub others : {command made : Command} → command ≡ made → for_program made ≡ false → for_program command ≡ false
others e f = ap for_program e ∙ f

-- a run opened with the cells of a file
pub rounded_as : (asked : RoundingAt) (c : Console) (file : List ℕ) (lent : Lent) (out found : List ℕ) → length found ≤ 16388 →
    {n : ℕ} → n ≡ length (take (length lent.cells) (cells_in found)) →
    {memory cells figures left : List ℕ} {talk : Talk} → cells ≡ take (length lent.cells) (cells_in found) ++ drop n lent.cells →
    held_of talk memory cells figures left ≡ opened_rounded_in (take c.size file) asked n (held_of c.talk lent.memory cells lent.figures out) →
    Rounded asked c file lent out (record { talk = talk; size = c.size; input = c.input; done = c.done }) (lent_of memory cells figures) left
rounded_as asked c file lent out found most n-is {memory} {cells} kept opened = record {
  found = found;
  most = most;
  cells = take (length lent.cells) (cells_in found);
  cells_are = refl;
  kept = kept ∙ ap (λ n. take (length lent.cells) (cells_in found) ++ drop n lent.cells) n-is;
  size = refl;
  input = refl;
  done = refl;
  opened = opened ∙ ap (λ n. opened_rounded_in (take c.size file) asked n (held_of c.talk lent.memory cells lent.figures out)) n-is;
}

-- a console that reads more
pub waited_reads : (c : Console) (buffer out : List ℕ) {left : Console} {out' : List ℕ} → (left, out') ≡ refused_long c out → c.input.ended ≡ false →
    {sink : Sink} {i : Input} {buffer' : List ℕ} → sink ≡ flushed_of left.talk.sink out' →
    Arrived left.input (pending left.input buffer) i buffer' →
    Waited c buffer out (record { talk = record { run = left.talk.run; lent = left.talk.lent; sink = sink }; size = left.size; input = i; done = left.done }) buffer' out'
waited_reads c buffer out e f s a = reads f (rw (← e, s)) (rw (← e)) (rw (← e) a)

-- a turn
module _ {c : Console} {file : List ℕ} {lent : Lent} (buffer : List ℕ) {out : List ℕ} {left : Console} {lent' : Lent} {out' : List ℕ}
    (a : Answered (whole c file lent buffer out) left lent' out') where
  abbrev text : Console → List ℕ
  text x = pending x.input buffer

  pub turned_wait : has (text left) 10 ≡ false → {r : Console} {buffer' after : List ℕ} → Waited left buffer out' r buffer' after →
      Turned (whole c file lent buffer out) (whole r file lent' buffer' after)
  turned_wait none o =
      no_line a.served a.is_served (ap (λ (x : Console). has (text x) 10) (sym a.console) ∙ none)
      (waited_as (sym a.console) (sym a.output_is) o) a.lent_is refl

  pub turned_line : {size : ℕ} → WholeLine left.input buffer size → {r : Console} {file' : List ℕ} {lent'' : Lent} {after : List ℕ} →
      Obeyed (command_of (take size (drop left.input.at buffer))) (console_from left (left.input.at + size + 1)) file lent' out' r file' lent'' after →
      Turned (whole c file lent buffer out) (whole r file' lent'' buffer after)
  turned_line {size} first o =
      let fits : size ≤ left.input.end - left.input.at = omega (arith, first.within) in
      let line : up_to 10 (text left) ≡ take size (drop left.input.at buffer) = sym (up_to_is 10 (text left)) ∙
      ap (λ n. take n (text left)) (sym first.size_is) ∙ take-take size (left.input.end - left.input.at) (drop left.input.at buffer) fits in
      next_line a.served a.is_served (ap (λ (x : Console). has (text x) 10) (sym a.console) ∙ first.some)
      (obeyed_as (ap (λ (x : Console). command_of (up_to 10 (text x))) (sym a.console) ∙ ap command_of line)
      (ap (λ (x : Console). console_from x (x.input.at + length (up_to 10 (text x)) + 1)) (sym a.console) ∙
      ap (λ n. console_from left (left.input.at + n + 1)) (sym first.size_is)) (sym a.lent_is) (sym a.output_is) o) refl

-- a whole line that is left is the program's own: none is passed over without an answer
pub left_is_own : (a : Whole) → has (pending (left_by a.console (served_of a)).input a.buffer) 10 ≡ true →
    for_program (command_of (up_to 10 (pending (left_by a.console (served_of a)).input a.buffer))) ≡ true
left_is_own a h =
    let text : List ℕ = pending a.console.input a.buffer in
    let left : pending (left_by a.console (served_of a)).input a.buffer ≡ drop (served_of a).0 text = pending_from a.console.input a.buffer (served_of a).0 in
    ap (λ t. for_program (command_of (up_to 10 t))) left ∙
    served_own_line (take a.console.size a.file) text (holding a.console a.lent a.out) (ap (λ t. has t 10) (sym left) ∙ h)
