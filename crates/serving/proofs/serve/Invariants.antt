-- Serving what is left, from where it starts, gives what serving the text gives.
use Rattle.std.proofs.Common.{◌≡◌, ◌≤◌, ◌-◌, length}
use Rattle.answering.specs.Answers.{held_of}
use Rattle.serving.specs.Lines.{lines_in}
use Rattle.serving.specs.Serving.{served_from}
use Rattle.serving.proofs.serve.Given as goal

abbrev pub invariant-loop-line : goal.invariant-loop-line
invariant-loop-line l = record {
  within : length l.rest ≤ length l.text;
  turns : served_from l.file 0 (lines_in l.text) (held_of l.initial.now l.initial.mem l.cells l.initial.figures l.initial.out) ≡
      served_from l.file (length l.text - length l.rest) (lines_in l.rest) (held_of l.now l.mem l.cells l.figures l.out);
}

abbrev pub decreases-loop-line : goal.decreases-loop-line
decreases-loop-line l = length l.rest
