-- One turn after another.
use Rattle.std.proofs.Common.{◌≡◌, length}
use Rattle.console.specs.Consoles.{Kept}
use Rattle.console.specs.Turns.{Turns, whole, lent_of}
use Rattle.console.proofs.run.Given as goal

abbrev pub invariant-loop : goal.invariant-loop
invariant-loop l = record {
  file : length l.file ≡ length l.initial.file;
  buffer : length l.buffer ≡ length l.initial.buffer;
  kept : Kept (length l.file) (length l.buffer) l.now;
  turns : Turns (whole l.initial.now l.initial.file (lent_of l.initial.mem l.initial.cells l.initial.figures) l.initial.buffer l.initial.out)
      (whole l.now l.file (lent_of l.mem l.cells l.figures) l.buffer l.out);
}
