-- What is left of the choices leads on from the present run and output.
use Rattle.std.proofs.Common.{◌≡◌, length}
use Rattle.rules.specs.Choices.{choices_in, follow, answers}
use Rattle.tables.specs.Calls.{memory_source}
use Rattle.state.specs.Machines.{machine_of}
use Rattle.sink.specs.Sinks.{put_each}
use Rattle.feeding.specs.Printed.{lines_of}
use Rattle.feeding.proofs.feed.Given as goal

abbrev pub invariant-loop-left : goal.invariant-loop-left
invariant-loop-left l = record {
  run : follow memory_source (machine_of l.initial.now.state l.initial.mem) (choices_in l.choices) ≡
      follow memory_source (machine_of l.now.state l.mem) (choices_in l.left);
  output : put_each (l.initial.now.sink, l.initial.out) (lines_of (answers memory_source (machine_of l.initial.now.state l.initial.mem) (choices_in l.choices))) ≡
      put_each (l.now.sink, l.out) (lines_of (answers memory_source (machine_of l.now.state l.mem) (choices_in l.left)));
}

abbrev pub decreases-loop-left : goal.decreases-loop-left
decreases-loop-left l = length l.left
