-- The numbers so far are put, one after another.
use Rattle.std.proofs.Common.{◌≡◌, take}
use Rattle.sink.specs.Sinks.{put_each}
use Rattle.printing.specs.Texts.{numbers_texts_by}
use Rattle.printing.proofs.line.put_numbers.Given as goal

abbrev pub invariant-loop-n : goal.invariant-loop-n
invariant-loop-n g l =
    (l.said, l.out) ≡ put_each (l.initial.said, l.initial.out) (numbers_texts_by g.N.Integer.text (take l.n-index l.numbers))
