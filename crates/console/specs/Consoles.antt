-- The console, between what is read and what is written.
use Rattle.std.specs.Prelude.{true, false, List, [], ◌∷◌, ℕ, ◌-◌, ◌≤◌, ltb}
use Rattle.rules.specs.Lists.{must}
use Rattle.vocabulary.specs.declared.refusal.Refusal.TheVariants.{FileSize}
use Rattle.opening.specs.Opened.{refused_with}
use Rattle.rounding.specs.Runs.{without_rounding}
use Rattle.sink.specs.Sinks.{Output, written, flushed_of, put_of}
use Rattle.console.specs.declared.input.Input.{Input}
use Rattle.console.specs.declared.Console.{Console}
use Rattle.console.specs.Inputs.{Within, no_input, input_from, too_long}

-- the plan file is within its buffer, and the input within its own
pub record Kept (files inputs : ℕ) (c : Console) : Type 0 where
  pub size : c.size ≤ files
  pub input : Within inputs c.input

-- at first: an empty plan file, a state of zeros without rounding, nothing lent to it, and no input
abbrev pub begun : Console
begun = record {
  talk = record { run = without_rounding (refused_with FileSize).state; lent = 0; sink = written };
  size = 0;
  input = no_input;
  done = false;
}

-- nothing more is done
abbrev pub finished : Console → Console
finished c = record { talk = c.talk; size = c.size; input = c.input; done = true }

-- from another place of its input on
abbrev pub console_from : Console → ℕ → Console
console_from c at = record { talk = c.talk; size = c.size; input = input_from c.input at; done = c.done }

-- with `?` put, and the input passed over
abbrev pub refused_in : Console → Output → Console
refused_in c o = record {
  talk = record { run = c.talk.run; lent = c.talk.lent; sink = o.0 };
  size = c.size;
  input = too_long c.input;
  done = c.done;
}

-- a line of more than 8,191 bytes is answered by `?`, as soon as so many bytes are there without a newline
unfoldable pub refused_long : Console → List ℕ → Console × List ℕ
refused_long c out =
    must (ltb 8191 (c.input.end - c.input.at)) (c, out)
    (refused_in c (put_of (c.talk.sink, out) (63 ∷ 10 ∷ [])), (put_of (c.talk.sink, out) (63 ∷ 10 ∷ [])).1)

-- what waits is written out, and the input is another
abbrev pub written_out : Console → List ℕ → Input → Console
written_out c out i = record {
  talk = record { run = c.talk.run; lent = c.talk.lent; sink = flushed_of c.talk.sink out };
  size = c.size;
  input = i;
  done = c.done;
}
