-- What a whole run with its rounding returns and leaves.
use Rattle.std.specs.Prelude.{List, Result, Ok, Err, ℕ, eqb}
use Rattle.vocabulary.specs.declared.refusal.Refusal.{Refusal}
use Rattle.vocabulary.specs.Refusals.{number_of}
use Rattle.rules.specs.Lists.{if}
use Rattle.rules.specs.Choices.{Choice}
use Rattle.rules.specs.Rounding.{answers_rounded, follow_rounded}
use Rattle.rules.specs.Rounding as paper
use Rattle.rules.specs.RoundedRuns.{handed_on, figures_left}
use Rattle.tables.specs.State as tables
use Rattle.tables.specs.Calls.{memory_source}
use Rattle.opening.specs.Opened.{open_of}
use Rattle.rounding.specs.declared.run.Run.{Run}
use Rattle.rounding.specs.Runs.{run_of, without_rounding}
use Rattle.rounded_opening.specs.RoundedOpenings.{RoundedOpening, open_rounded_of}
use Rattle.whole_run.specs.Checksums.{checksum as checksum_of}

-- an opening without rounding: the figures stay
abbrev pub opened_plain : List ℕ → ℕ → List ℕ → List ℕ → RoundedOpening
opened_plain file workers m figures =
    record {
      returned = record { answer = (open_of file workers m).0.answer; run = without_rounding (open_of file workers m).0.state };
      memory = (open_of file workers m).1;
      figures = figures;
    }

-- "An opening may still go without rounding": that with base 0 does
unfoldable pub opened_with : List ℕ → ℕ → ℕ → ℕ → List ℕ → List ℕ → List ℕ → RoundedOpening
opened_with file workers pipe base m cells figures =
    if (eqb base 0) (opened_plain file workers m figures) (open_rounded_of file workers pipe base m cells figures)

-- a checksum, or the number of a refused opening; and the memory and the figures that are left
pub record WholeRun : Type 0 where
  pub told : ℕ
  pub memory : List ℕ
  pub figures : List ℕ

-- choices "with the same cells throughout and the figures handed on as left", their answers added to a checksum
unfoldable pub made_from : ℕ → paper.Run tables.State → List Choice → List ℕ → List ℕ → WholeRun
made_from sum r choices cells figures = record {
  told = checksum_of sum (answers_rounded memory_source r (handed_on memory_source cells r figures choices));
  memory = (follow_rounded memory_source r (handed_on memory_source cells r figures choices)).machine.source.1;
  figures = figures_left memory_source cells r figures choices;
}

-- after an opening with this answer and run, which left this memory and these figures
unfoldable pub whole_from : Result (Unit {0}) Refusal → Run → List ℕ → List ℕ → List Choice → List ℕ → WholeRun
whole_from (Err why) r m figures choices cells = record { told = number_of why; memory = m; figures = figures }
whole_from (Ok u) r m figures choices cells = made_from 0 (run_of r m) choices cells figures

abbrev pub whole_rounded : RoundedOpening → List Choice → List ℕ → WholeRun
whole_rounded o choices cells = whole_from o.returned.answer o.returned.run o.memory o.figures choices cells
