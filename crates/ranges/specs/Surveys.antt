-- What a look over a state tells.
use Rattle.std.specs.Prelude.{Bool, Option, Some, None, List, [], ◌∷◌, ℕ, leb, ltb}
use Rattle.rules.specs.Lists.{if, must, all, every}
use Rattle.vocabulary.specs.declared.Slots.{Slots}
use Rattle.rules.specs.RunState.{slot_at}
use Rattle.rules.specs.Choices.{at_work}
use Rattle.rules.specs.Ranges.{counter_sound, sound}
use Rattle.tables.specs.State as tables
use Rattle.tables.specs.Calls.{memory_source}
use Rattle.state.specs.declared.Figures.{Figures}
use Rattle.ranges.specs.declared.Survey.{Survey}
use Rattle.state.specs.Machines.{machine_of, whole}
use Rattle.ranges.specs.RangeParts.{figures_sound, flag_sound}

-- the counters and the flags are within their ranges, for so many pipes and lines
unfoldable pub rows_sound : ℕ → ℕ → List Bool → List ℕ → Bool
rows_sound pipes lines serial counters =
    all (
    leb pipes 16 ∷ leb lines 32 ∷
    every 512 (counter_sound pipes lines serial counters) ∷
    every 16 (flag_sound pipes serial) ∷ [])

-- all numbers but those of the slots are within their ranges
unfoldable pub rest_sound : Figures → List ℕ → List ℕ → Bool
rest_sound f counters mem =
    all (
    figures_sound f ∷
    every 512 (counter_sound f.pipes f.lines f.serial counters) ∷
    every 16 (flag_sound f.pipes f.serial) ∷
    tables.sound_of (f.tables, mem) ∷ [])

-- a line that has a slot: the given one, or 0
unfoldable pub near : ℕ → ℕ
near line = if (ltb line 32) line 0

-- "14 if .. a number in state or memory is outside its range": nothing is told then, and else whether the chosen worker runs a line
-- and what the chosen line does
unfoldable pub survey_of : Figures → List ℕ → Slots → List ℕ → ℕ → ℕ → Option Survey
survey_of f counters slots mem worker line =
    must (sound memory_source (machine_of (whole f counters slots) mem)) None
    (Some (record { busy = at_work slots worker f.lines; slot = slot_at slots (near line) }))
