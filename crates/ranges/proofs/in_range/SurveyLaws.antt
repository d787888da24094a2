-- What a look over a state tells its caller.
use mathlib.Core.Path.{◌≡◌, ap, sym, ◌∙◌}
use mathlib.Core.Bool.{Bool, true, false}
use mathlib.Core.List.{List}
use Prim.Native.Nat.{ℕ, ◌<◌}
use borrow.Author.Tests.{lt-ltb}
use Rattle.std.specs.Prelude.{Option, Some, None}
use Rattle.vocabulary.specs.declared.Slots.{Slots}
use Rattle.rules.specs.RunState.{slot_at}
use Rattle.rules.specs.Choices.{at_work}
use Rattle.rules.specs.Ranges.{sound}
use Rattle.rules.proofs.lists.Tests.{by_test}
use Rattle.tables.specs.Calls.{memory_source}
use Rattle.state.specs.declared.Figures.{Figures}
use Rattle.ranges.specs.declared.Survey.{Survey}
use Rattle.state.specs.Machines.{machine_of, whole}
use Rattle.ranges.specs.Surveys.{near, survey_of}

module _ (f : Figures) (counters : List ℕ) (slots : Slots) (mem : List ℕ) (worker line : ℕ) {r : Option Survey}
    (r_is : r ≡ survey_of f counters slots mem worker line) where
  abbrev sound_here : Bool
  sound_here = sound memory_source (machine_of (whole f counters slots) mem)

  -- nothing is told of a state that is not sound
  pub tells_none : r ≡ None → sound_here ≡ false
  unfolding survey_of
  tells_none e = by_test sound_here (λ ok. let told = rw ok at (sym e ∙ r_is) in cc) (λ no. no)

  module _ {seen : Survey} (e : r ≡ Some seen) where
    -- and what is told is of a sound one
    pub tells_sound : sound_here ≡ true
    unfolding survey_of
    tells_sound = by_test sound_here (λ ok. ok) (λ no. let told = rw no at (sym e ∙ r_is) in cc)

    told : seen ≡ record { busy = at_work slots worker f.lines; slot = slot_at slots (near line) }
    unfolding survey_of
    told = let some = rw tells_sound at (sym e ∙ r_is) in cc

    -- whether the chosen worker runs a line
    pub tells_busy : seen.busy ≡ at_work slots worker f.lines
    tells_busy = ap (λ s. s.busy) told

    -- what the chosen line does
    pub tells_slot : line < 32 → seen.slot ≡ slot_at slots line
    unfolding near
    tells_slot h = ap (λ s. s.slot) told ∙ rw (lt-ltb line 32 h)
