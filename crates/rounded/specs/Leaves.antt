-- What rounding says of a choice before it is made: by what the line that it names is doing.
use Rattle.std.specs.Prelude.{Bool, List, [], ◌∷◌, Result, Ok, Err, ℕ, leb, ltb, eqb, length}
use Rattle.vocabulary.specs.declared.Slots.{Slots}
use Rattle.vocabulary.specs.declared.refusal.Refusal.{Refusal}
use Rattle.vocabulary.specs.Refusals.{number_of}
use Rattle.rules.specs.Lists.{must, must_not, all}
use Rattle.rules.specs.RunState.{slot_at}
use Rattle.rules.specs.Choices.{Answer, Refused}
use Rattle.rules.specs.Offers.{is_refused}
use Rattle.rules.specs.Rounding.{sum_most, Rounding, cells_fit, lent_count, Passing, NonePasses, sum_after}
use Rattle.state.specs.Machines.{slots_of}
use Rattle.rounding.specs.declared.run.Run.{Run}
use Rattle.rounding.specs.Roundings.{rounding_of}
use Rattle.rounding.specs.Settlings.{passer}

-- whose cell passes if the line acts: a line that runs finishes its pipe, any other passes none
unfoldable pub passer_at : Rounding → Slots → ℕ → Passing
passer_at r slots l =
    must (ltb l 32) NonePasses
    (must (slot_at slots l).running NonePasses
    (passer r (slot_at slots l).pipe.0 (slot_at slots l).token.0))

-- as many cells and figures as there should be, and no cell too large: `lent_fits`, by how many figures there are
unfoldable pub fits_by : ℕ → Rounding → List ℕ → ℕ → Bool
fits_by tokens r cells figures =
    all (eqb (length cells) (lent_count tokens r) ∷ eqb figures (lent_count tokens r) ∷ cells_fit cells ∷ [])

-- "in a choice 18 comes after all its own checks, then 14 if T would pass 4,096,000,000": leave, or the refusal
unfoldable pub leave_of : Bool → Bool → Result (Unit {0}) Refusal
leave_of fits stays =
    must fits (Err Refusal.Lent)
    (must stays (Err Refusal.Spoiled)
    (Ok tt))

-- of a run and the line that is named
abbrev pub leave_for : Run → List ℕ → ℕ → ℕ → Result (Unit {0}) Refusal
leave_for run cells figures l =
    let r : Rounding = rounding_of run.rounding in
    leave_of (fits_by run.state.tables.tokens r cells figures) (leb (sum_after r cells (passer_at r (slots_of run.state) l)) sum_most)

-- what a choice answers that would answer this without rounding: its own refusal comes first
abbrev pub told_by : Result (Unit {0}) Refusal → Answer → Answer
told_by (Ok u) own = own
told_by (Err why) own =
    must_not (is_refused own) own
    (Refused (number_of why))
