-- The calls: what they return is the rules' choice, offer or taking, by what the functions that they call ensure.
use mathlib.Core.Path.{◌≡◌, sym, ap, ◌∙◌}
use mathlib.Core.Bool.{Bool, true, false}
use mathlib.Core.List.{List}
use Prim.Native.Nat.{ℕ}
use lib.ListN.{length}
use Rattle.std.specs.Prelude.{Result, Ok, Err}
use Rattle.vocabulary.specs.declared.event.Event.{Event}
use Rattle.vocabulary.specs.declared.event.EventRecord.{EventRecord}
use Rattle.vocabulary.specs.Events.{event_record}
use Rattle.vocabulary.specs.declared.refusal.Refusal.{Refusal}
use Rattle.vocabulary.specs.Refusals.{number_of}
use Rattle.rules.specs.Answers.{answer_of}
use Rattle.rules.specs.Choices.{choose}
use Rattle.rules.specs.Offers.{only_if, take_record}
use Rattle.rules.specs.Rounding.{Lending, RoundedChosen, rounding_sound, choose_rounded}
use Rattle.rules.specs.Rounding as paper
use Rattle.rules.specs.RoundedOffers.{as_handed, take_record_rounded, take_rounded}
use Rattle.tables.specs.State as tables
use Rattle.tables.specs.Calls.{memory_source}
use Rattle.state.specs.Machines.{machine_of}
use Rattle.engine.specs.declared.Chosen as engine
use Rattle.engine.specs.Machines.{chosen_of as chosenBy}
use Rattle.rounding.specs.declared.run.Run.{Run}
use Rattle.rounding.specs.Roundings.{rounding_of, rounding_fits}
use Rattle.rounding.specs.Runs.{run_of}
use Rattle.rounding.specs.Settlings.{settle_by}
use Rattle.rounded.specs.declared.Chosen.{Chosen}
use Rattle.rounded.specs.Leaves.{leave_for, leave_of, told_by}
use Rattle.rounded.specs.Runs.{lent, chosen_of, joined}
use Rattle.rounded.proofs.LeaveLaws.{fits_by_lem, with_leave}
use Rattle.rounded.proofs.ChoiceLaws.{ranged, unranged, fitting, shown_stays, leave_checks, leave_given, leave_refused, whole_choice, whole_taking, taken_refused, offer_told}

module _ (run : Run) (mem cells figures : List ℕ) where
  abbrev here : paper.Run tables.State
  here = run_of run mem

  -- a call that is refused before anything is asked
  abbrev spoilt : Chosen
  spoilt = record { answer = Err Refusal.Spoiled; run = run }

  module _ (w l : ℕ) where
    -- what rounding says, of the rules' run
    leave_there : {leave : Result (Unit {0}) Refusal} → leave ≡ leave_for run cells (length figures) l →
        leave ≡ leave_of (fitting memory_source here (lent w l cells figures)) (shown_stays memory_source here (lent w l cells figures))
    unfolding run_of machine_of
    leave_there e =
        e ∙ ap (λ f. leave_of f (shown_stays memory_source here (lent w l cells figures))) (fits_by_lem run.state.tables.tokens (rounding_of run.rounding) cells figures)

    module _ {b : Bool} (b_is : b ≡ rounding_fits run.state.pipes run.state.serial (rounding_of run.rounding)) where
      pub spoiled_choice : b ≡ false → chosen_of spoilt mem figures ≡ choose_rounded memory_source here (lent w l cells figures)
      unfolding chosen_of answer_of run_of machine_of
      spoiled_choice e = sym (unranged memory_source here (lent w l cells figures) (sym b_is ∙ e))

      module _ (ok : b ≡ true) where
        in_range : rounding_sound here.machine.pipes here.machine.serial here.rounding ≡ true
        unfolding run_of machine_of
        in_range = ranged _ _ _ (sym b_is ∙ ok)

        module _ {leave : Result (Unit {0}) Refusal} (leave-is : leave ≡ leave_for run cells (length figures) l) where
          pub offered : (own told : Result Event Refusal) → answer_of own ≡ (choose memory_source (machine_of run.state mem) w l).answer →
              answer_of told ≡ told_by leave (answer_of own) → answer_of told ≡ (choose_rounded memory_source here (lent w l cells figures)).answer
          unfolding run_of
          offered own told own_is told_is =
              told_is ∙ ap (told_by leave) own_is ∙ offer_told memory_source here (lent w l cells figures) in_range (leave_there leave-is)

          pub chosen : (k : engine.Chosen) (mem' : List ℕ) →
              chosenBy k mem' ≡ with_leave (machine_of run.state mem) leave (choose memory_source (machine_of run.state mem) w l) →
              (c : Chosen) (figures' : List ℕ) →
              chosen_of c mem' figures' ≡ joined (chosenBy k mem') (rounding_of run.rounding) (settle_by (rounding_of run.rounding) (answer_of k.answer) cells figures) →
              chosen_of c mem' figures' ≡ choose_rounded memory_source here (lent w l cells figures)
          unfolding run_of chosenBy
          chosen k mem' k-is c figures' c-is =
              c-is ∙ whole_choice memory_source here (lent w l cells figures) in_range
              (k-is ∙ leave_checks memory_source here (lent w l cells figures) (leave_there leave-is))

  -- the taking of a record
  module _ (e : EventRecord) (n : ℕ) {b : Bool} (b_is : b ≡ rounding_fits run.state.pipes run.state.serial (rounding_of run.rounding)) where
    abbrev a : Lending
    a = lent e.worker e.line cells figures

    pub spoiled_taking : b ≡ false → chosen_of spoilt mem figures ≡ take_record_rounded memory_source here e cells figures n
    unfolding chosen_of answer_of run_of machine_of
    spoiled_taking q = sym (taken_refused memory_source here e cells figures n (unranged memory_source here a (sym b_is ∙ q)))

    module _ (ok : b ≡ true) {leave : Result (Unit {0}) Refusal} (leave-is : leave ≡ leave_for run cells (length figures) e.line)
        (k : engine.Chosen) (mem' : List ℕ) (c : Chosen) (figures' : List ℕ)
        (c-is : chosen_of c mem' figures' ≡ joined (chosenBy k mem') (rounding_of run.rounding) (settle_by (rounding_of run.rounding) (answer_of k.answer) cells figures)) where
      pub taken : {u : Unit {0}} → leave ≡ Ok u → chosenBy k mem' ≡ take_record memory_source (machine_of run.state mem) e n →
          chosen_of c mem' figures' ≡ take_record_rounded memory_source here e cells figures n
      unfolding run_of chosenBy
      taken given k-is =
          c-is ∙ whole_taking memory_source here e cells figures n (in_range e.worker e.line b_is ok)
          (k-is ∙ leave_given memory_source here a (leave_there e.worker e.line leave-is) (as_handed memory_source here e cells figures) n given)

      pub turned_down : {why : Refusal} → leave ≡ Err why →
          chosenBy k mem' ≡ only_if (machine_of run.state mem) false (number_of why) (choose memory_source (machine_of run.state mem) e.worker e.line) →
          chosen_of c mem' figures' ≡ take_record_rounded memory_source here e cells figures n
      unfolding run_of chosenBy
      turned_down refused k-is =
          c-is ∙ whole_taking memory_source here e cells figures n (in_range e.worker e.line b_is ok)
          (k-is ∙ leave_refused memory_source here a (leave_there e.worker e.line leave-is) (as_handed memory_source here e cells figures) n refused)

  -- and of an event
  pub takes_event : (e : Event) {r : EventRecord} {x : RoundedChosen tables.State} → r ≡ event_record e →
      x ≡ take_record_rounded memory_source here r cells figures 19 → x ≡ take_rounded memory_source here e cells figures
  takes_event e r-is h = rw r-is at h
