-- A choice, case by case, as the code meets it.
use mathlib.Core.Path.{◌≡◌, refl, sym, ap, subst, ◌∙◌}
use mathlib.Core.Bool.{Bool, true, false, not}
use mathlib.Core.List.{List}
use Prim.Native.Nat.{ℕ, ◌<◌, ◌≤◌}
use native.Mathlib.Omega.{arith}
use borrow.Author.Tests.{lt-ltb, le-ltb, not-true}
use lib.Dec.{eqb}
use lib.ListN.{get_or}
use Rattle.std.specs.Prelude.{Option, Some, None, Result, Ok, Err}
use Rattle.rules.specs.Lists.{must_not}
use Rattle.rules.specs.RunState.{Machine, slot_at, counter_at}
use Rattle.vocabulary.specs.declared.Slot.{Slot}
use Rattle.vocabulary.specs.declared.Slots.{Slots}
use Rattle.vocabulary.specs.declared.refusal.Refusal.{Refusal}
use Rattle.rules.specs.Choices.{refuse, at_work, ended, start, finish, move, choose}
use Rattle.rules.specs.Ranges.{sound}
use Rattle.rules.specs.Answers.{answer_of}
use Rattle.rules.specs.Offers.{is_refused, only_if}
use Rattle.rules.proofs.choices.Offered.{only_refused}
use Rattle.vocabulary.specs.Refusals.{number_of}
use Rattle.tables.specs.State as tables
use Rattle.tables.specs.Calls.{memory_source}
use Rattle.state.specs.declared.State.{State}
use Rattle.state.specs.declared.Figures.{Figures}
use Rattle.ranges.specs.declared.Survey.{Survey}
use Rattle.engine.specs.declared.turn.Move.{Move}
use Rattle.state.specs.Machines.{machine_of, whole, Ready}
use Rattle.engine.specs.Machines.{chosen_of}
use Rattle.state.specs.Ending.{is_early, ended_of}
use Rattle.ranges.specs.Surveys.{survey_of}
use Rattle.engine.specs.Turns.{turned, Goes, Tells}
use Rattle.rules.proofs.lists.Tests.{by_test, never}
use Rattle.rules.proofs.lists.Holding.{first_holds, rest_hold}
use Rattle.engine.proofs.moves.Parts.{refused}
use Rattle.ranges.proofs.in_range.SurveyLaws.{tells_none, tells_sound, tells_slot, tells_busy}
use Rattle.state.proofs.in_range.SoundLaws as laws

module _ (f : Figures) (counters : List ℕ) (slots : Slots) (w l : ℕ) (mem : List ℕ) where
  abbrev s : State
  s = whole f counters slots

  abbrev machine : Machine tables.State
  machine = machine_of s mem

  -- the moves of a line, by its slot and its counter
  module _ {slot : Slot} (slot_is : slot_at slots l ≡ slot) where
    abbrev due : ℕ
    due = get_or counters (counter_at l slot.pipe.0) 0

    module _ (runs : slot.running ≡ true) where
      move_wrong : eqb slot.worker.0 w ≡ false → refuse machine 26 ≡ move memory_source machine w l
      unfolding move machine_of
      move_wrong n = rw (slot_is, runs, n)

      move_finish : eqb slot.worker.0 w ≡ true → finish memory_source machine l ≡ move memory_source machine w l
      unfolding move machine_of
      move_finish e = rw (slot_is, runs, e)

    -- a line that waits with its counter above 0
    move_early : is_early counters slot l ≡ true → refuse machine 12 ≡ move memory_source machine w l
    unfolding move machine_of is_early
    move_early h =
        let waits : slot.running ≡ false = not-true _ (first_holds (not slot.running) _ h) in
        let above : eqb due 0 ≡ false = not-true _ (first_holds _ true (rest_hold (not slot.running) _ h)) in
        rw (slot_is, waits, above)

    -- one that can move
    module _ (waits : slot.running ≡ false) (able : is_early counters slot l ≡ false) where
      none : eqb due 0 ≡ true
      unfolding is_early
      none = by_test (eqb due 0) (λ t. t) (λ t. absurd (never (rw (waits, t) at able)))

      module _ {busy : Bool} (busy_is : busy ≡ at_work slots w f.lines) where
        move_busy : busy ≡ true → refuse machine 13 ≡ move memory_source machine w l
        unfolding move machine_of
        move_busy h = rw (slot_is, waits, none, sym busy_is ∙ h)

        move_start : busy ≡ false → start memory_source machine w l ≡ move memory_source machine w l
        unfolding move machine_of
        move_start h = rw (slot_is, waits, none, sym busy_is ∙ h)

  -- the choice, by what a look over the state tells
  module _ {told : Option Survey} (told_is : told ≡ survey_of f counters slots mem w l) where
    pub choose_unsound : told ≡ None → refuse machine 14 ≡ choose memory_source machine w l
    unfolding choose
    choose_unsound e = rw (tells_none f counters slots mem w l told_is e)

    module _ {seen : Survey} (some : told ≡ Some seen) where
      ok : sound memory_source machine ≡ true
      ok = tells_sound f counters slots mem w l told_is some

      pub choose_far : f.lines ≤ l → refuse machine 10 ≡ choose memory_source machine w l
      unfolding choose machine_of
      choose_far h = rw (ok, le-ltb l f.lines h)

      module _ (known : l < f.lines) where
        ready_here : Ready f (slot_at slots l) l
        ready_here = laws.ready f counters slots mem ok l known

        slot_here : slot_at slots l ≡ seen.slot
        slot_here = sym (tells_slot f counters slots mem w l told_is some (omega (arith, known, ready_here.lines)))

        pub ready_seen : Ready f seen.slot l
        ready_seen = subst (λ slot. Ready f slot l) slot_here ready_here

        -- a run in which the line can move has not ended
        goes_on : is_early counters seen.slot l ≡ false → ended machine ≡ false
        goes_on able = laws.goes_on s mem ok l known (ap (λ slot. is_early counters slot l) slot_here ∙ able)

        pub choose_unknown : f.workers ≤ w → refuse machine 26 ≡ choose memory_source machine w l
        unfolding choose machine_of
        choose_unknown h = rw (ok, lt-ltb l f.lines known, le-ltb w f.workers h)

        module _ (manned : w < f.workers) where
          choose_known : choose memory_source machine w l ≡ must_not (ended machine) (refuse machine 11) (move memory_source machine w l)
          unfolding choose machine_of
          choose_known = rw (ok, lt-ltb l f.lines known, lt-ltb w f.workers manned)

          -- where it cannot, the others are looked at
          module _ (early : is_early counters seen.slot l ≡ true) {e : Bool} (e-is : e ≡ ended_of s) where
            ended_here : ended machine ≡ e
            ended_here = sym (e-is ∙ laws.ended_is s mem ok)

            pub choose_over : e ≡ true → refuse machine 11 ≡ choose memory_source machine w l
            choose_over t = sym (choose_known ∙ rw (ended_here ∙ t))

            pub choose_early : e ≡ false → refuse machine 12 ≡ choose memory_source machine w l
            choose_early t = move_early slot_here early ∙ sym (choose_known ∙ rw (ended_here ∙ t))

          module _ (able : is_early counters seen.slot l ≡ false) where
            moves : move memory_source machine w l ≡ choose memory_source machine w l
            moves = sym (choose_known ∙ rw (goes_on able))

            module _ (runs : seen.slot.running ≡ true) where
              pub choose_wrong : eqb seen.slot.worker.0 w ≡ false → refuse machine 26 ≡ choose memory_source machine w l
              choose_wrong n = move_wrong slot_here runs n ∙ moves

              pub choose_finish : eqb seen.slot.worker.0 w ≡ true → Goes (finish memory_source) f counters slots w l mem seen.slot
              choose_finish by = record { ready = ready_seen; at = slot_here; chosen = move_finish slot_here runs by ∙ moves }

            module _ (waits : seen.slot.running ≡ false) where
              busy_here : seen.busy ≡ at_work slots w f.lines
              busy_here = tells_busy f counters slots mem w l told_is some

              pub choose_busy : seen.busy ≡ true → refuse machine 13 ≡ choose memory_source machine w l
              choose_busy h = move_busy slot_here waits able busy_here h ∙ moves

              pub choose_start : seen.busy ≡ false → Goes (λ a k. start memory_source a w k) f counters slots w l mem seen.slot
              choose_start h = record { ready = ready_seen; at = slot_here; chosen = move_start slot_here waits able busy_here h ∙ moves }

-- by what the checks tell: a refusal, whether there is leave or not, and its answer, and where the line goes on to a start or a finish
module _ (f : Figures) (counters : List ℕ) (slots : Slots) (w l : ℕ) (m : List ℕ) {r : Result Move Refusal} (told : Tells f counters slots w l m r) where
  pub told_refused : {why : Refusal} → r ≡ Err why → (agreed : Bool) (n : ℕ) →
      chosen_of (turned (whole f counters slots) l (Err why)) m ≡
      only_if (machine_of (whole f counters slots) m) agreed n (choose memory_source (machine_of (whole f counters slots) m) w l)
  told_refused {why} e agreed n =
      let turned_down : refuse (machine_of (whole f counters slots) m) (number_of why) ≡ choose memory_source (machine_of (whole f counters slots) m) w l = rw e at told in
      refused (whole f counters slots) why m refl ∙ turned_down ∙
      sym (only_refused (machine_of (whole f counters slots) m) agreed n _ (ap (λ c. is_refused c.answer) (sym turned_down)))

  pub told_refusal : {why : Refusal} → r ≡ Err why → answer_of (Err why) ≡ (choose memory_source (machine_of (whole f counters slots) m) w l).answer
  unfolding answer_of
  told_refusal {why} e = ap (λ c. c.answer) (rw e at told)

  pub told_next : {next : Move} → r ≡ Ok next → Tells f counters slots w l m (Ok next)
  told_next e = rw e at told

-- by the move that they tell
module _ (f : Figures) (counters : List ℕ) (slots : Slots) (w l : ℕ) (m : List ℕ) {next : Move} (told : Tells f counters slots w l m (Ok next)) where
  pub told_start : {slot : Slot} → next ≡ Move.Start slot → Goes (λ a k. start memory_source a w k) f counters slots w l m slot
  told_start e = rw e at told

  pub told_finish : {slot : Slot} → next ≡ Move.Finish slot → Goes (finish memory_source) f counters slots w l m slot
  told_finish e = rw e at told
