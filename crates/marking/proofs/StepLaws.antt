-- Marking, case by case, as the code meets it.
use mathlib.Core.Path.{◌≡◌, refl, sym, ap, ◌∙◌}
use mathlib.Core.Bool.{Bool, true, false, not}
use mathlib.Core.List.{List, [], ◌∷◌}
use Prim.Native.Nat.{ℕ}
use Rattle.std.proofs.Common.{Ok}
use Rattle.vocabulary.specs.declared.event.Event.{Event}
use Rattle.vocabulary.specs.declared.event.EventRecord.{EventRecord}
use Rattle.rules.specs.Choices as rules
use Rattle.rules.specs.Answers.{answer_of}
use Rattle.rules.specs.Offers.{take_record}
use Rattle.rules.specs.Journals.{Verdict, Marked, Wrong, CorrectSoFar, goes_on, closing, unless_refused, mark_more}
use Rattle.rules.proofs.lists.Tests.{by_test, never}
use Rattle.rules.proofs.runs.Journals.{more_stuck, mark_one}
use Rattle.tables.specs.State as tables
use Rattle.tables.specs.Calls.{memory_source}
use Rattle.state.specs.Machines.{machine_of}
use Rattle.state.specs.Ending.{ended_of}
use Rattle.engine.specs.declared.Chosen.{Chosen}
use Rattle.engine.specs.Machines.{chosen_of}
use Rattle.marking.specs.declared.Marking.{Marking}
use Rattle.marking.specs.declared.Progress.{Progress}
use Rattle.marking.specs.Marking.{verdict_of, marked_of, closed, left_memory}

-- an event is no refusal
pub unless_made : {A : Type 0} (e : Event) (turned : ℕ → A) (rest : A) → unless_refused (answer_of (Ok e)) turned rest ≡ rest
unfolding answer_of
unless_made (Event.Started s) turned rest = refl
unless_made (Event.Finished s) turned rest = refl
unless_made (Event.Stopped s) turned rest = refl

-- whether marking is settled, as a test of its verdict
goes : {b : Bool} (v : Verdict) → b ≡ not (goes_on v) → b ≡ false → goes_on v ≡ true
goes v e f = by_test (goes_on v) (λ t. t) (λ n. absurd (never (sym (e ∙ ap not n) ∙ f)))

stays : {b : Bool} (v : Verdict) → b ≡ not (goes_on v) → b ≡ true → goes_on v ≡ false
stays v e t = by_test (goes_on v) (λ g. absurd (never (sym t ∙ e ∙ ap not g))) (λ n. n)

-- an event
module _ (p : Progress) (m : List ℕ) (i : ℕ) (r : EventRecord) {b : Bool} (b_is : b ≡ not (goes_on (verdict_of p.marking))) where
  pub event_tried : (c : Chosen) (m' : List ℕ) (k : Marking) → b ≡ false → chosen_of c m' ≡ take_record memory_source (machine_of p.state m) r 20 →
      verdict_of k ≡ unless_refused (answer_of c.answer) (Wrong i) CorrectSoFar →
      marked_of (record { marking = k; state = c.state }) m' ≡ mark_more memory_source (marked_of p m) i (r ∷ [])
  unfolding marked_of mark_more chosen_of
  event_tried c m' k f c-is k-is =
      rw (goes (verdict_of p.marking) b_is f) ((λ j. record {
        verdict = (k-is ∙ ap (λ (x : rules.Chosen _). unless_refused x.answer (Wrong i) CorrectSoFar) c-is) j;
        machine = (c-is j).machine;
      }) ∙ sym (mark_one memory_source (machine_of p.state m) i r))

  pub event_passed : b ≡ true → marked_of p m ≡ mark_more memory_source (marked_of p m) i (r ∷ [])
  unfolding marked_of mark_more
  event_passed t = rw (stays (verdict_of p.marking) b_is t)

-- where no event is looked at any more, those that are left change nothing
pub settled_stays : (p : Progress) (m : List ℕ) (i : ℕ) (rs : List EventRecord) {b : Bool} → b ≡ not (goes_on (verdict_of p.marking)) → b ≡ true →
    mark_more memory_source (marked_of p m) i rs ≡ marked_of p m
unfolding marked_of
settled_stays p m i rs b_is t = more_stuck memory_source (marked_of p m) i rs (stays (verdict_of p.marking) b_is t)

-- what is said in the end, and the memory then, where all events come to this
pub said_at_end : (p : Progress) (m : List ℕ) {w : Marked tables.State} {v : Verdict} → marked_of p m ≡ w → v ≡ closing (ended_of p.state) (verdict_of p.marking) →
    (v ≡ closed w) × (m ≡ left_memory w)
unfolding marked_of machine_of
said_at_end p m w_is v-is = (v-is ∙ ap closed w_is, ap left_memory w_is)
