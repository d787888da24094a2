-- A choice that is made only if it is agreed, and the taking of a record, case by case, as the code meets them.
use mathlib.Core.Path.{◌≡◌, refl, sym, ap, ◌∙◌}
use mathlib.Core.Bool.{Bool, true, false}
use mathlib.Core.List.{List}
use Prim.Native.Nat.{ℕ}
use Rattle.std.specs.Prelude.{Result, Ok, Err, is_ok}
use Rattle.std.specs.Result.{result_and}
use Rattle.vocabulary.specs.declared.Line.{Line}
use Rattle.vocabulary.specs.declared.Worker.{Worker}
use Rattle.vocabulary.specs.declared.Slot.{Slot}
use Rattle.vocabulary.specs.declared.Slots.{Slots}
use Rattle.vocabulary.specs.declared.event.Event.{Event}
use Rattle.vocabulary.specs.declared.event.EventRecord.{EventRecord}
use Rattle.vocabulary.specs.declared.refusal.Refusal.{Refusal}
use Rattle.vocabulary.specs.Refusals.{number_of}
use Rattle.vocabulary.specs.Events.{event_record, same_record}
use Rattle.rules.specs.RunState.{Machine, slot_at}
use Rattle.rules.specs.Choices as rules
use Rattle.rules.specs.Choices.{refuse, start, choose}
use Rattle.rules.specs.Answers.{answer_of}
use Rattle.rules.specs.Offers.{is_refused, record_of, only_if, shown, take_record, take_offered}
use Rattle.rules.proofs.choices.Outcomes.{refused_unchanged}
use Rattle.rules.proofs.choices.Offered.{only_refused, only_other, only_same, only_as, shown_accepted}
use Rattle.rules.proofs.lists.Tests.{never}
use Rattle.tables.specs.State as tables
use Rattle.tables.specs.Calls.{memory_source}
use Rattle.state.specs.declared.State.{State}
use Rattle.state.specs.declared.Figures.{Figures}
use Rattle.state.specs.Machines.{machine_of, whole}
use Rattle.engine.specs.Moves.{finished_event}
use Rattle.engine.specs.Turns.{Turn, Answer, turned, Fits}
use Rattle.engine.specs.Machines.{chosen_of}
use Rattle.engine.proofs.moves.Parts.{refused}
use Rattle.engine.specs.Taking.{other_of, agrees_with, leave_if}

-- an event is no refusal
no_refusal : (e : Event) → is_refused (answer_of (Ok e)) ≡ false
unfolding answer_of
no_refusal (Event.Started s) = refl
no_refusal (Event.Finished s) = refl
no_refusal (Event.Stopped s) = refl

-- a choice without leave, by what it would answer: its own refusal, or the other
module _ (s : State) (mem : List ℕ) (w l : ℕ) {leave : Result (Unit {0}) Refusal} {other : Refusal} (none : leave ≡ Err other) where
  abbrev m : Machine tables.State
  m = machine_of s mem

  abbrev chosen : rules.Chosen tables.State
  chosen = choose memory_source m w l

  abbrev Refuses : Refusal → Type 0
  Refuses why = chosen_of (turned s l (Err why)) mem ≡ only_if m (is_ok leave) (other_of leave) chosen

  module _ {told : Answer} (told_is : answer_of told ≡ chosen.answer) where
    own_refusal : {why : Refusal} → told ≡ Err why → Refuses why
    unfolding answer_of
    own_refusal {why} e =
        let answer : rules.Refused (number_of why) ≡ chosen.answer = rw e at told_is in
        let unchanged = refused_unchanged memory_source m w l (number_of why) (sym answer) in
        let chosen_is : refuse m (number_of why) ≡ chosen = λ i. record { answer = answer i; machine = sym unchanged i } in
        refused s why mem refl ∙ chosen_is ∙ sym (only_refused m (is_ok leave) (other_of leave) chosen (ap is_refused (sym answer)))

    other_refusal : {event : Event} → told ≡ Ok event → Refuses other
    other_refusal {event} e =
        let accepted : is_refused chosen.answer ≡ false = ap is_refused (sym told_is) ∙ ap (λ a. is_refused (answer_of a)) e ∙ no_refusal event in
        refused s other mem refl ∙ sym (ap (λ v. only_if m (is_ok v) (other_of v) chosen) none ∙ only_other m false (number_of other) chosen accepted refl)

  pub refuses : (told : Answer) → answer_of told ≡ chosen.answer → {r : Turn} → r ≡ result_and told (Err other) →
      chosen_of (turned s l r) mem ≡ only_if m (is_ok leave) (other_of leave) chosen
  refuses (Ok event) told_is r_is = ap (λ v. chosen_of (turned s l v) mem) r_is ∙ other_refusal told_is refl
  refuses (Err why) told_is r_is = ap (λ v. chosen_of (turned s l v) mem) r_is ∙ own_refusal told_is refl

pub refuses_fits : (l : ℕ) (told : Answer) (other : Refusal) {r : Turn} → r ≡ result_and told (Err other) → Fits l r
refuses_fits l (Ok event) other r_is = rw r_is tt
refuses_fits l (Err why) other r_is = rw r_is tt

-- an event beside a record
agrees_is : (a : Answer) (r : EventRecord) → is_refused (answer_of a) ≡ false → agrees_with a r ≡ same_record (record_of (answer_of a)) r
unfolding answer_of
agrees_is (Ok (Event.Started s)) r ok = refl
agrees_is (Ok (Event.Finished s)) r ok = refl
agrees_is (Ok (Event.Stopped s)) r ok = refl
agrees_is (Err why) r ok = absurd (never ok)

-- what is made with leave where an answer is the record's event is made only if it is
pub leave_told : {X : Type 0} (m : Machine X) (agreed : Bool) (other : Refusal) (c : rules.Chosen X) →
    only_if m (is_ok (leave_if agreed other)) (other_of (leave_if agreed other)) c ≡ only_if m agreed (number_of other) c
leave_told m true other c = only_same m true 0 c refl ∙ sym (only_same m true (number_of other) c refl)
leave_told m false other c = refl

-- where the choice that a record names is accepted, what its line shows is its event
pub shown_agrees : (m : Machine tables.State) (r : EventRecord) (told : Answer) {agreed : Bool} →
    answer_of told ≡ shown memory_source m r.worker r.line → agreed ≡ agrees_with told r →
    is_refused (choose memory_source m r.worker r.line).answer ≡ false →
    agreed ≡ same_record (record_of (choose memory_source m r.worker r.line).answer) r
shown_agrees m r told told_is agreed-is ok =
    let here : answer_of told ≡ (choose memory_source m r.worker r.line).answer =
    told_is ∙ sym (shown_accepted memory_source m r.worker r.line ok) in
    agreed-is ∙ agrees_is told r (ap is_refused here ∙ ok) ∙ ap (λ a. same_record (record_of a) r) here

-- so the choice that a record names, with leave where the events agree, is the taking of the record
pub leave_takes : (m : Machine tables.State) (r : EventRecord) {leave : Result (Unit {0}) Refusal} (agreed : Bool) (other : Refusal) → leave ≡ leave_if agreed other →
    (is_refused (choose memory_source m r.worker r.line).answer ≡ false → agreed ≡ same_record (record_of (choose memory_source m r.worker r.line).answer) r) →
    only_if m (is_ok leave) (other_of leave) (choose memory_source m r.worker r.line) ≡ take_record memory_source m r (number_of other)
leave_takes m r agreed other leave_is alike =
    let c : rules.Chosen tables.State = choose memory_source m r.worker r.line in
    ap (λ v. only_if m (is_ok v) (other_of v) c) leave_is ∙ leave_told m agreed other c ∙
    only_as m agreed (same_record (record_of c.answer) r) (number_of other) c alike

-- the taking of an event is that of its record
pub takes_event : (m : Machine tables.State) (e : Event) {r : EventRecord} {x : rules.Chosen tables.State} → r ≡ event_record e →
    x ≡ take_record memory_source m r 19 → x ≡ take_offered memory_source m e
takes_event m e r-is h = rw r-is at h

-- what the slot of a line and the tables say, by the code's parts of a state
module _ (f : Figures) (counters : List ℕ) (slots : Slots) (worker : Worker) (line : Line) (mem : List ℕ)
    {slot : Slot} (slot_is : slot_at slots line.0 ≡ slot) where
  abbrev here : Machine tables.State
  here = machine_of (whole f counters slots) mem

  pub shown_finish : {e : Event} → slot.running ≡ true → e ≡ finished_event line slot → answer_of (Ok e) ≡ shown memory_source here worker.0 line.0
  unfolding shown answer_of machine_of
  shown_finish runs e_is = rw (e_is, slot_is, runs)

  pub shown_start : (a : Answer) → slot.running ≡ false → answer_of a ≡ (start memory_source here worker.0 line.0).answer →
      answer_of a ≡ shown memory_source here worker.0 line.0
  unfolding shown machine_of
  shown_start a waits would = rw (slot_is, waits) would
