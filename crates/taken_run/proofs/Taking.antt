-- A choice made by an offer and the taking of what was offered.
use mathlib.Core.Path.{◌≡◌, refl, sym, ap, ◌∙◌}
use mathlib.Core.List.{List}
use Prim.Native.Nat.{ℕ}
use Rattle.std.specs.Prelude.{Ok, Err}
use Rattle.rules.specs.Answers.{answer_of}
use Rattle.rules.specs.Choices.{choose}
use Rattle.rules.specs.Choices as rules
use Rattle.rules.specs.Offers.{event_of, offer, take_record}
use Rattle.rules.proofs.choices.Offered.{taken_as_chosen}
use Rattle.rules.proofs.choices.Outcomes.{refused_unchanged}
use Rattle.vocabulary.specs.Refusals.{number_of}
use Rattle.vocabulary.specs.Events.{event_record}
use Rattle.vocabulary.specs.declared.event.Event.{Event}
use Rattle.vocabulary.specs.declared.event.EventRecord.{EventRecord}
use Rattle.vocabulary.specs.declared.refusal.Refusal.{Refusal}
use Rattle.tables.specs.State as tables
use Rattle.tables.specs.Calls.{memory_source}
use Rattle.state.specs.Machines.{machine_of}
use Rattle.engine.specs.Machines.{chosen_of}
use Rattle.state.specs.declared.State.{State}
use Rattle.engine.specs.declared.Chosen.{Chosen}

event_is : (e : Event) → answer_of (Ok e) ≡ event_of e
unfolding answer_of
event_is (Event.Started s) = refl
event_is (Event.Finished s) = refl
event_is (Event.Stopped s) = refl

module _ (s : State) (m : List ℕ) (w l : ℕ) where
  -- by `take_record` of the event, which `take_offered` calls,
  pub taken_way : (e : Event) → answer_of (Ok e) ≡ offer memory_source (machine_of s m) w l → {r : EventRecord} → r ≡ event_record e →
      (k : Chosen) (m' : List ℕ) → chosen_of k m' ≡ take_record memory_source (machine_of s m) r 19 →
      chosen_of k m' ≡ choose memory_source (machine_of s m) w l
  taken_way e offers {r} r-is k m' takes = takes ∙ ap (λ x. take_record memory_source (machine_of s m) x 19) r-is ∙
      taken_as_chosen memory_source (machine_of s m) w l e (sym offers ∙ event_is e)

  -- and, where there is none, by nothing
  pub refused_way : (why : Refusal) → answer_of (Err why) ≡ offer memory_source (machine_of s m) w l →
      chosen_of (record { answer = Err why; state = s }) m ≡ choose memory_source (machine_of s m) w l
  unfolding chosen_of answer_of
  refused_way why offers =
      ap {B = rules.Chosen tables.State} (λ x. record { answer = x; machine = machine_of s m }) offers ∙
      ap {B = rules.Chosen tables.State} (λ x. record { answer = (choose memory_source (machine_of s m) w l).answer; machine = x })
      (sym (refused_unchanged memory_source (machine_of s m) w l (number_of why) (sym offers)))
