-- An offer of the code, followed by its taking, is the choice.
use Rattle.std.proofs.Common.{Result, Err}
use mathlib.Core.Path.{◌≡◌, refl, sym, ap, ◌∙◌}
use mathlib.Core.List.{List}
use Prim.Native.Nat.{ℕ}
use Rattle.rules.specs.Choices as rules
use Rattle.rules.specs.Choices.{refuse, choose}
use Rattle.rules.specs.Answers.{answer_of}
use Rattle.rules.specs.Offers.{is_refused, event_of, take_offered}
use Rattle.rules.proofs.choices.Offered.{not_refused, taken_as_chosen, taken_own, taken_other, taken_event, taken_unchanged}
use Rattle.vocabulary.specs.Refusals.{number_of}
use Rattle.vocabulary.specs.Events.{event_record}
use Rattle.vocabulary.specs.declared.event.Event.{Event}
use Rattle.vocabulary.specs.declared.refusal.Refusal.{Refusal}
use Rattle.tables.specs.Calls.{memory_source}
use Rattle.state.specs.declared.State.{State}
use Rattle.state.specs.Machines.{machine_of}
use Rattle.engine.specs.declared.Chosen.{Chosen}
use Rattle.engine.specs.Machines.{refused_by, chosen_of}
use Rattle.demands.specs.CodeOffers.{OfferCall, TakeCall, offering, OfferThenTake, Taken}
use Rattle.demands.proofs.Unchanged.{same_state, refused_unchanged}
use Rattle.demands.proofs.OneAnswer.{one_answer, one_return}

pub event_is : (e : Event) → answer_of (offering e) ≡ event_of e
unfolding answer_of
event_is (Event.Started s) = refl
event_is (Event.Finished s) = refl
event_is (Event.Stopped s) = refl

pub offer_then_take : (s : State) (m : List ℕ) (w l : ℕ) (a : Result Event Refusal) → OfferCall s m w l a → OfferThenTake s m w l a
unfolding chosen_of answer_of
offer_then_take s m w l a offers = record {
  offered = λ c k chooses. one_answer c.answer a (ap (λ x. x.answer) chooses ∙ sym offers);
  taken = λ e a-is r m' takes c k chooses.
      let told : (choose memory_source (machine_of s m) w l).answer ≡ event_of e = sym offers ∙ ap answer_of a-is ∙ event_is e in
      one_return r c m' k (takes ∙ taken_as_chosen memory_source (machine_of s m) w l e told ∙ sym chooses);
  refused = λ why a-is c k chooses.
      let answer-is : c.answer ≡ Err why = one_answer c.answer a (ap (λ x. x.answer) chooses ∙ sym offers) ∙ a-is in
      let (state_is, same) = refused_unchanged s m w l c k (number_of why) chooses (ap answer_of answer-is) in
      (λ i. record { answer = answer-is i; state = state_is i }, same);
}

pub refusal : (why : Refusal) (a : Result Event Refusal) → a ≡ Err why → answer_of a ≡ rules.Refused (number_of why)
unfolding answer_of
refusal why a e = ap answer_of e

module _ (s : State) (m : List ℕ) (e : Event) (r : Chosen) (m' : List ℕ) (takes : TakeCall s m e r m') where
  -- a taking that the rules refuse
  turned_down : (why : Refusal) → take_offered memory_source (machine_of s m) e ≡ refuse (machine_of s m) (number_of why) → (r ≡ refused_by s why) × (m' ≡ m)
  unfolding chosen_of answer_of
  turned_down why e = one_return r (refused_by s why) m' m (takes ∙ e)

  pub taken : Taken s m e r m'
  unfolding chosen_of
  taken = record {
    own = λ c k chooses why answer-is.
        turned_down why (taken_own memory_source (machine_of s m) e (number_of why) (sym (ap (λ x. x.answer) chooses) ∙ refusal why c.answer answer-is));
    other = λ c k chooses ok differs.
        let told : answer_of c.answer ≡ (choose memory_source (machine_of s m) (event_record e).worker (event_record e).line).answer = ap (λ x. x.answer) chooses in
        turned_down Refusal.OtherEvent
        (taken_other memory_source (machine_of s m) e (ap is_refused (sym told) ∙ not_refused (answer_of c.answer) ok)
        (λ same. differs (one_answer c.answer (offering e) (told ∙ same ∙ sym (event_is e)))));
    same = λ c k chooses answer-is.
        let told : (choose memory_source (machine_of s m) (event_record e).worker (event_record e).line).answer ≡ event_of e =
        sym (ap (λ x. x.answer) chooses) ∙ ap answer_of answer-is ∙ event_is e in
        one_return r c m' k (takes ∙ taken_as_chosen memory_source (machine_of s m) (event_record e).worker (event_record e).line e told ∙ sym chooses);
    accepted = λ ok.
        let told = ap (λ x. x.answer) takes in
        one_answer r.answer (offering e)
        (told ∙ taken_event memory_source (machine_of s m) e (ap is_refused (sym told) ∙ not_refused (answer_of r.answer) ok) ∙ sym (event_is e));
    unchanged = λ n answer-is.
        let told = ap (λ x. x.answer) takes in
        same_state r.state s m' m (ap (λ x. x.machine) takes ∙ taken_unchanged memory_source (machine_of s m) e (ap is_refused (sym told ∙ answer-is)));
  }
