-- An offer of the code with rounding, followed by its taking, is the choice.
use Rattle.std.proofs.Common.{Result, Err}
use mathlib.Core.Path.{◌≡◌, sym, ap, ◌∙◌}
use mathlib.Core.List.{List}
use Prim.Native.Nat.{ℕ}
use Rattle.vocabulary.specs.Refusals.{number_of}
use Rattle.vocabulary.specs.Events.{event_record}
use Rattle.vocabulary.specs.declared.event.Event.{Event}
use Rattle.vocabulary.specs.declared.refusal.Refusal.{Refusal}
use Rattle.rules.specs.Choices.{Refused}
use Rattle.rules.specs.Answers.{answer_of}
use Rattle.rules.specs.Offers.{is_refused, event_of}
use Rattle.rules.specs.Rounding.{Lending, RoundedChosen, refuse_with, choose_rounded}
use Rattle.rules.specs.RoundedOffers.{named_with, take_rounded}
use Rattle.rules.proofs.choices.Offered.{not_refused}
use Rattle.rules.proofs.rounding.Choice.{rounded_unchanged}
use Rattle.rules.proofs.rounding.Offered.{taken_rounded}
use Rattle.tables.specs.State as tables
use Rattle.tables.specs.Calls.{memory_source}
use Rattle.rounding.specs.declared.run.Run.{Run}
use Rattle.rounding.specs.Runs.{run_of}
use Rattle.rounded.specs.declared.Chosen.{Chosen}
use Rattle.rounded.specs.Runs.{chosen_of}
use Rattle.demands.specs.CodeOffers.{offering}
use Rattle.demands.proofs.OneAnswer.{one_answer}
use Rattle.demands.proofs.CodeOffers.{event_is, refusal}
use Rattle.rounding_demands.specs.CodeRounding.{ChooseRoundedCall}
use Rattle.rounding_demands.specs.CodeRoundedOffers.{OfferRoundedCall, TakeRoundedCall, refused_by, OfferThenTake, Taken}
use Rattle.rounding_demands.proofs.OneRun.{same_run, same_return}

-- a refused call of `choose_rounded` leaves run, memory and figures as they were
pub refused_unchanged : (r : Run) (m : List ℕ) (a : Lending) (c : Chosen) (k g : List ℕ) (n : ℕ) → ChooseRoundedCall r m a c k g →
    answer_of c.answer ≡ Refused n → (c.run ≡ r) × (k ≡ m) × (g ≡ a.figures)
unfolding chosen_of
refused_unchanged r m a c k g n called told =
    let (run_is, figures_are) = rounded_unchanged memory_source (run_of r m) a n (sym (ap (λ (x : RoundedChosen tables.State). x.answer) called) ∙ told) in
    let (runs, memories) = same_run c.run r k m (ap (λ (x : RoundedChosen tables.State). x.run) called ∙ run_is) in
    (runs, memories, ap (λ (x : RoundedChosen tables.State). x.figures) called ∙ figures_are)

pub offer_then_take : (r : Run) (m : List ℕ) (a : Lending) (told : Result Event Refusal) → OfferRoundedCall r m a told → OfferThenTake r m a told
unfolding chosen_of answer_of
offer_then_take r m a told offers = record {
  offered = λ c k g chooses. one_answer c.answer told (ap (λ (x : RoundedChosen tables.State). x.answer) chooses ∙ sym offers);
  taken = λ e told_is t m' f' takes c k g chooses.
      let event : (choose_rounded memory_source (run_of r m) a).answer ≡ event_of e = sym offers ∙ ap answer_of told_is ∙ event_is e in
      same_return t c m' k f' g (takes ∙ (taken_rounded memory_source (run_of r m) e a.cells a.figures).as_chosen a.choice event ∙ sym chooses);
  refused = λ why told_is c k g chooses.
      let answer-is : c.answer ≡ Err why = one_answer c.answer told (ap (λ (x : RoundedChosen tables.State). x.answer) chooses ∙ sym offers) ∙ told_is in
      let (runs, memories, lefts) = refused_unchanged r m a c k g (number_of why) chooses (ap answer_of answer-is) in
      (λ i. record { answer = answer-is i; run = runs i }, memories, lefts);
}

module _ (r : Run) (m cells figures : List ℕ) (e : Event) (t : Chosen) (m' f' : List ℕ) (takes : TakeRoundedCall r m cells figures e t m' f') where
  -- a taking that the rules refuse
  turned_down : (why : Refusal) → take_rounded memory_source (run_of r m) e cells figures ≡
      refuse_with (run_of r m) (named_with (event_record e) cells figures) (Refused (number_of why)) → (t ≡ refused_by r why) × (m' ≡ m) × (f' ≡ figures)
  unfolding chosen_of answer_of
  turned_down why q = same_return t (refused_by r why) m' m f' figures (takes ∙ q)

  pub taken : Taken r m cells figures e t m' f'
  unfolding chosen_of
  taken =
      let rules-say = taken_rounded memory_source (run_of r m) e cells figures in
      let told = ap (λ (x : RoundedChosen tables.State). x.answer) takes in
      record {
        own = λ c k g chooses why answer-is.
            turned_down why (rules-say.own_first (number_of why)
            (sym (ap (λ (x : RoundedChosen tables.State). x.answer) chooses) ∙ refusal why c.answer answer-is));
        other = λ c k g chooses ok differs.
            let said = ap (λ (x : RoundedChosen tables.State). x.answer) chooses in
            turned_down Refusal.OtherEvent (rules-say.then_19 (ap is_refused (sym said) ∙ not_refused (answer_of c.answer) ok)
            (λ same. differs (one_answer c.answer (offering e) (said ∙ same ∙ sym (event_is e)))));
        accepted = λ ok.
            one_answer t.answer (offering e)
            (told ∙ rules-say.just_the_event (ap is_refused (sym told) ∙ not_refused (answer_of t.answer) ok) ∙ sym (event_is e));
        unchanged = λ n answer-is.
            let (run_is, figures_are) = rules-say.unchanged (ap is_refused (sym told ∙ answer-is)) in
            let (runs, memories) = same_run t.run r m' m (ap (λ (x : RoundedChosen tables.State). x.run) takes ∙ run_is) in
            (runs, memories, ap (λ (x : RoundedChosen tables.State). x.figures) takes ∙ figures_are);
      }
