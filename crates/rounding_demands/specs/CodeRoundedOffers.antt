-- Offer, then take, in a run with rounding (02, 2.3 and 2.2), of the code: what a caller of `offer_rounded`, `take_rounded` and
-- `choose_rounded` sees, with whatever run, memory, cells and figures, of a run or not.
use Rattle.std.specs.Prelude.{◌≡◌, List, ℕ, Result, Err}
use Rattle.vocabulary.specs.Events.{event_record}
use Rattle.vocabulary.specs.declared.event.Event.{Event}
use Rattle.vocabulary.specs.declared.refusal.Refusal.{Refusal}
use Rattle.rules.specs.Choices.{Refused}
use Rattle.rules.specs.Answers.{answer_of}
use Rattle.rules.specs.WholeRuns.{Accepted}
use Rattle.rules.specs.Rounding.{Lending}
use Rattle.rules.specs.RoundedOffers.{named_with, offer_rounded, take_rounded}
use Rattle.tables.specs.Calls.{memory_source}
use Rattle.rounding.specs.declared.run.Run.{Run}
use Rattle.rounding.specs.Runs.{run_of}
use Rattle.rounded.specs.declared.Chosen.{Chosen}
use Rattle.rounded.specs.Runs.{chosen_of}
use Rattle.demands.specs.CodeOffers.{offering}
use Rattle.rounding_demands.specs.CodeRounding.{ChooseRoundedCall}

-- a call of `offer_rounded` returned `a`: what it ensures. It is handed the run by value, and memory, cells and figures to read only.
abbrev pub OfferRoundedCall : Run → List ℕ → Lending → Result Event Refusal → Type 0
OfferRoundedCall r m a told = answer_of told ≡ offer_rounded memory_source (run_of r m) a

-- a call of `take_rounded` returned `c` and left this memory and these figures: what it ensures
abbrev pub TakeRoundedCall : Run → List ℕ → List ℕ → List ℕ → Event → Chosen → List ℕ → List ℕ → Type 0
TakeRoundedCall r m cells figures e c m' figures' = chosen_of c m' figures' ≡ take_rounded memory_source (run_of r m) e cells figures

-- what a call that is turned down returns
abbrev pub refused_by : Run → Refusal → Chosen
refused_by r why = record { answer = Err why; run = r }

-- "An offer followed by its taking equals the old single choice": a call of `offer_rounded` returned `told`
pub record OfferThenTake (r : Run) (m : List ℕ) (a : Lending) (told : Result Event Refusal) : Type 0 where
  -- the choice answers what was offered
  pub offered : (c : Chosen) (k g : List ℕ) → ChooseRoundedCall r m a c k g → c.answer ≡ told
  -- the taking of an event that was offered returns what the choice returns, and leaves the memory and figures that it leaves
  pub taken : (e : Event) → told ≡ offering e → (t : Chosen) (m' f' : List ℕ) → TakeRoundedCall r m a.cells a.figures e t m' f' →
      (c : Chosen) (k g : List ℕ) → ChooseRoundedCall r m a c k g → (t ≡ c) × (m' ≡ k) × (f' ≡ g)
  -- where the offer is a refusal, the choice returns it, and leaves run, memory and figures as they were
  pub refused : (why : Refusal) → told ≡ Err why → (c : Chosen) (k g : List ℕ) → ChooseRoundedCall r m a c k g →
      (c ≡ refused_by r why) × (k ≡ m) × (g ≡ a.figures)

-- "Refused: 19, after all of a choice's own checks and those of 2.2, when the handed event differs": a call of `take_rounded` returned `t`
-- and left `m'` and `f'`. The choice beside it is that of the worker and the line that the event names, with the same cells and figures.
pub record Taken (r : Run) (m cells figures : List ℕ) (e : Event) (t : Chosen) (m' f' : List ℕ) : Type 0 where
  pub own : (c : Chosen) (k g : List ℕ) → ChooseRoundedCall r m (named_with (event_record e) cells figures) c k g →
      (why : Refusal) → c.answer ≡ Err why → (t ≡ refused_by r why) × (m' ≡ m) × (f' ≡ figures)
  pub other : (c : Chosen) (k g : List ℕ) → ChooseRoundedCall r m (named_with (event_record e) cells figures) c k g →
      Accepted (answer_of c.answer) → (c.answer ≡ offering e → ⊥) → (t ≡ refused_by r Refusal.OtherEvent) × (m' ≡ m) × (f' ≡ figures)
  pub accepted : Accepted (answer_of t.answer) → t.answer ≡ offering e
  pub unchanged : (n : ℕ) → answer_of t.answer ≡ Refused n → (t.run ≡ r) × (m' ≡ m) × (f' ≡ figures)
