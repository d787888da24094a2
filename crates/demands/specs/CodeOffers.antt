-- Offer, then take (02, 2.3), of the code: what a caller of `offer`, `take_offered` and `choose` sees, with whatever state and memory,
-- of a run or not. Of each call nothing is known here but what its `ensures` says, in the same words.
use Rattle.std.specs.Prelude.{◌≡◌, List, ℕ, Result, Ok, Err}
use Rattle.rules.specs.Choices.{Refused}
use Rattle.rules.specs.WholeRuns.{Accepted}
use Rattle.rules.specs.Offers.{offer, named, take_offered}
use Rattle.rules.specs.Answers.{answer_of}
use Rattle.vocabulary.specs.Events.{event_record}
use Rattle.vocabulary.specs.declared.event.Event.{Event}
use Rattle.vocabulary.specs.declared.refusal.Refusal.{Refusal}
use Rattle.tables.specs.Calls.{memory_source}
use Rattle.state.specs.declared.State.{State}
use Rattle.state.specs.Machines.{machine_of}
use Rattle.engine.specs.declared.Chosen.{Chosen}
use Rattle.engine.specs.Machines.{refused_by, chosen_of}
use Rattle.demands.specs.CodeRuns.{ChooseCall}

-- a call of `offer` with this state, memory, worker and line returned `a`: what `offer` ensures. It is handed the state by value and
-- the memory to read only: so it "changes nothing".
abbrev pub OfferCall : State → List ℕ → ℕ → ℕ → Result Event Refusal → Type 0
OfferCall s m w l a = answer_of a ≡ offer memory_source (machine_of s m) w l

-- a call of `take_offered` with this state, memory and event returned `r` and left the memory `m'`: what it ensures
abbrev pub TakeCall : State → List ℕ → Event → Chosen → List ℕ → Type 0
TakeCall s m e r m' = chosen_of r m' ≡ take_offered memory_source (machine_of s m) e

-- the answer that offers an event
abbrev pub offering : Event → Result Event Refusal
offering e = Ok e

-- "An offer followed by its taking equals the old single choice": a call of `offer` returned `a`
pub record OfferThenTake (s : State) (m : List ℕ) (w l : ℕ) (a : Result Event Refusal) : Type 0 where
  -- the choice answers what was offered
  pub offered : (c : Chosen) (k : List ℕ) → ChooseCall s m w l c k → c.answer ≡ a
  -- the taking of an event that was offered returns what the choice returns, and leaves the memory that it leaves
  pub taken : (e : Event) → a ≡ offering e → (r : Chosen) (m' : List ℕ) → TakeCall s m e r m' → (c : Chosen) (k : List ℕ) → ChooseCall s m w l c k →
      (r ≡ c) × (m' ≡ k)
  -- where the offer is a refusal, the choice returns it, and leaves state and memory as they were
  pub refused : (why : Refusal) → a ≡ Err why → (c : Chosen) (k : List ℕ) → ChooseCall s m w l c k → (c ≡ refused_by s why) × (k ≡ m)

-- "the taking .. acts only if that is still what the line would do", after "a choice's own checks": a call of `take_offered` returned
-- `r` and left `m'`. The choice beside it is that of the worker and the line that the event names.
pub record Taken (s : State) (m : List ℕ) (e : Event) (r : Chosen) (m' : List ℕ) : Type 0 where
  -- the choice's own refusal
  pub own : (c : Chosen) (k : List ℕ) → ChooseCall s m (named (event_record e)).worker (named (event_record e)).line c k →
      (why : Refusal) → c.answer ≡ Err why → (r ≡ refused_by s why) × (m' ≡ m)
  -- 19 where it is accepted with another event
  pub other : (c : Chosen) (k : List ℕ) → ChooseCall s m (named (event_record e)).worker (named (event_record e)).line c k →
      Accepted (answer_of c.answer) → (c.answer ≡ offering e → ⊥) → (r ≡ refused_by s Refusal.OtherEvent) × (m' ≡ m)
  -- the choice where it gives this event
  pub same : (c : Chosen) (k : List ℕ) → ChooseCall s m (named (event_record e)).worker (named (event_record e)).line c k →
      c.answer ≡ offering e → (r ≡ c) × (m' ≡ k)
  -- so one that is accepted gives just the event that was handed in, and a refused one changes nothing
  pub accepted : Accepted (answer_of r.answer) → r.answer ≡ offering e
  pub unchanged : (n : ℕ) → answer_of r.answer ≡ Refused n → (r.state ≡ s) × (m' ≡ m)
