-- A choice made by an offer and a second call.
use mathlib.Core.Path.{◌≡◌, refl, sym, ap, ◌∙◌}
use mathlib.Core.Bool.{true}
use mathlib.Core.List.{List}
use Prim.Native.Nat.{ℕ}
use Rattle.std.specs.Prelude.{Result}
use Rattle.rules.specs.Answers.{answer_of}
use Rattle.rules.specs.Choices.{choose}
use Rattle.rules.specs.Choices as rules
use Rattle.rules.specs.Offers.{offer, only_if}
use Rattle.rules.proofs.choices.Offered.{only_same}
use Rattle.vocabulary.specs.declared.event.Event.{Event}
use Rattle.vocabulary.specs.declared.refusal.Refusal.{Refusal}
use Rattle.tables.specs.State as tables
use Rattle.tables.specs.Calls.{memory_source}
use Rattle.state.specs.Machines.{machine_of}
use Rattle.engine.specs.Machines.{chosen_of}
use Rattle.state.specs.declared.State.{State}
use Rattle.engine.specs.declared.Chosen.{Chosen}

-- what an offer answers, with what the choice leaves, is the choice
pub made_as_offered : (s : State) (m : List ℕ) (w l : ℕ) (a : Result Event Refusal) → answer_of a ≡ offer memory_source (machine_of s m) w l →
    (r : Chosen) (m' : List ℕ) → chosen_of r m' ≡ choose memory_source (machine_of s m) w l →
    chosen_of (record { answer = a; state = r.state }) m' ≡ choose memory_source (machine_of s m) w l
unfolding chosen_of
made_as_offered s m w l a offers r m' e =
    ap {B = rules.Chosen tables.State} (λ x. record { answer = x; machine = machine_of r.state m' }) (offers ∙ ap (λ c. c.answer) (sym e)) ∙ e

-- the same of a choice that is made with leave
pub made_if_as_offered : (s : State) (m : List ℕ) (w l : ℕ) (a : Result Event Refusal) → answer_of a ≡ offer memory_source (machine_of s m) w l →
    (r : Chosen) (m' : List ℕ) (n : ℕ) → chosen_of r m' ≡ only_if (machine_of s m) true n (choose memory_source (machine_of s m) w l) →
    chosen_of (record { answer = a; state = r.state }) m' ≡ choose memory_source (machine_of s m) w l
made_if_as_offered s m w l a offers r m' n e = made_as_offered s m w l a offers r m' (e ∙ only_same _ _ _ _ refl)
