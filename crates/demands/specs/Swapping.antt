-- Swapping neighbours (02, 2.12), for runs of the code: two calls of `choose` after a session, in one order and in the other.
use Rattle.vocabulary.specs.declared.refusal.Refusal.{Refusal}
use Rattle.std.specs.Prelude.{◌≡◌, List, [], ◌∷◌, map, ℕ, Result}
use Rattle.rules.specs.Lists.{Every}
use Rattle.rules.specs.Choices.{Choice}
use Rattle.rules.specs.WholeRuns.{Accepted}
use Rattle.rules.specs.Answers.{answer_of}
use Rattle.vocabulary.specs.declared.event.Event.{Event}
use Rattle.state.specs.declared.State.{State}
use Rattle.demands.specs.CodeRuns.{Calls, Session}

-- from one state and memory the choices a and b, with their answers and what they left, and b and a with theirs
pub record Swapped {s : State} {m : List ℕ} {a b : Choice} {on-a on-b : Result Event Refusal} {left : State} {memory : List ℕ}
    (one_way : Calls s m (a ∷ b ∷ []) (on-a ∷ on-b ∷ []) left memory)
    {on-b' on-a' : Result Event Refusal} {left' : State} {memory' : List ℕ}
    (other_way : Calls s m (b ∷ a ∷ []) (on-b' ∷ on-a' ∷ []) left' memory') : Type 0 where
  -- "the same state and tables": the same numbers in all the memory lent
  pub states : left ≡ left'
  pub memories : memory ≡ memory'
  -- and each has the same event, made first or second
  pub event_a : answer_of on-a ≡ answer_of on-a'
  pub event_b : answer_of on-b ≡ answer_of on-b'

-- "from a state of an opened run, two choices on different lines, if both orders of the two are accepted, lead to the same state and
-- tables": after any session
pub record Swapping {file : List ℕ} {workers : ℕ} {lent : List ℕ} {choices : List Choice} (s : Session file workers lent choices) : Type 0 where
  pub swapped : {a b : Choice} → (a.line ≡ b.line → ⊥) → {on-a on-b on-b' on-a' : Result Event Refusal} {left left' : State} {memory memory' : List ℕ}
      (one_way : Calls s.state s.memory (a ∷ b ∷ []) (on-a ∷ on-b ∷ []) left memory)
      (other_way : Calls s.state s.memory (b ∷ a ∷ []) (on-b' ∷ on-a' ∷ []) left' memory') →
      Every Accepted (map answer_of (on-a ∷ on-b ∷ [])) → Every Accepted (map answer_of (on-b' ∷ on-a' ∷ [])) → Swapped one_way other_way
