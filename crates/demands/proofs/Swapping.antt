-- Two calls after a session do the same in either order.
use Rattle.std.proofs.Common.{Result}
use Rattle.vocabulary.specs.declared.refusal.Refusal.{Refusal}
use mathlib.Core.Path.{◌≡◌, sym, ◌∙◌}
use mathlib.Core.List.{List, [], ◌∷◌, map}
use Prim.Native.Nat.{ℕ}
use Rattle.rules.specs.Lists.{Every}
use Rattle.rules.specs.Choices.{Choice, answers}
use Rattle.rules.specs.WholeRuns.{Accepted}
use Rattle.rules.specs.Answers.{answer_of}
use Rattle.rules.specs.Swapping as rules
use Rattle.rules.proofs.runs.Swapping.{swapping as rules_swapping}
use Rattle.vocabulary.specs.declared.event.Event.{Event}
use Rattle.fields.specs.Bytes.{Bytes}
use Rattle.tables.specs.Calls.{memory_source}
use Rattle.state.specs.Machines.{machine_of}
use Rattle.state.specs.declared.State.{State}
use Rattle.demands.specs.CodeRuns.{Calls, Session}
use Rattle.demands.specs.Swapping.{Swapped, Swapping}
use Rattle.demands.proofs.ValidPlans.{ranged}
use Rattle.demands.proofs.Demands.{memory_sheet}
use Rattle.demands.proofs.Unchanged.{same_state}
use Rattle.demands.proofs.CodeRuns.{calls_told, here, run_here}

module _ {file : List ℕ} (bytes : Bytes file) {workers : ℕ} {m : List ℕ} {cs : List Choice} (s : Session file workers m cs) where
  module _ {a b : Choice} (apart : a.line ≡ b.line → ⊥) {on-a on-b on-b' on-a' : Result Event Refusal} {left left' : State} {memory memory' : List ℕ}
      (one_way : Calls s.state s.memory (a ∷ b ∷ []) (on-a ∷ on-b ∷ []) left memory)
      (other_way : Calls s.state s.memory (b ∷ a ∷ []) (on-b' ∷ on-a' ∷ []) left' memory')
      (accepted : Every Accepted (map answer_of (on-a ∷ on-b ∷ []))) (accepted' : Every Accepted (map answer_of (on-b' ∷ on-a' ∷ []))) where
    -- by the rules, from the machine that the session left
    by_rules : rules.Swapped memory_source (machine_of s.state s.memory) a b
    by_rules =
        let o = here bytes s in
        rw (run_here bytes s).left_is ((rules_swapping (ranged o.valid) o.manned (memory_sheet o.plan o.valid m) cs).swapped a b apart
        (rw (← (run_here bytes s).left_is, ← (calls_told one_way).0) accepted)
        (rw (← (run_here bytes s).left_is, ← (calls_told other_way).0) accepted'))

    swapped_calls : Swapped one_way other_way
    unfolding answers
    swapped_calls =
        let (told_is, left_is) = calls_told one_way in
        let (told-is', left-is') = calls_told other_way in
        let (states, memories) = same_state left left' memory memory' (left_is ∙ by_rules.left ∙ sym left-is') in
        record {
          states = states;
          memories = memories;
          event_a = cc (told_is, told-is', by_rules.event_a);
          event_b = cc (told_is, told-is', by_rules.event_b);
        }

  -- so of every session
  pub swapping : Swapping s
  swapping = record { swapped = λ apart one_way other_way accepted accepted'. swapped_calls apart one_way other_way accepted accepted' }
