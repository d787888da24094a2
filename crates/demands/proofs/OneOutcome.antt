-- What `choose` ensures leaves nothing open: not the answer, nor a number of the state or of the memory.
use mathlib.Core.Path.{sym, ap, ◌∙◌}
use mathlib.Core.List.{List}
use Prim.Native.Nat.{ℕ}
use Rattle.state.specs.declared.State.{State}
use Rattle.engine.specs.declared.Chosen.{Chosen}
use Rattle.engine.specs.Machines.{chosen_of}
use Rattle.demands.specs.CodeRuns.{ChooseCall}
use Rattle.demands.specs.OneOutcome.{SameOutcome}
use Rattle.demands.proofs.Unchanged.{same_state}

pub one_outcome : (s : State) (m : List ℕ) (w l : ℕ) (r r' : Chosen) (m' m'' : List ℕ) →
    ChooseCall s m w l r m' → ChooseCall s m w l r' m'' → SameOutcome r r' m' m''
unfolding chosen_of
one_outcome s m w l r r' m' m'' one another =
    let same = one ∙ sym another in
    let (states, memories) = same_state r.state r'.state m' m'' (ap (λ c. c.machine) same) in
    record { answers = ap (λ c. c.answer) same; states = states; memories = memories }
