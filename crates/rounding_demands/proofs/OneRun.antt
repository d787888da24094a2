-- Runs and returns of the code that stand for one are one.
use mathlib.Core.Path.{◌≡◌, ap}
use mathlib.Core.List.{List}
use Prim.Native.Nat.{ℕ}
use Rattle.rules.specs.Rounding as paper
use Rattle.rules.specs.Rounding.{RoundedChosen}
use Rattle.tables.specs.State as tables
use Rattle.rounding.specs.declared.Rounding.{Rounding}
use Rattle.rounding.specs.declared.run.Run.{Run}
use Rattle.rounding.specs.Roundings.{rounding_of}
use Rattle.rounding.specs.Runs.{run_of}
use Rattle.rounded.specs.declared.Chosen.{Chosen}
use Rattle.rounded.specs.Runs.{chosen_of}
use Rattle.demands.proofs.Unchanged.{same_state}
use Rattle.demands.proofs.OneAnswer.{one_answer}

-- the three numbers of a rounding
pub same_rounding : (r q : Rounding) → rounding_of r ≡ rounding_of q → r ≡ q
same_rounding r q e = λ i. record { pipe = record { 0 = (e i).pipe }; base = (e i).base; sum = (e i).sum }

-- a run and its memory
pub same_run : (r q : Run) (m k : List ℕ) → run_of r m ≡ run_of q k → (r ≡ q) × (m ≡ k)
unfolding run_of
same_run r q m k e =
    let (states, memories) = same_state r.state q.state m k (ap (λ (x : paper.Run tables.State). x.machine) e) in
    let roundings = same_rounding r.rounding q.rounding (ap (λ (x : paper.Run tables.State). x.rounding) e) in
    (λ i. record { state = states i; rounding = roundings i }, memories)

-- what a choice returns, with the memory and figures that it left
pub same_return : (c d : Chosen) (m k f g : List ℕ) → chosen_of c m f ≡ chosen_of d k g → (c ≡ d) × (m ≡ k) × (f ≡ g)
unfolding chosen_of
same_return c d m k f g e =
    let answer-is = one_answer c.answer d.answer (ap (λ (x : RoundedChosen tables.State). x.answer) e) in
    let (runs, memories) = same_run c.run d.run m k (ap (λ (x : RoundedChosen tables.State). x.run) e) in
    (λ i. record { answer = answer-is i; run = runs i }, memories, ap (λ (x : RoundedChosen tables.State). x.figures) e)
