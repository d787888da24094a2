-- Answers and returns of the code that stand for one are one.
use Rattle.std.proofs.Common.{Result, Ok, Err}
use mathlib.Core.Path.{◌≡◌, refl, sym, ap, ◌∙◌}
use mathlib.Core.List.{List}
use Prim.Native.Nat.{ℕ}
use lib.Dec.{eqb}
use Rattle.rules.specs.Lists.{if}
use Rattle.rules.specs.Choices as rules
use Rattle.rules.specs.Answers.{answer_of}
use Rattle.vocabulary.specs.Refusals.{number_of}
use Rattle.vocabulary.specs.declared.event.Event.{Event}
use Rattle.vocabulary.specs.declared.event.Step.{Step}
use Rattle.vocabulary.specs.declared.refusal.Refusal.{Refusal}
use Rattle.engine.specs.declared.Chosen.{Chosen}
use Rattle.engine.specs.Machines.{chosen_of}
use Rattle.demands.proofs.Unchanged.{same_state}

-- the refusal of a number
pub refusal_at : ℕ → Refusal
refusal_at n =
    if (eqb n 1) Refusal.FileSize (if (eqb n 2) Refusal.PartSizes (if (eqb n 3) Refusal.Limits (if (eqb n 4) Refusal.Pipes
    (if (eqb n 5) Refusal.RecordLayout (if (eqb n 6) Refusal.ListsItself (if (eqb n 7) Refusal.TotalCount (if (eqb n 8) Refusal.Workers
    (if (eqb n 9) Refusal.Memory (if (eqb n 10) Refusal.NoLine (if (eqb n 11) Refusal.Ended (if (eqb n 12) Refusal.Early
    (if (eqb n 13) Refusal.WorkerBusy (if (eqb n 14) Refusal.Spoiled (if (eqb n 16) Refusal.RoundingPipe (if (eqb n 17) Refusal.Base
    (if (eqb n 18) Refusal.Lent (if (eqb n 19) Refusal.OtherEvent (if (eqb n 20) Refusal.JournalDiffers
    Refusal.WrongWorker))))))))))))))))))

pub number_back : (r : Refusal) → refusal_at (number_of r) ≡ r
unfolding refusal_at
number_back Refusal.FileSize = refl
number_back Refusal.PartSizes = refl
number_back Refusal.Limits = refl
number_back Refusal.Pipes = refl
number_back Refusal.RecordLayout = refl
number_back Refusal.ListsItself = refl
number_back Refusal.TotalCount = refl
number_back Refusal.Workers = refl
number_back Refusal.Memory = refl
number_back Refusal.NoLine = refl
number_back Refusal.Ended = refl
number_back Refusal.Early = refl
number_back Refusal.WorkerBusy = refl
number_back Refusal.Spoiled = refl
number_back Refusal.RoundingPipe = refl
number_back Refusal.Base = refl
number_back Refusal.Lent = refl
number_back Refusal.OtherEvent = refl
number_back Refusal.JournalDiffers = refl
number_back Refusal.WrongWorker = refl

-- the answer with these values of the paper
abbrev step : ℕ → ℕ → ℕ → ℕ → ℕ → Step
step l p t k w = record {
  line = record { 0 = l };
  pipe = record { 0 = p };
  token = record { 0 = t };
  place = record { 0 = k };
  worker = record { 0 = w };
}

answer_at : rules.Answer → Result Event Refusal
answer_at (rules.Started l p t k w) = Ok (Event.Started (step l p t k w))
answer_at (rules.Finished l p t k w) = Ok (Event.Finished (step l p t k w))
answer_at (rules.Stopped l w) = Ok (Event.Stopped (record { line = record { 0 = l }; worker = record { 0 = w } }))
answer_at (rules.Refused n) = Err (refusal_at n)

answer_back : (a : Result Event Refusal) → answer_at (answer_of a) ≡ a
unfolding answer_at answer_of
answer_back (Ok (Event.Started s)) = refl
answer_back (Ok (Event.Finished s)) = refl
answer_back (Ok (Event.Stopped s)) = refl
answer_back (Err r) = ap Err (number_back r)

pub one_answer : (a b : Result Event Refusal) → answer_of a ≡ answer_of b → a ≡ b
one_answer a b e = sym (answer_back a) ∙ ap answer_at e ∙ answer_back b

-- two returns, with the memories that they left
pub one_return : (r c : Chosen) (m k : List ℕ) → chosen_of r m ≡ chosen_of c k → (r ≡ c) × (m ≡ k)
unfolding chosen_of
one_return r c m k e =
    let answer-is = one_answer r.answer c.answer (ap (λ x. x.answer) e) in
    let (state_is, same) = same_state r.state c.state m k (ap (λ x. x.machine) e) in
    (λ i. record { answer = answer-is i; state = state_is i }, same)
