-- The checksum of a list of choices, one choice at a time, and of an answer.
use mathlib.Core.Path.{◌≡◌, refl, sym, ap, ◌∙◌}
use mathlib.Core.List.{List, [], ◌∷◌, ◌++◌}
use native.Mathlib.Omega.{arith}
use Rattle.std.specs.Prelude.{Result, Ok, Err}
use Prim.Native.Nat.{ℕ, ◌+◌, ◌*◌, ◌<◌}
use lib.ListN.{length, get_or}
use Rattle.rules.specs.Answers.{answer_of}
use Rattle.vocabulary.specs.Refusals.{number_of}
use Rattle.rules.specs.Choices.{choices_in, choose, answers, follow}
use Rattle.vocabulary.specs.declared.event.Step.{Step}
use Rattle.vocabulary.specs.declared.event.Stop.{Stop}
use Rattle.vocabulary.specs.declared.event.Event.{Event}
use Rattle.vocabulary.specs.declared.refusal.Refusal.{Refusal}
use Rattle.tables.specs.Calls.{memory_source}
use Rattle.state.specs.Machines.{machine_of}
use Rattle.engine.specs.Machines.{chosen_of}
use Rattle.state.specs.declared.State.{State}
use Rattle.engine.specs.declared.Chosen.{Chosen}
use Rattle.opening.specs.declared.Opened.{Opened}
use Rattle.opening.specs.Opened.{open_of}
use Rattle.whole_run.specs.Checksums.{step_value, stop_value, value_of, mixed, checksum}
use Rattle.whole_run.specs.Runs.{ran_from, run_of}

-- an answer's value, case by case
module _ {a : Result Event Refusal} {v : ℕ} where
  pub value_started : {s : Step} → a ≡ Ok (Event.Started s) → v ≡ step_value s.line.0 s.pipe.0 s.token.0 s.place.0 s.worker.0 → v ≡ value_of (answer_of a)
  unfolding value_of answer_of
  value_started e h = rw e h

  pub value_finished : {s : Step} → a ≡ Ok (Event.Finished s) → v ≡ step_value s.line.0 s.pipe.0 s.token.0 s.place.0 s.worker.0 → v + 1 ≡ value_of (answer_of a)
  unfolding value_of answer_of
  value_finished e h = rw (e, h)

  pub value_stopped : {s : Stop} → a ≡ Ok (Event.Stopped s) → v ≡ stop_value s.line.0 s.worker.0 → v + 2 ≡ value_of (answer_of a)
  unfolding value_of answer_of
  value_stopped e h = rw (e, h)

  pub value_refused : {n : ℕ} {why : Refusal} → a ≡ Err why → n ≡ number_of why → v ≡ n → 4 * v + 3 ≡ value_of (answer_of a)
  unfolding value_of answer_of
  value_refused e n-is h = rw (e, h, n-is)

-- no choice in less than two bytes
pub none_in : (bytes : List ℕ) → length bytes < 2 → choices_in bytes ≡ []
unfolding choices_in
none_in [] h = refl
none_in (w ∷ []) h = refl
none_in (w ∷ (l ∷ rest)) h = absurd (omega arith)

-- else the first two are one
pub choice_first : (chunk left : List ℕ) → length chunk ≡ 2 →
    choices_in (chunk ++ left) ≡ record { worker = get_or chunk 0 0; line = get_or chunk 1 0 } ∷ choices_in left
unfolding choices_in
choice_first (w ∷ (l ∷ [])) left h = refl
choice_first [] left h = absurd (omega arith)
choice_first (w ∷ []) left h = absurd (omega arith)
choice_first (w ∷ (l ∷ (x ∷ more))) left h = absurd (omega arith)

-- the choices of the bytes, some of which are left: the sum and the machine go on as those at the start do
module _ (bytes m₀ : List ℕ) (s₀ : State) (sum₀ : ℕ) where
  pub record GoesOn (rest m : List ℕ) (s : State) (sum : ℕ) : Type 0 where
    pub sum_goes : checksum sum₀ (answers memory_source (machine_of s₀ m₀) (choices_in bytes)) ≡
        checksum sum (answers memory_source (machine_of s m) (choices_in rest))
    pub machine_goes : follow memory_source (machine_of s₀ m₀) (choices_in bytes) ≡ follow memory_source (machine_of s m) (choices_in rest)

module _ {bytes m₀ : List ℕ} {s₀ : State} {sum₀ : ℕ} {rest m : List ℕ} {s : State} {sum : ℕ} (inv : GoesOn bytes m₀ s₀ sum₀ rest m s sum) where
  -- after a choice, its answer added,
  pub again : (chunk left : List ℕ) → rest ≡ chunk ++ left → length chunk ≡ 2 → {w l : ℕ} → w ≡ get_or chunk 0 0 → l ≡ get_or chunk 1 0 →
      (r : Chosen) (m' : List ℕ) → chosen_of r m' ≡ choose memory_source (machine_of s m) w l →
      {n : ℕ} → n ≡ mixed sum (value_of (answer_of r.answer)) → GoesOn bytes m₀ s₀ sum₀ left m' r.state n
  unfolding checksum chosen_of answers follow
  again chunk left rest-is two w-is l-is r m' made n-is = record {
    sum_goes = inv.sum_goes ∙ rw (rest-is, choice_first chunk left two, ← w-is, ← l-is, n-is)
        (ap (λ c. checksum (mixed sum (value_of c.answer)) (answers memory_source c.machine (choices_in left))) (sym made));
    machine_goes = inv.machine_goes ∙ rw (rest-is, choice_first chunk left two, ← w-is, ← l-is)
        (ap (λ c. follow memory_source c.machine (choices_in left)) (sym made));
  }

  -- and after the last
  pub at_end : length rest < 2 → (sum ≡ checksum sum₀ (answers memory_source (machine_of s₀ m₀) (choices_in bytes))) ×
      (m ≡ (follow memory_source (machine_of s₀ m₀) (choices_in bytes)).source.1)
  unfolding checksum answers follow machine_of
  at_end short = let none = none_in rest short in
      (sym (inv.sum_goes ∙ rw none refl), sym (ap (λ x. x.source.1) inv.machine_goes ∙ rw none refl))

-- the whole run, by what the opening answered
module _ (file : List ℕ) (workers : ℕ) (choices m : List ℕ) {o : Opened} {m' : List ℕ}
    (o_is : o ≡ (open_of file workers m).0) (m-is : m' ≡ (open_of file workers m).1) where
  -- it goes on from there
  from_opening : ran_from o.answer o.state choices m' ≡ run_of file workers choices m
  unfolding run_of
  from_opening = rw (o_is, m-is)

  pub refused_run : {why : Refusal} {n r : ℕ} → o.answer ≡ Err why → n ≡ number_of why → r ≡ n →
      (r ≡ (run_of file workers choices m).0) × (m' ≡ (run_of file workers choices m).1)
  unfolding ran_from
  refused_run e n-is r-is = rw (← from_opening, e) (r-is ∙ n-is, refl)

  pub accepted_run : {r : ℕ} {m'' : List ℕ} → o.answer ≡ Ok tt →
      r ≡ checksum 0 (answers memory_source (machine_of o.state m') (choices_in choices)) → m'' ≡ (follow memory_source (machine_of o.state m') (choices_in choices)).source.1 →
      (r ≡ (run_of file workers choices m).0) × (m'' ≡ (run_of file workers choices m).1)
  unfolding ran_from
  accepted_run e r-is m-was = rw (← from_opening, e) (r-is, m-was)
