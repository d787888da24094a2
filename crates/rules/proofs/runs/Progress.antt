-- Before the end some choice is accepted.
use mathlib.Core.Path.{◌≡◌, refl, sym, ap, ◌∙◌}
use mathlib.Core.Bool.{true, false}
use mathlib.Core.List.{List}
use Prim.Native.Nat.{ℕ, zero, suc, ◌+◌, ◌*◌, ◌<◌}
use native.Mathlib.Omega.{arith}
use lib.ListN.{get_or}
use Rattle.vocabulary.specs.declared.Slots.{Slots}
use Rattle.rules.specs.RunState.{Pipeline, slot_at}
use Rattle.rules.specs.Choices.{Chosen, ended, at_work, choose}
use Rattle.rules.specs.Sources.{Source}
use Rattle.rules.specs.WholeRuns.{Accepted}
use Rattle.rules.proofs.lists.Tests.{holds, fails, see, never}
use Rattle.rules.proofs.standing.Standing.{Standing, serial_at}
use Rattle.rules.proofs.invariant.Invariant.{Allowed, State, whole, Inv}
use Rattle.rules.proofs.choices.Moves.{Move, stops, enters, starts, finishes, next_answer}
use Rattle.rules.proofs.choices.Workers.{not_at_work}
use Rattle.rules.proofs.choices.Steps.{slot_pipe, slot_rests, slot_runs, slot_stopped, slot_manned, busy_full, runs_move, waits_move}
use Rattle.rules.proofs.runs.Ending.{running, due, mobile, goes_on}
use Rattle.rules.proofs.choices.Answers.{started-accepted, finished-accepted, stopped-accepted}

-- a move is no refusal
pub move_accepted : {X : Type 0} {S : Source X} {plan : Pipeline} {workers : ℕ} {order : List ℕ} {z : X} {st : State X} {g : Standing} {w l : ℕ} {c : Chosen X} →
    Move S plan workers order z st g w l c → Accepted c.answer
move_accepted {S = S} {plan} {workers} {order} {z} m n e = elim m [
  | stops st' f k ↦ stopped-accepted n (sym (next_answer S plan workers order z k) ∙ e)
  | enters st' f k ↦ started-accepted n (sym (next_answer S plan workers order z k) ∙ e)
  | starts st' f k ↦ started-accepted n (sym (next_answer S plan workers order z k) ∙ e)
  | finishes st' f k ↦ finished-accepted n (sym (next_answer S plan workers order z k) ∙ e)
]

-- a worker at work runs a line
pub works_on : (slots : Slots) (w n : ℕ) → at_work slots w n ≡ true → (l : ℕ) × (l < n) × ((slot_at slots l).running ≡ true)
unfolding at_work
works_on slots w zero h = absurd (never (sym h))
works_on slots w (suc n) h = elim (see (slot_at slots n).running) [
  | holds r ↦ (n, omega arith, r)
  | fails r ↦ let q = works_on slots w n (rw r at h) in (q.0, omega (arith, q.1), q.2)
]

-- where no line runs, every worker is idle
pub none_works : (slots : Slots) (w n : ℕ) → ((l : ℕ) → l < n → (slot_at slots l).running ≡ false) → at_work slots w n ≡ false
none_works slots w n h = not_at_work slots w n (λ l k r e. never (sym r ∙ h l k))

module _ {X : Type 0} {S : Source X} {plan : Pipeline} {workers : ℕ} {order : List ℕ} {z : X} (ok : Allowed plan workers order)
    {st : State X} {g : Standing} (inv : Inv S plan workers order z st g) (e : ended (whole plan workers st) ≡ false) where
  -- a choice that makes a move
  pub record Allows (w l : ℕ) : Type 0 where
    pub worker : w < workers
    pub line : l < plan.lines
    pub makes : Move S plan workers order z st g w l (choose S (whole plan workers st) w l)

  -- a line that runs can finish, by its worker
  running_moves : (l : ℕ) → l < plan.lines → (slot_at st.slots l).running ≡ true → Allows (slot_at st.slots l).worker.0 l
  running_moves l h r = elim (see (g.busy l)) [
    | fails b ↦ absurd (never (sym r ∙ slot_rests ok inv l h b))
    | holds b ↦
        let n : st.stopped ≡ true → g.pipe l ≡ 0 → ⊥ = λ s f. never (sym r ∙ slot_stopped ok inv l h b s f) in
        let d : (slot_at st.slots l).worker.0 < workers = slot_manned ok inv l h b n in
        record { worker = d; line = h; makes = runs_move ok inv l h e (slot_at st.slots l).worker.0 d b n refl }
  ]

  -- a line that waits with counter 0 can start, if worker 0 is idle
  due_moves : (l : ℕ) → l < plan.lines → (slot_at st.slots l).running ≡ false → get_or st.counters (16 * l + (slot_at st.slots l).pipe.0) 0 ≡ 0 →
      at_work st.slots 0 plan.lines ≡ false → Allows 0 l
  due_moves l h r c o =
      let c' : get_or st.counters (16 * l + g.pipe l) 0 ≡ 0 = rw (slot_pipe ok inv l h) at c in
      elim (see (g.busy l)) [
        | fails b ↦ record { worker = ok.manned.some; line = h; makes = waits_move ok inv l h e 0 ok.manned.some b c' o }
        | holds b ↦ absurd (never (sym (slot_runs ok inv l h b (λ s f.
            omega (arith, c', busy_full ok inv l h b (ap (serial_at plan) f ∙ ok.ranged.first_serial)))) ∙ r))
      ]

  -- before the end there is a move
  pub some_move : (w l : ℕ) × Allows w l
  some_move = let q = mobile (whole plan workers st) plan.lines (goes_on ok inv e) in
      elim q.2 [
        | running r ↦ ((slot_at st.slots q.0).worker.0, q.0, running_moves q.0 q.1 r)
        | due r c ↦ elim (see (at_work st.slots 0 plan.lines)) [
          | fails o ↦ (0, q.0, due_moves q.0 q.1 r c o)
          | holds o ↦ let p = works_on st.slots 0 plan.lines o in
              ((slot_at st.slots p.0).worker.0, p.0, running_moves p.0 p.1 p.2)
        ]
      ]
