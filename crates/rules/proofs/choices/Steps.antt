-- Every choice is refused, with a number other than 14, or makes a move.
use mathlib.Core.Path.{◌≡◌, sym, ap, ◌∙◌}
use mathlib.Core.Bool.{true, false}
use mathlib.Core.List.{List}
use Prim.Native.Nat.{ℕ, ◌+◌, ◌*◌, ◌<◌}
use native.Mathlib.Omega.{arith}
use lib.ListN.{get_or}
use Rattle.vocabulary.specs.declared.Slot.{Slot}
use Rattle.rules.specs.RunState.{Pipeline, slot_at, slot_of, counter_of}
use Rattle.rules.specs.Choices.{Chosen, refuse}
use Rattle.rules.specs.Sources.{Source}
use Rattle.rules.specs.Ranges.{sound}
use Rattle.rules.specs.Choices.{ended, at_work, choose}
use Rattle.rules.proofs.lists.Tests.{same, other, same_as, lower, upper, below, holds, fails, see, never}
use Rattle.rules.proofs.standing.Standing.{Standing, serial_at, waiting, turn, start_busy, turn_no}
use Rattle.rules.proofs.standing.Begin.{waiting_busy}
use Rattle.rules.proofs.invariant.Invariant.{Allowed, State, whole, Inv}
use Rattle.rules.proofs.invariant.Slots.{shown_pipe, shown_rests, shown_runs, shown_stopped}
use Rattle.rules.proofs.invariant.Sound.{is_sound}
use Rattle.rules.proofs.choices.Moves.{Move, finish_move, start_move}
use Rattle.rules.proofs.choices.Cases.{far, unknown, over, running_choice, another, early, occupied, waiting_choice}

module _ {X : Type 0} (S : Source X) (plan : Pipeline) (workers : ℕ) (order : List ℕ) (z : X) where
  -- what a choice of worker w and line l does
  pub data Step (st : State X) (g : Standing) (w l : ℕ) (c : Chosen X) : Type 0 where
    refuses : (n : ℕ) → (n ≡ 14 → ⊥) → c ≡ refuse (whole plan workers st) n → Step st g w l c
    moves : Move S plan workers order z st g w l c → Step st g w l c

module _ {X : Type 0} {S : Source X} {plan : Pipeline} {workers : ℕ} {order : List ℕ} {z : X} (ok : Allowed plan workers order)
    {st : State X} {g : Standing} (inv : Inv S plan workers order z st g) where
  -- the machine is sound
  pub sound_here_lem : sound S (whole plan workers st) ≡ true
  sound_here_lem = is_sound ok inv

  module _ (l : ℕ) (i : l < plan.lines) where
    -- the pipe that a line's slot says
    pub slot_pipe : (slot_at st.slots l).pipe.0 ≡ g.pipe l
    slot_pipe = ap (λ (s : Slot). s.pipe.0) (inv.slotted.used l i).is ∙ shown_pipe order st.stopped g l _

    -- a line that is not busy does not run
    pub slot_rests : g.busy l ≡ false → (slot_at st.slots l).running ≡ false
    slot_rests b = ap (λ (s : Slot). s.running) (inv.slotted.used l i).is ∙ shown_rests order st.stopped g l _ b

    -- a busy line runs
    pub slot_runs : g.busy l ≡ true → (st.stopped ≡ true → g.pipe l ≡ 0 → ⊥) → (slot_at st.slots l).running ≡ true
    slot_runs b n = ap (λ (s : Slot). s.running) ((inv.slotted.used l i).is ∙ shown_runs order st.stopped g l _ n b)

    -- by one of the workers
    pub slot_manned : g.busy l ≡ true → (st.stopped ≡ true → g.pipe l ≡ 0 → ⊥) → (slot_at st.slots l).worker.0 < workers
    slot_manned b n =
        let u = inv.slotted.used l i in
        let e : (slot_at st.slots l).worker.0 ≡ u.worker =
        ap (λ (s : Slot). s.worker.0) (u.is ∙ shown_runs order st.stopped g l u.worker n b) in
        omega (arith, u.manned)

    -- unless it has stopped
    pub slot_stopped : g.busy l ≡ true → st.stopped ≡ true → g.pipe l ≡ 0 → (slot_at st.slots l).running ≡ false
    slot_stopped b s e = ap (λ (s : Slot). s.running) ((inv.slotted.used l i).is ∙ shown_stopped order st.stopped g l _ e b s)

    -- the counter of a line that is busy is full
    pub busy_full : g.busy l ≡ true → serial_at plan (g.pipe l) ≡ true → get_or st.counters (16 * l + g.pipe l) 0 ≡ 2
    busy_full b s =
        let none : turn plan g l (g.pipe l) ≡ 0 = turn_no ok.ranged g l (g.pipe l) (λ e.
        omega (arith, e, start_busy ok.ranged g l b, inv.good.held l i s b, ok.ranged.lines_some)) in
        let two : get_or st.counters (16 * l + g.pipe l) 0 + waiting g l (g.pipe l) + turn plan g l (g.pipe l) ≡ 2 =
        rw s at (inv.tally.counts l (g.pipe l) i (inv.good.at l i)) in
        omega (arith, waiting_busy g l (g.pipe l) b)

    -- the counter that decides of a waiting line
    counter_here : counter_of (whole plan workers st) l (slot_of (whole plan workers st) l).pipe.0 ≡ get_or st.counters (16 * l + g.pipe l) 0
    counter_here = rw slot_pipe

    module _ (e : ended (whole plan workers st) ≡ false) (w : ℕ) (d : w < workers) where
      -- the choice of a running line, by its worker, is a move
      pub runs_move : g.busy l ≡ true → (st.stopped ≡ true → g.pipe l ≡ 0 → ⊥) → (slot_at st.slots l).worker.0 ≡ w →
          Move S plan workers order z st g w l (choose S (whole plan workers st) w l)
      runs_move b n o = rw (running_choice S (whole plan workers st) w l sound_here_lem i d e (slot_runs b n) o)
          (finish_move ok inv w d l i b n o)

      -- the choice of a waiting line with counter 0 is a move, if the worker is idle
      pub waits_move : g.busy l ≡ false → get_or st.counters (16 * l + g.pipe l) 0 ≡ 0 → at_work st.slots w plan.lines ≡ false →
          Move S plan workers order z st g w l (choose S (whole plan workers st) w l)
      waits_move b c o = rw (waiting_choice S (whole plan workers st) w l sound_here_lem i d e (slot_rests b) (counter_here ∙ c) o)
          (start_move ok inv w d l i b c)

      waits_step : g.busy l ≡ false → Step S plan workers order z st g w l (choose S (whole plan workers st) w l)
      waits_step b = elim (same_as (get_or st.counters (16 * l + g.pipe l) 0) 0) [
        | other n t ↦ refuses 12 (omega arith) (early S (whole plan workers st) w l sound_here_lem i d e (slot_rests b) (rw slot_pipe (omega arith)))
        | same c t ↦ elim (see (at_work st.slots w plan.lines)) [
          | fails o ↦ moves (waits_move b c o)
          | holds o ↦ refuses 13 (omega arith) (occupied S (whole plan workers st) w l sound_here_lem i d e (slot_rests b) (counter_here ∙ c) o)
        ]
      ]

      -- the line that stopped is refused
      stopped_step : g.busy l ≡ true → st.stopped ≡ true → g.pipe l ≡ 0 → Step S plan workers order z st g w l (choose S (whole plan workers st) w l)
      stopped_step b s f =
          let two : get_or st.counters (16 * l + g.pipe l) 0 ≡ 2 = busy_full b (ap (serial_at plan) f ∙ ok.ranged.first_serial) in
          refuses 12 (omega arith) (early S (whole plan workers st) w l sound_here_lem i d e (slot_stopped b s f) (rw slot_pipe (omega arith)))

      -- a running line's finish, by its worker or by another
      runs_step : g.busy l ≡ true → (st.stopped ≡ true → g.pipe l ≡ 0 → ⊥) → Step S plan workers order z st g w l (choose S (whole plan workers st) w l)
      runs_step b n = elim (same_as (slot_at st.slots l).worker.0 w) [
        | same o t ↦ moves (runs_move b n o)
        | other o t ↦ refuses 26 (omega arith) (another S (whole plan workers st) w l sound_here_lem i d e (slot_runs b n) o)
      ]

      busy_step : g.busy l ≡ true → Step S plan workers order z st g w l (choose S (whole plan workers st) w l)
      busy_step b = elim (see st.stopped) [
        | fails s ↦ runs_step b (λ t. absurd (never (sym t ∙ s)))
        | holds s ↦ elim (same_as (g.pipe l) 0) [
          | same f t ↦ stopped_step b s f
          | other n t ↦ runs_step b (λ u. n)
        ]
      ]

  -- every choice is a step
  pub step : (w l : ℕ) → Step S plan workers order z st g w l (choose S (whole plan workers st) w l)
  step w l = elim (below l plan.lines) [
    | upper h t ↦ refuses 10 (omega arith) (far S (whole plan workers st) w l sound_here_lem h)
    | lower h t ↦ elim (below w workers) [
      | upper d u ↦ refuses 26 (omega arith) (unknown S (whole plan workers st) w l sound_here_lem h d)
      | lower d u ↦ elim (see (ended (whole plan workers st))) [
        | holds e ↦ refuses 11 (omega arith) (over S (whole plan workers st) w l sound_here_lem h d e)
        | fails e ↦ elim (see (g.busy l)) [ fails b ↦ waits_step l h e w d b | holds b ↦ busy_step l h e w d b ]
      ]
    ]
  ]
