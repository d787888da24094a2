-- What a choice does in any machine, also in one that no run leaves: refused, it changes nothing; accepted, it makes what its line's
-- slot says.
use mathlib.Core.Path.{◌≡◌, refl, sym, ap, subst, ◌∙◌}
use mathlib.Core.Bool.{Bool, true, false}
use mathlib.Core.List.{List}
use Prim.Native.Nat.{ℕ, suc}
use lib.Dec.{ltb, eqb}
use lib.ListN.{get_or, set}
use borrow.Author.Tests.{eqb-true, eqb-false}
use Rattle.vocabulary.specs.declared.Slot.{Slot}
use Rattle.rules.specs.Lists.{if}
use Rattle.rules.specs.Sources.{Source, Taken, Spoiled, Nothing, Took, Released, Broken, Passed}
use Rattle.rules.specs.RunState.{Machine, runs, put_slot, slot_of, counter_at, counter_of, is_serial, full}
use Rattle.rules.specs.Ranges.{sound}
use Rattle.rules.specs.Choices.{Answer, Started, Finished, Stopped, Refused, Chosen, refuse, with_place, next, moved, fall, filled, at_work, ended}
use Rattle.rules.specs.Choices.{start_first, start_later, start, settle, finish_with, finish_first, finish, move, choose}
use Rattle.rules.specs.WholeRuns.{Accepted}
use Rattle.rules.proofs.lists.Tests.{by_test, never}
use Rattle.rules.proofs.lists.SlotRows.{put_own}
use Rattle.rules.proofs.choices.Answers.{started-accepted, finished-accepted, stopped-accepted}

-- what an accepted choice makes, but for the counters: its event, its line's slot, how many places were given, whether the run is
-- marked stopped, and the source
pub record Effect (X : Type 0) : Type 0 where
  pub answer : Answer
  pub slot : Slot
  pub placed : ℕ
  pub stopped : Bool
  pub source : X

-- the source after a finish at pipe 0
abbrev pub released_from : {X : Type 0} → X → Released X → X
released_from x Broken = x
released_from x (Passed y) = y

-- a fall that there is only at a serial pipe
abbrev pub fall_if : Bool → List ℕ → ℕ → List ℕ
fall_if serial c i = if serial (fall c i) c

-- line l, with slot s, is chosen
module _ {X : Type 0} (m : Machine X) (l : ℕ) (s : Slot) where
  -- the counters after it: a running line's falls, or a waiting one's fill
  unfoldable pub counters_by : List ℕ → List ℕ
  counters_by c =
      if s.running
      (fall (fall_if (is_serial m s.pipe.0) c (counter_at (next m.lines l) s.pipe.0)) (counter_at l (next m.pipes s.pipe.0)))
      (set c (counter_at l s.pipe.0) (full (is_serial m s.pipe.0)))

  pub counters_start : s.running ≡ false → (c : List ℕ) → counters_by c ≡ set c (counter_at l s.pipe.0) (full (is_serial m s.pipe.0))
  unfolding counters_by
  counters_start r c = rw r

  pub counters_finish : s.running ≡ true → (c : List ℕ) →
      counters_by c ≡ fall (fall_if (is_serial m s.pipe.0) c (counter_at (next m.lines l) s.pipe.0)) (counter_at l (next m.pipes s.pipe.0))
  unfolding counters_by
  counters_finish r c = rw r

  -- where a finish lets the next line's counter fall, that one is not 0
  abbrev pub NextCanFall : Type 0
  NextCanFall = s.running ≡ true → is_serial m s.pipe.0 ≡ true → counter_of m (next m.lines l) s.pipe.0 ≡ 0 → ⊥

  -- it runs and finishes, and the source becomes x
  abbrev pub finish_effect : X → Effect X
  finish_effect x = record {
    answer = Finished l s.pipe.0 s.token.0 s.place.0 s.worker.0;
    slot = moved m.pipes s;
    placed = m.placed;
    stopped = m.stopped;
    source = x;
  }

  module _ (w : ℕ) where
    -- it waits at a later pipe and is started by worker w
    abbrev pub start_effect : Effect X
    start_effect = record {
      answer = Started l s.pipe.0 s.token.0 s.place.0 w;
      slot = runs s.pipe.0 s.token.0 s.place.0 w;
      placed = m.placed;
      stopped = m.stopped;
      source = m.source;
    }

    -- it waits at pipe 0, and the source gives this; what is spoiled is refused, and has no effect
    unfoldable pub enter_effect : Taken X → Effect X
    enter_effect Spoiled = record { answer = Refused 14; slot = s; placed = m.placed; stopped = m.stopped; source = m.source }
    enter_effect (Nothing x) = record { answer = Stopped l w; slot = s; placed = m.placed; stopped = true; source = x }
    enter_effect (Took t x) = record {
      answer = Started l 0 t m.placed w;
      slot = runs 0 t m.placed w;
      placed = suc m.placed;
      stopped = m.stopped;
      source = x;
    }

module _ {X : Type 0} (S : Source X) (m : Machine X) (w l : ℕ) (s : Slot) where
  -- only at pipe 0 has the source a part in it
  unfoldable pub effect : Effect X
  effect =
      if (eqb s.pipe.0 0)
      (if s.running (finish_effect m l s (released_from m.source (S.release s.token.0 m.source))) (enter_effect m l s w (S.take m.source)))
      (if s.running (finish_effect m l s m.source) (start_effect m l s w))

  module _ (r : s.running ≡ false) where
    pub enters : eqb s.pipe.0 0 ≡ true → effect ≡ enter_effect m l s w (S.take m.source)
    unfolding effect
    enters e = rw (e, r)

    pub starts : eqb s.pipe.0 0 ≡ false → effect ≡ start_effect m l s w
    unfolding effect
    starts e = rw (e, r)

  module _ (r : s.running ≡ true) where
    pub releases : eqb s.pipe.0 0 ≡ true → effect ≡ finish_effect m l s (released_from m.source (S.release s.token.0 m.source))
    unfolding effect
    releases e = rw (e, r)

    pub finishes : eqb s.pipe.0 0 ≡ false → effect ≡ finish_effect m l s m.source
    unfolding effect
    finishes e = rw (e, r)

  -- by the four kinds of it
  pub by_effect : (P : Effect X → Type 0) →
      (s.running ≡ true → P (finish_effect m l s (released_from m.source (S.release s.token.0 m.source)))) →
      (s.running ≡ true → P (finish_effect m l s m.source)) →
      (s.running ≡ false → P (enter_effect m l s w (S.take m.source))) → (s.running ≡ false → P (start_effect m l s w)) → P effect
  by_effect P on-release on-finish on-enter on-start = by_test s.running
      (λ r. by_test (eqb s.pipe.0 0)
      (λ e. subst P (sym (releases r e)) (on-release r))
      (λ e. subst P (sym (finishes r e)) (on-finish r)))
      (λ r. by_test (eqb s.pipe.0 0)
      (λ e. subst P (sym (enters r e)) (on-enter r))
      (λ e. subst P (sym (starts r e)) (on-start r)))

-- a choice of line l that leaves these counters and has this effect
abbrev pub did : {X : Type 0} → Machine X → ℕ → List ℕ → Effect X → Chosen X
did m l c e = record { answer = e.answer; machine = with_place m c (put_slot m.slots l e.slot) e.placed e.stopped e.source }

module _ {X : Type 0} (S : Source X) (m : Machine X) (w l : ℕ) where
  -- the choice is refused, and the run is as it was; or it is accepted, and has this effect
  pub data Outcome (e : Effect X) : Chosen X → Type 0 where
    turned_down : (n : ℕ) → Outcome e (refuse m n)
    made : NextCanFall m l (slot_of m l) → Accepted e.answer → Outcome e (did m l (counters_by m l (slot_of m l) m.counters) e)

  -- by the two outcomes of a test
  by : {e : Effect X} (b : Bool) {c d : Chosen X} → (b ≡ true → Outcome e c) → (b ≡ false → Outcome e d) → Outcome e (if b c d)
  by true p q = p refl
  by false p q = q refl

  either : {e : Effect X} (b : Bool) {c d : Chosen X} → Outcome e c → Outcome e d → Outcome e (if b c d)
  either b p q = by b (λ e. p) (λ e. q)

  -- with the counters as another term has them
  made_with : {e : Effect X} (c : List ℕ) → counters_by m l (slot_of m l) m.counters ≡ c → NextCanFall m l (slot_of m l) → Accepted e.answer → Outcome e (did m l c e)
  made_with {e} c q falls ok = subst (λ c. Outcome e (did m l c e)) q (made falls ok)

  -- a waiting line
  module _ (r : (slot_of m l).running ≡ false) where
    no_fall : NextCanFall m l (slot_of m l)
    no_fall t s e = never (sym t ∙ r)

    module _ (first : (slot_of m l).pipe.0 ≡ 0) where
      filled_first : counters_by m l (slot_of m l) m.counters ≡ filled m l 0
      filled_first = counters_start m l (slot_of m l) r m.counters ∙ ap (filled m l) first

      taken_outcome : (o : Taken X) → Outcome (enter_effect m l (slot_of m l) w o) (start_first S m w l o)
      unfolding start_first enter_effect
      taken_outcome Spoiled = turned_down 14
      taken_outcome (Nothing x) =
          subst (λ v. Outcome (enter_effect m l (slot_of m l) w (Nothing x))
          (record { answer = Stopped l w; machine = with_place m (filled m l 0) v m.placed true x }))
          (put_own m.slots l) (made_with (filled m l 0) filled_first no_fall stopped-accepted)
      taken_outcome (Took t x) = either (ltb m.placed m.tokens) (made_with (filled m l 0) filled_first no_fall started-accepted) (turned_down 14)

    start_outcome : Outcome (effect S m w l (slot_of m l)) (start S m w l)
    unfolding start start_later
    start_outcome = by (eqb (slot_of m l).pipe.0 0)
        (λ e. rw (enters S m w l (slot_of m l) r e) (taken_outcome (eqb-true (slot_of m l).pipe.0 0 e) (S.take m.source)))
        (λ e. rw (starts S m w l (slot_of m l) r e)
        (made_with (filled m l (slot_of m l).pipe.0) (counters_start m l (slot_of m l) r m.counters) no_fall started-accepted))

  -- a running line
  module _ (r : (slot_of m l).running ≡ true) where
    settle_outcome : (c : List ℕ) (x : X) → counters_by m l (slot_of m l) m.counters ≡ fall c (counter_at l (next m.pipes (slot_of m l).pipe.0)) →
        NextCanFall m l (slot_of m l) → Outcome (finish_effect m l (slot_of m l) x) (settle S m l (slot_of m l) c x)
    unfolding settle
    settle_outcome c x q falls = either (eqb (get_or c (counter_at l (next m.pipes (slot_of m l).pipe.0)) 0) 0) (turned_down 14)
        (made_with _ q falls finished-accepted)

    falls_outcome : (x : X) → Outcome (finish_effect m l (slot_of m l) x) (finish_with S m l (slot_of m l) x)
    unfolding finish_with
    falls_outcome x =
        let i : ℕ = counter_at (next m.lines l) (slot_of m l).pipe.0 in
        by (is_serial m (slot_of m l).pipe.0)
        (λ e. by (eqb (get_or m.counters i 0) 0) (λ z. turned_down 14) (λ z.
        settle_outcome (fall m.counters i) x (counters_finish m l (slot_of m l) r m.counters ∙ rw e)
        (λ t s. eqb-false (get_or m.counters i 0) 0 z)))
        (λ e. settle_outcome m.counters x (counters_finish m l (slot_of m l) r m.counters ∙ rw e)
        (λ t s. absurd (never (sym s ∙ e))))

    released_outcome : (o : Released X) → Outcome (finish_effect m l (slot_of m l) (released_from m.source o)) (finish_first S m l (slot_of m l) o)
    unfolding finish_first
    released_outcome Broken = turned_down 14
    released_outcome (Passed x) = falls_outcome x

    finish_outcome : Outcome (effect S m w l (slot_of m l)) (finish S m l)
    unfolding finish
    finish_outcome = by (eqb (slot_of m l).pipe.0 0)
        (λ e. rw (releases S m w l (slot_of m l) r e) (released_outcome (S.release (slot_of m l).token.0 m.source)))
        (λ e. rw (finishes S m w l (slot_of m l) r e) (falls_outcome m.source))

  move_outcome : Outcome (effect S m w l (slot_of m l)) (move S m w l)
  unfolding move
  move_outcome = by (slot_of m l).running
      (λ r. either (eqb (slot_of m l).worker.0 w) (finish_outcome r) (turned_down 26))
      (λ r. either (eqb (counter_of m l (slot_of m l).pipe.0) 0)
      (either (at_work m.slots w m.lines) (turned_down 13) (start_outcome r)) (turned_down 12))

  -- a choice
  pub choose_outcome : Outcome (effect S m w l (slot_of m l)) (choose S m w l)
  unfolding choose
  choose_outcome =
      either (sound S m)
      (either (ltb l m.lines)
      (either (ltb w m.workers)
      (either (ended m) (turned_down 11) move_outcome) (turned_down 26)) (turned_down 10)) (turned_down 14)

  -- so one that is refused changes nothing,
  unchanged : {e : Effect X} {c : Chosen X} → Outcome e c → (n : ℕ) → c.answer ≡ Refused n → c.machine ≡ m
  unchanged (turned_down k) n q = refl
  unchanged (made falls ok) n q = absurd (ok n q)

  pub refused_unchanged : (n : ℕ) → (choose S m w l).answer ≡ Refused n → (choose S m w l).machine ≡ m
  refused_unchanged = unchanged choose_outcome

  -- none changes W,
  same_workers : {e : Effect X} {c : Chosen X} → Outcome e c → c.machine.workers ≡ m.workers
  same_workers (turned_down n) = refl
  same_workers (made falls ok) = refl

  pub workers_kept : (choose S m w l).machine.workers ≡ m.workers
  workers_kept = same_workers choose_outcome

  -- and one that is accepted has its effect
  accepted : {e : Effect X} {c : Chosen X} → Outcome e c → Accepted c.answer →
      NextCanFall m l (slot_of m l) × (c ≡ did m l (counters_by m l (slot_of m l) m.counters) e)
  accepted (turned_down n) ok = absurd (ok n refl)
  accepted (made falls event) ok = (falls, refl)

  pub accepted_choice : Accepted (choose S m w l).answer →
      NextCanFall m l (slot_of m l) × (choose S m w l ≡ did m l (counters_by m l (slot_of m l) m.counters) (effect S m w l (slot_of m l)))
  accepted_choice = accepted choose_outcome
