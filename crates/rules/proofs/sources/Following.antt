-- A run over a source that follows another goes as the run over that one, as long as no answer there is 14; and W has no part in what
-- a move does.
use mathlib.Core.Path.{◌≡◌, refl, sym, ap, ◌∙◌}
use mathlib.Core.Bool.{true}
use mathlib.Core.List.{List, [], ◌∷◌}
use Prim.Native.Nat.{ℕ, zero, suc, ◌+◌, ◌*◌}
use native.Mathlib.Omega.{arith}
use lib.Dec.{ltb, eqb}
use lib.ListN.{get_or}
use Rattle.rules.specs.Lists.{Every}
use Rattle.rules.specs.Sources.{Source, Taken, Spoiled, Nothing, Took, Released, Broken, Passed, Writes, close, write}
use Rattle.rules.specs.RunState.{Machine, slot_of, counter_of, is_serial}
use Rattle.rules.specs.Choices.{Choice, Chosen, Refused, next, fall, at_work, movable, ended}
use Rattle.rules.specs.Ranges.{numbers_sound, sound}
use Rattle.rules.specs.Choices.{start_first, start_later, start, settle, finish_with, finish_first, finish, move}
use Rattle.rules.specs.Choices.{choose, choose_by, answers, follow}
use Rattle.rules.specs.RelatedSources.{map_taken, map_released, map_machine, map_chosen, Follows}
use Rattle.rules.specs.WholeRuns.{with_workers}
use Rattle.vocabulary.specs.declared.Slot.{Slot}
use Rattle.rules.proofs.lists.Tests.{by_test}
use Rattle.rules.proofs.choices.Outcomes.{workers_kept}

module _ {X Y : Type 0} (f : X → Y) where
  -- the same run with another W, and with the source by the map; and what a choice there returns and leaves
  abbrev pub machine_as : ℕ → Machine X → Machine Y
  machine_as workers m = with_workers workers (map_machine f m)

  abbrev pub chosen_as : ℕ → Chosen X → Chosen Y
  chosen_as workers c = record { answer = c.answer; machine = machine_as workers c.machine }

  module _ (m : Machine X) where
    -- whether a run has ended depends neither on W nor on its source
    movable_as : (workers n : ℕ) → movable (machine_as workers m) n ≡ movable m n
    unfolding movable
    movable_as workers zero = refl
    movable_as workers (suc n) = rw (movable_as workers n)

    ended_as : (workers : ℕ) → ended (machine_as workers m) ≡ ended m
    unfolding ended
    ended_as workers = rw (movable_as workers m.lines)

    pub ended_map : ended (map_machine f m) ≡ ended m
    ended_map = ended_as m.workers

module _ {X Y : Type 0} {f : X → Y} {S : Source X} {T : Source Y} (follows : Follows f S T) where
  -- an outcome that is known is not spoiled
  takes_as : (x : X) {o : Taken X} → S.take x ≡ o → (o ≡ Spoiled → ⊥) → T.take (f x) ≡ map_taken f o
  takes_as x e n = follows.takes x (λ q. n (sym e ∙ q)) ∙ ap (map_taken f) e

  releases_as : (n : ℕ) (x : X) {o : Released X} → S.release n x ≡ o → (o ≡ Broken → ⊥) → T.release n (f x) ≡ map_released f o
  releases_as n x e b = follows.releases n x (λ q. b (sym e ∙ q)) ∙ ap (map_released f) e

  sound_as : (x : X) → S.sound x ≡ true → T.sound (f x) ≡ true
  sound_as x e = follows.sounds x ∙ e

  -- what one source writes down, the source that follows it writes down
  pub writes_map : {x z : X} {ts : List ℕ} → Writes S x ts z → Writes T (f x) ts (f z)
  writes_map (close {x} {z} s e s') =
      close (sound_as x s) (takes_as x e (λ q. let z : ◌≡◌ {A = ℕ} 0 1 = cc in omega arith)) (sound_as z s')
  writes_map (write {x} {y} {t = t} s e s' r later) =
      write (sound_as x s) (takes_as x e (λ q. let z : ◌≡◌ {A = ℕ} 0 1 = cc in omega arith)) (sound_as y s')
      (releases_as t y r (λ q. let z : ◌≡◌ {A = ℕ} 0 1 = cc in omega arith)) (writes_map later)

  module _ (workers : ℕ) (m : Machine X) (w l : ℕ) where
    -- a start at pipe 0, whatever the source gives
    start_first_as : (o : Taken X) → start_first T (machine_as f workers m) w l (map_taken f o) ≡ chosen_as f workers (start_first S m w l o)
    unfolding start_first
    start_first_as Spoiled = refl
    start_first_as (Nothing x) = refl
    start_first_as (Took t x) = by_test (ltb m.placed m.tokens) (λ e. rw e) (λ e. rw e)

    -- the two falls of a finish
    settle_as : (s : Slot) (c : List ℕ) (x : X) → settle T (machine_as f workers m) l s c (f x) ≡ chosen_as f workers (settle S m l s c x)
    unfolding settle
    settle_as s c x = by_test (eqb (get_or c (16 * l + next m.pipes s.pipe.0) 0) 0) (λ e. rw e) (λ e. rw e)

    finish_with_as : (s : Slot) (x : X) → finish_with T (machine_as f workers m) l s (f x) ≡ chosen_as f workers (finish_with S m l s x)
    unfolding finish_with
    finish_with_as s x = by_test (is_serial m s.pipe.0)
        (λ e. rw e (by_test (eqb (get_or m.counters (16 * next m.lines l + s.pipe.0) 0) 0)
        (λ e. rw e)
        (λ e. rw e (settle_as s (fall m.counters (16 * next m.lines l + s.pipe.0)) x))))
        (λ e. rw e (settle_as s m.counters x))

    finish_first_as : (s : Slot) (o : Released X) → finish_first T (machine_as f workers m) l s (map_released f o) ≡ chosen_as f workers (finish_first S m l s o)
    unfolding finish_first
    finish_first_as s Broken = refl
    finish_first_as s (Passed x) = finish_with_as s x

    -- a start and a finish, where a spoiled taking or a broken release has not been answered by 14
    start_as : ((start S m w l).answer ≡ Refused 14 → ⊥) → start T (machine_as f workers m) w l ≡ chosen_as f workers (start S m w l)
    unfolding start start_first start_later
    start_as n = by_test (eqb (slot_of m l).pipe.0 0)
        (λ e. rw (e, follows.takes m.source (λ q. n (rw (e, q)))) (start_first_as (S.take m.source)))
        (λ e. rw e)

    finish_as : ((finish S m l).answer ≡ Refused 14 → ⊥) → finish T (machine_as f workers m) l ≡ chosen_as f workers (finish S m l)
    unfolding finish finish_first
    finish_as n = by_test (eqb (slot_of m l).pipe.0 0)
        (λ e.
        rw (e, follows.releases (slot_of m l).token.0 m.source (λ q. n (rw (e, q))))
        (finish_first_as (slot_of m l) (S.release (slot_of m l).token.0 m.source)))
        (λ e. rw e (finish_with_as (slot_of m l) m.source))

    move_as : ((move S m w l).answer ≡ Refused 14 → ⊥) → move T (machine_as f workers m) w l ≡ chosen_as f workers (move S m w l)
    unfolding move
    move_as n = by_test (slot_of m l).running
        (λ e. rw e (by_test (eqb (slot_of m l).worker.0 w)
        (λ o. rw o (finish_as (rw (e, o) at n)))
        (λ o. rw o)))
        (λ e. rw e (by_test (eqb (counter_of m l (slot_of m l).pipe.0) 0)
        (λ c. rw c (by_test (at_work m.slots w m.lines)
        (λ o. rw o)
        (λ o. rw o (start_as (rw (e, c, o) at n)))))
        (λ c. rw c)))

    -- one choice, where the new W changes nothing of the ranges and of the test of the worker
    pub choose_as : sound T (machine_as f workers m) ≡ sound S m → ltb w workers ≡ ltb w m.workers → ((choose S m w l).answer ≡ Refused 14 → ⊥) →
        choose T (machine_as f workers m) w l ≡ chosen_as f workers (choose S m w l)
    unfolding choose
    choose_as ranges worker n = rw (ranges, worker, ended_as f m workers) (by_test (sound S m)
        (λ s. rw s (by_test (ltb l m.lines)
        (λ i. rw i (by_test (ltb w m.workers)
        (λ d. rw d (by_test (ended m)
        (λ e. rw e)
        (λ e. rw e (move_as (rw (s, i, d, e) at n)))))
        (λ d. rw d)))
        (λ i. rw i)))
        (λ s. rw s))

  module _ (m : Machine X) (w l : ℕ) where
    sound_map : sound T (map_machine f m) ≡ sound S m
    unfolding sound numbers_sound
    sound_map = rw (follows.sounds m.source)

    -- one choice with the same W, which it keeps
    pub choose_map : ((choose S m w l).answer ≡ Refused 14 → ⊥) → choose T (map_machine f m) w l ≡ map_chosen f (choose S m w l)
    choose_map n = choose_as m.workers m w l sound_map refl n ∙ ap (λ k. chosen_as f k (choose S m w l)) (sym (workers_kept S m w l))

  -- a list of choices: the answers are the same, and the machine that is left is that of the other run, by the map
  pub answers_map : (m : Machine X) (cs : List Choice) → Every (λ a. a ≡ Refused 14 → ⊥) (answers S m cs) →
      answers T (map_machine f m) cs ≡ answers S m cs
  unfolding answers
  answers_map m [] h = refl
  answers_map m (c ∷ cs) h = rw (choose_map m c.worker c.line h.0, answers_map (choose_by S m c).machine cs h.1)

  pub follow_map : (m : Machine X) (cs : List Choice) → Every (λ a. a ≡ Refused 14 → ⊥) (answers S m cs) →
      follow T (map_machine f m) cs ≡ map_machine f (follow S m cs)
  unfolding answers follow
  follow_map m [] h = refl
  follow_map m (c ∷ cs) h = rw (choose_map m c.worker c.line h.0, follow_map (choose_by S m c).machine cs h.1)

-- every source follows itself
pub itself : {X : Type 0} (S : Source X) → Follows (λ x. x) S S
itself S = record {
  takes = λ x n. taken_same (S.take x);
  releases = λ n x b. released_same (S.release n x);
  sounds = λ x. refl;
}
  where
    taken_same : {X : Type 0} (o : Taken X) → o ≡ map_taken (λ x. x) o
    taken_same Spoiled = refl
    taken_same (Nothing x) = refl
    taken_same (Took t x) = refl

    released_same : {X : Type 0} (o : Released X) → o ≡ map_released (λ x. x) o
    released_same Broken = refl
    released_same (Passed x) = refl
