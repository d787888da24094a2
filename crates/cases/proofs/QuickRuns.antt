-- A run followed as by the rules, but for one test: the counters' ranges are tested in one walk over their list, and not by a look-up
-- from its start for each of the 512. So the runs of the cases are computed in a fraction of the time.
use mathlib.Core.Path.{◌≡◌, refl, ap, ◌∙◌}
use mathlib.Core.Bool.{Bool, true, false}
use mathlib.Core.List.{List, [], ◌∷◌}
use Prim.Native.Nat.{ℕ, zero, suc, ◌+◌, ◌/◌, ◌%◌}
use native.Mathlib.Omega.{arith}
use lib.Dec.{leb, ltb}
use lib.ListN.{get_or}
use Rattle.rules.specs.Lists.{if, must, must_not, all, every}
use Rattle.rules.specs.Sources.{Source}
use Rattle.rules.specs.RunState.{Machine}
use Rattle.rules.specs.Ranges.{numbers_sound, serial_sound, slot_sound, most_at, counter_sound, sound}
use Rattle.rules.specs.Choices.{Choice, Chosen, Answer, refuse, ended, move, choose, choose_by, answers, follow}
use Rattle.rules.specs.Workers.{choice_of, choices_of}
use Rattle.rules.proofs.lists.Tests.{by_test}

-- a test of so many numbers of a list, each with its place, from place i on; past the list's end they are 0
unfoldable pub walked : (ℕ → ℕ → Bool) → ℕ → ℕ → List ℕ → Bool
walked test zero i l = true
walked test (suc n) i [] = if (test i 0) (walked test n (suc i) []) false
walked test (suc n) i (a ∷ l) = if (test i a) (walked test n (suc i) l) false

swapped : (a b c : Bool) → if a (if b c false) false ≡ if b (if a c false) false
swapped a b c = by_test a (λ e. rw e) (λ e. by_test b (λ d. rw (e, d)) (λ d. rw (e, d)))

-- a test of each number below a bound, from 0 up
every_up : (n : ℕ) (f : ℕ → Bool) → every (suc n) f ≡ if (f 0) (every n (λ i. f (suc i))) false
unfolding every
every_up zero f = refl
every_up (suc n) f = rw (every_up n f) (swapped (f (suc n)) (f 0) (every n (λ i. f (suc i))))

-- the walk tests each number that a look-up finds
walked_is : (test : ℕ → ℕ → Bool) (n i : ℕ) (l : List ℕ) (f : ℕ → Bool) → ((j : ℕ) → f j ≡ test (i + j) (get_or l j 0)) →
    every n f ≡ walked test n i l
unfolding walked every
walked_is test zero i l f e = refl
walked_is test (suc n) i [] f e =
    let now : f 0 ≡ test i 0 = e 0 ∙ ap (λ (k : ℕ). test k 0) (omega arith) in
    every_up n f ∙ rw (now, walked_is test n (suc i) [] (λ j. f (suc j)) (λ j. e (suc j) ∙ ap (λ (k : ℕ). test k 0) (omega arith)))
walked_is test (suc n) i (a ∷ l) f e =
    let now : f 0 ≡ test i a = e 0 ∙ ap (λ (k : ℕ). test k a) (omega arith) in
    every_up n f
    ∙ rw (now, walked_is test n (suc i) l (λ j. f (suc j)) (λ j. e (suc j) ∙ ap (λ (k : ℕ). test k (get_or l j 0)) (omega arith)))

module _ {X : Type 0} (S : Source X) where
  -- the counters' ranges, in one walk
  unfoldable pub counters_walked : Machine X → Bool
  counters_walked m = walked (λ i c. leb c (most_at m.pipes m.lines m.serial (i / 16) (i % 16))) 512 0 m.counters

  counters_walked_lem : (m : Machine X) → every 512 (counter_sound m.pipes m.lines m.serial m.counters) ≡ counters_walked m
  unfolding counters_walked counter_sound
  counters_walked_lem m =
      let test : ℕ → ℕ → Bool = λ i c. leb c (most_at m.pipes m.lines m.serial (i / 16) (i % 16)) in
      walked_is test 512 0 m.counters (counter_sound m.pipes m.lines m.serial m.counters)
      (λ j. ap (λ (k : ℕ). test k (get_or m.counters j 0)) (omega arith))

  unfoldable pub quick_sound : Machine X → Bool
  quick_sound m =
      all (
      numbers_sound m ∷
      every 16 (serial_sound m.pipes m.serial) ∷
      every 32 (slot_sound m.pipes m.lines m.tokens m.workers m.slots) ∷
      counters_walked m ∷
      S.sound m.source ∷ [])

  quick_sound_lem : (m : Machine X) → sound S m ≡ quick_sound m
  unfolding sound quick_sound
  quick_sound_lem m = ap (λ (b : Bool). all (
      numbers_sound m ∷
      every 16 (serial_sound m.pipes m.serial) ∷
      every 32 (slot_sound m.pipes m.lines m.tokens m.workers m.slots) ∷
      b ∷
      S.sound m.source ∷ [])) (counters_walked_lem m)

  unfoldable pub quick_choose : Machine X → Choice → Chosen X
  quick_choose m c =
      must (quick_sound m) (refuse m 14)
      (must (ltb c.line m.lines) (refuse m 10)
      (must (ltb c.worker m.workers) (refuse m 26)
      (must_not (ended m) (refuse m 11)
      (move S m c.worker c.line))))

  quick_choose_lem : (m : Machine X) (c : Choice) → choose_by S m c ≡ quick_choose m c
  unfolding choose quick_choose
  quick_choose_lem m c = ap (λ (b : Bool). must b (refuse m 14)
      (must (ltb c.line m.lines) (refuse m 10)
      (must (ltb c.worker m.workers) (refuse m 26)
      (must_not (ended m) (refuse m 11)
      (move S m c.worker c.line))))) (quick_sound_lem m)

  unfoldable pub quick_follow : Machine X → List Choice → Machine X
  quick_follow m [] = m
  quick_follow m (c ∷ cs) = quick_follow (quick_choose m c).machine cs

  pub quick_follow_lem : (m : Machine X) (cs : List Choice) → follow S m cs ≡ quick_follow m cs
  unfolding follow quick_follow
  quick_follow_lem m [] = refl
  quick_follow_lem m (c ∷ cs) =
      ap (λ (d : Chosen X). follow S d.machine cs) (quick_choose_lem m c) ∙ quick_follow_lem (quick_choose m c).machine cs

  unfoldable pub quick_answers : Machine X → List Choice → List Answer
  quick_answers m [] = []
  quick_answers m (c ∷ cs) = (quick_choose m c).answer ∷ quick_answers (quick_choose m c).machine cs

  pub quick_answers_lem : (m : Machine X) (cs : List Choice) → answers S m cs ≡ quick_answers m cs
  unfolding answers quick_answers
  quick_answers_lem m [] = refl
  quick_answers_lem m (c ∷ cs) =
      ap (λ (d : Chosen X). d.answer ∷ answers S d.machine cs) (quick_choose_lem m c)
      ∙ ap (λ (told : List Answer). (quick_choose m c).answer ∷ told) (quick_answers_lem (quick_choose m c).machine cs)

  unfoldable pub quick_choices : Machine X → List ℕ → List Choice
  quick_choices m [] = []
  quick_choices m (l ∷ ls) = choice_of m l ∷ quick_choices (quick_choose m (choice_of m l)).machine ls

  pub quick_choices_lem : (m : Machine X) (ls : List ℕ) → choices_of S m ls ≡ quick_choices m ls
  unfolding choices_of quick_choices
  quick_choices_lem m [] = refl
  quick_choices_lem m (l ∷ ls) = ap (λ (cs : List Choice). choice_of m l ∷ cs)
      (ap (λ (d : Chosen X). choices_of S d.machine ls) (quick_choose_lem m (choice_of m l)) ∙ quick_choices_lem (quick_choose m (choice_of m l)).machine ls)
