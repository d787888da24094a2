-- A list of choices that is accepted is accepted under a larger limit too, and does the same.
use mathlib.Core.Path.{◌≡◌, refl, ap, sym, ◌∙◌}
use mathlib.Core.Bool.{true}
use mathlib.Core.List.{List, [], ◌∷◌}
use Prim.Native.Nat.{ℕ, ◌≤◌, ◌<◌}
use native.Mathlib.Omega.{arith}
use borrow.Author.Tests.{ltb-true, lt-ltb}
use Rattle.vocabulary.specs.declared.Slot.{Slot}
use Rattle.rules.specs.Lists.{Every, every}
use Rattle.rules.specs.Sources.{Source}
use Rattle.rules.specs.RunState.{Machine, slot_of}
use Rattle.rules.specs.Ranges.{worker_sound, slot_sound, numbers_sound, sound}
use Rattle.rules.specs.Choices.{Choice, Answer, Refused, choose, choose_by, answers, follow}
use Rattle.rules.specs.WholeRuns.{Accepted, with_workers}
use Rattle.rules.specs.MoreWorkers.{Known, accepted_in, Reused, AcceptedReused, AnsweredAlike, MoreWorkers}
use Rattle.rules.proofs.lists.Tests.{by_test}
use Rattle.rules.proofs.lists.EveryLaws.{every_weaken}
use Rattle.rules.proofs.lists.Holding.{first_holds, rest_hold}
use Rattle.rules.proofs.invariant.Sound.{every_holds, within_range}
use Rattle.rules.proofs.choices.SoundMachines.{slots_ok_lem, slot_ok, workers_ok, workers_some}
use Rattle.rules.proofs.choices.Accepting.{unspoiled_sound, accepted_worker}
use Rattle.rules.proofs.choices.Outcomes.{workers_kept}
use Rattle.rules.proofs.sources.Following.{choose_as, itself}
use Rattle.rules.proofs.runs.AcceptedOnly.{events_accepted, only_told, only_left}

-- an answer that is not 14
abbrev Unspoiled : Answer → Type 0
Unspoiled a = a ≡ Refused 14 → ⊥

-- only choices of workers below W are accepted
accepted_known : {X : Type 0} (S : Source X) (m : Machine X) (cs : List Choice) → Every Accepted (answers S m cs) → Every (Known m.workers) cs
unfolding answers
accepted_known S m [] ok = tt
accepted_known S m (c ∷ cs) ok = (
  accepted_worker S m c.worker c.line ok.0,
  rw (workers_kept S m c.worker c.line) at (accepted_known S (choose_by S m c).machine cs ok.1),
)

module _ {X : Type 0} (S : Source X) (larger : ℕ) (most : larger ≤ 32) where
  module _ (m : Machine X) (more : m.workers ≤ larger) where
    -- the ranges hold of the larger W, and of the workers of running lines
    module _ (ok : sound S m ≡ true) where
      worker_more : (s : Slot) → worker_sound m.workers s ≡ true → worker_sound larger s ≡ true
      unfolding worker_sound
      worker_more s h = by_test s.running
          (λ r. let few : s.worker.0 < m.workers = ltb-true _ _ (rw r at h) in rw (r, lt-ltb s.worker.0 larger (omega arith)))
          (λ r. rw r (rw r at h))

      slot_more : (l : ℕ) → l < 32 → slot_sound m.pipes m.lines m.tokens larger m.slots l ≡ true
      unfolding slot_sound
      slot_more l i =
          let h : slot_sound m.pipes m.lines m.tokens m.workers m.slots l ≡ true = slot_ok S m ok l i in
          let worker : worker_sound m.workers (slot_of m l) ≡ true = first_holds (worker_sound m.workers (slot_of m l)) _ h in
          rw (worker_more (slot_of m l) worker) (rest_hold (worker_sound m.workers (slot_of m l)) _ h)

      sound_more : sound S (with_workers larger m) ≡ true
      unfolding sound numbers_sound
      sound_more =
          let all : every 32 (slot_sound m.pipes m.lines m.tokens larger m.slots) ≡ true = every_holds 32 _ slot_more in
          rw (within_range 1 32 larger (omega (arith, workers_some S m ok)) most, all) (rw (workers_ok S m ok, slots_ok_lem S m ok) at ok)

    -- a choice of a worker below W, not answered by 14, does the same under the larger W
    choose_more : (w l : ℕ) → w < m.workers → ((choose S m w l).answer ≡ Refused 14 → ⊥) → choose S (with_workers larger m) w l ≡
        record { answer = (choose S m w l).answer; machine = with_workers larger (choose S m w l).machine }
    choose_more w l known unspoiled =
        let ranges : sound S m ≡ true = unspoiled_sound S m w l unspoiled in
        choose_as (itself S) larger m w l (sound_more ranges ∙ sym ranges)
        (lt-ltb w larger (omega arith) ∙ sym (lt-ltb w m.workers known)) unspoiled

  -- lists of choices, from any machine, also one that no run leaves
  alike : (m : Machine X) → m.workers ≤ larger → (cs : List Choice) → Every (Known m.workers) cs → Every Unspoiled (answers S m cs) →
      AnsweredAlike S m (with_workers larger m) cs
  unfolding answers follow
  alike m more [] known ok = record { told = refl; left = refl }
  alike m more (c ∷ cs) known ok =
      let kept = workers_kept S m c.worker c.line in
      let one = choose_more m more c.worker c.line known.0 ok.0 in
      let rest = alike (choose_by S m c).machine (omega arith) cs (rw kept known.1) ok.1 in
      record { told = rw (one, rest.told); left = rw one rest.left }

  reuse : (m : Machine X) → m.workers ≤ larger → (cs : List Choice) → Every Accepted (answers S m cs) → Reused S m (with_workers larger m) cs
  reuse m more cs ok =
      let same = alike m more cs (accepted_known S m cs ok) (every_weaken Accepted Unspoiled (λ a event. event 14) (answers S m cs) ok) in
      record { accepted = rw same.told ok; events = same.told; left = same.left }

  reuse_accepted : (m : Machine X) → m.workers ≤ larger → (cs : List Choice) → AcceptedReused S m (with_workers larger m) cs
  reuse_accepted m more cs =
      let ok : Every Accepted (answers S m (accepted_in S m cs)) = rw (only_told S m cs) (events_accepted (answers S m cs)) in
      let again = reuse m more (accepted_in S m cs) ok in
      record {
        accepted = again.accepted;
        events = again.events ∙ only_told S m cs;
        left = again.left ∙ ap (with_workers larger) (only_left S m cs);
      }

-- so of every machine
pub more_workers : {X : Type 0} (S : Source X) (m : Machine X) → MoreWorkers S m
more_workers S m = record {
  reused = λ larger more most cs ok. reuse S larger most m more cs ok;
  accepted_reused = λ larger more most cs. reuse_accepted S larger most m more cs;
  answered_alike = λ larger more most cs known ok. alike S larger most m more cs known ok;
}
