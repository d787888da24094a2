-- A draw gives a choice that would be accepted, wherever there is one.
use mathlib.Core.Path.{◌≡◌, refl, sym, ap, ◌∙◌}
use mathlib.Core.Bool.{true, false, not}
use Prim.Native.Nat.{ℕ, ◌+◌, ◌/◌, ◌%◌, ◌<◌}
use native.Mathlib.Omega.{arith}
use native.Mathlib.Nat.{mod-lt}
use borrow.Author.Tests.{not-true, lt-ltb, le-leb}
use lib.ListN.{length, get_or}
use Rattle.rules.specs.Lists.{keep, empty, range}
use Rattle.rules.specs.Sources.{Source}
use Rattle.rules.specs.RunState.{Machine}
use Rattle.rules.specs.Ranges.{sound}
use Rattle.rules.specs.Choices.{Answer, Started, Finished, Stopped, Refused, Choice, ended, choose, choose_by}
use Rattle.rules.specs.Offers.{is_refused}
use Rattle.rules.specs.WholeRuns.{Accepted}
use Rattle.rules.specs.Workers.{worker_for, choice_of, without_worker}
use Rattle.rules.specs.Practice.{next_number, is_drawn, choice_in, allowed, allowed_lines, drawn_line, draw}
use Rattle.rules.specs.Practice as paper
use Rattle.rules.proofs.lists.Tests.{never, holds, fails, see}
use Rattle.rules.proofs.lists.Members.{has_range, has_not_empty, kept_passes, keep_same, empty_some}
use Rattle.rules.proofs.lists.Counting.{has_keep}
use Rattle.rules.proofs.choices.Accepting.{accepted_sound, accepted_line, accepted_open}
use Rattle.rules.proofs.choices.Offered.{is_accepted_lem, not_refused}
use Rattle.rules.proofs.choices.Workers.{practice_same}

-- an answer is a refusal with its worker or without
refused_without : (a : Answer) → is_refused (without_worker a) ≡ is_refused a
unfolding without_worker
refused_without (Started l p t k w) = refl
refused_without (Finished l p t k w) = refl
refused_without (Stopped l w) = refl
refused_without (Refused n) = refl

module _ {X : Type 0} (S : Source X) (m : Machine X) where
  -- where a worker's choice of a line would be accepted, so would that of practice's worker
  pub allowed_by : (c : Choice) → Accepted (choose_by S m c).answer → allowed S m c.line ≡ true
  unfolding allowed
  allowed_by c accepts =
      let same : is_refused (choose S m (worker_for m c.line) c.line).answer ≡ is_refused (choose S m c.worker c.line).answer =
      sym (refused_without _) ∙ ap is_refused (practice_same S m c.line c.worker accepts) ∙ refused_without _ in
      rw (same ∙ not_refused _ accepts)

  -- a line that is allowed is one whose choice would be accepted, and the run goes on
  pub allowed_accepted : (l : ℕ) → allowed S m l ≡ true → Accepted (choose_by S m (choice_of m l)).answer
  unfolding allowed
  allowed_accepted l e = is_accepted_lem _ (not-true _ e)

  -- of the lines that are kept each is allowed
  pub kept_allowed : (i : ℕ) → i < length (allowed_lines S m) → allowed S m (get_or (allowed_lines S m) i 0) ≡ true
  unfolding allowed_lines
  kept_allowed i h = kept_passes (allowed S m) (range 0 m.lines) i h

  -- so where there is one, no number is out of range, and the run has not ended
  module _ (some : empty (allowed_lines S m) ≡ false) where
    first_accepted : Accepted (choose_by S m (choice_of m (get_or (allowed_lines S m) 0 0))).answer
    first_accepted = allowed_accepted _ (kept_allowed 0 (empty_some (allowed_lines S m) some))

    pub some_sound : sound S m ≡ true
    some_sound = accepted_sound S m _ _ first_accepted

    pub some_open : ended m ≡ false
    some_open = accepted_open S m _ _ first_accepted

    -- and a draw gives one of them
    module _ (s : ℕ) where
      pub draws : draw S m s ≡ paper.Drew (choice_of m (drawn_line S m s)) (next_number s)
      unfolding draw
      draws = rw (some_sound, some_open, some)

      pub drawn_allowed : allowed S m (drawn_line S m s) ≡ true
      drawn_allowed = kept_allowed _ (mod-lt (next_number s / 65536) (empty_some (allowed_lines S m) some))

  -- a choice that would be accepted makes its line one of those
  pub some_allowed : (c : Choice) → Accepted (choose_by S m c).answer → empty (allowed_lines S m) ≡ false
  unfolding allowed_lines
  some_allowed c accepts =
      let below : c.line < m.lines = accepted_line S m c.worker c.line accepts in
      has_not_empty (keep (allowed S m) (range 0 m.lines)) c.line
      (has_keep (allowed S m) (range 0 m.lines) c.line ∙ rw (allowed_by c accepts, has_range 0 m.lines c.line, le-leb 0 c.line (omega arith), lt-ltb c.line (0 + m.lines) (omega arith)))

  module _ (s : ℕ) where
    -- where there is none, it is refused
    refuses : empty (allowed_lines S m) ≡ true → is_drawn (draw S m s) ≡ false
    unfolding draw
    refuses none = elim (see (sound S m)) [
      | fails ok ↦ rw ok
      | holds ok ↦ elim (see (ended m)) [ holds o ↦ rw (ok, o) | fails o ↦ rw (ok, o, none) ]
    ]

    -- what a draw gives would be accepted
    pub drawn_accepted : is_drawn (draw S m s) ≡ true → Accepted (choose_by S m (choice_in (draw S m s))).answer
    drawn_accepted e = elim (see (empty (allowed_lines S m))) [
      | fails some ↦ rw (draws some s) (allowed_accepted _ (drawn_allowed some s))
      | holds none ↦ absurd (never (sym e ∙ refuses none))
    ]

    -- and where a choice would be accepted, a draw gives one
    pub draws_one : (c : Choice) → Accepted (choose_by S m c).answer → is_drawn (draw S m s) ≡ true
    draws_one c accepts = ap is_drawn (draws (some_allowed c accepts) s)

    -- in a run that has ended it is refused
    pub draws_none : sound S m ≡ true → ended m ≡ true → draw S m s ≡ paper.Refused 11 s
    unfolding draw
    draws_none ok over = rw (ok, over)

-- machines with the same lines, workers, slots and answers, over whatever sources, are drawn from alike
module _ {X Y : Type 0} (S : Source X) (T : Source Y) (m : Machine X) (n : Machine Y) (ok : sound S m ≡ sound T n) (over : ended m ≡ ended n)
    (lines : m.lines ≡ n.lines) (choice : (l : ℕ) → choice_of m l ≡ choice_of n l)
    (answer : (c : Choice) → (choose_by S m c).answer ≡ (choose_by T n c).answer) where
  same_allowed : (l : ℕ) → allowed S m l ≡ allowed T n l
  unfolding allowed
  same_allowed l = ap (λ a. not (is_refused a)) (answer (choice_of m l) ∙ ap (λ c. (choose_by T n c).answer) (choice l))

  same_lines : allowed_lines S m ≡ allowed_lines T n
  unfolding allowed_lines
  same_lines = keep_same (allowed S m) (allowed T n) (range 0 m.lines) (λ l h. same_allowed l) ∙ ap (λ k. keep (allowed T n) (range 0 k)) lines

  pub same_draw : (s : ℕ) → draw S m s ≡ draw T n s
  unfolding draw
  same_draw s = rw (ok, over, same_lines, choice (get_or (allowed_lines T n) (next_number s / 65536 % length (allowed_lines T n)) 0))
