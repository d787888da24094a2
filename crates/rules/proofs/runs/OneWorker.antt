-- The one-worker run: its choices are all accepted.
use mathlib.Core.Path.{◌≡◌, sym, ap, ◌∙◌}
use mathlib.Core.Bool.{Bool, true, false}
use mathlib.Core.List.{List, [], ◌∷◌, ◌++◌}
use Prim.Native.Nat.{ℕ, zero, suc, ◌+◌, ◌-◌, ◌*◌, ◌%◌, ◌≤◌, ◌<◌}
use native.Mathlib.Nat.{mod-lt}
use native.Mathlib.Omega.{arith}
use lib.ListN.{length, replicate, length-replicate, length-append}
use Rattle.rules.specs.Lists.{if, Every}
use Rattle.rules.specs.RunState.{Pipeline, Machine}
use Rattle.rules.specs.Sources.{Source}
use Rattle.rules.specs.Choices.{Choice, Answer, Stopped, ended, choose, choose_by, at_work, answers}
use Rattle.rules.specs.WholeRuns.{Accepted, last_of, by_one, one_worker}
use Rattle.rules.proofs.lists.Tests.{same, other, same_as, holds, fails, see, never}
use Rattle.rules.proofs.lists.Rotation.{only}
use Rattle.rules.proofs.standing.Standing.{Standing, begin, finish, to_finish, finish_here, finish_past, least_turn}
use Rattle.rules.proofs.standing.Begin.{begin_busy_else}
use Rattle.rules.proofs.standing.Finish.{finish_pipe_else, finish_busy_else}
use Rattle.rules.proofs.invariant.Tally.{turn_zero}
use Rattle.rules.proofs.invariant.Invariant.{Allowed, State, whole, free, taken, closed, Inv}
use Rattle.rules.proofs.choices.Moves.{Enters, Starts, Finishes, Next, Move, stops, enters, starts, finishes}
use Rattle.rules.proofs.choices.Steps.{slot_rests, slot_manned, runs_move, waits_move}
use Rattle.rules.proofs.runs.Progress.{none_works}
use Rattle.rules.proofs.runs.Count.{left, left_busy, left_first, left_later, left_begin, left_finish, none_left}
use Rattle.rules.proofs.choices.Answers.{started-accepted, finished-accepted, stopped-accepted}

-- a run that is not marked stopped has not ended
not_ended : {X : Type 0} (m : Machine X) → m.stopped ≡ false → ended m ≡ false
unfolding ended
not_ended m e = first_false m.stopped _ e
  where
    first_false : (a b : Bool) → a ≡ false → if a b false ≡ false
    first_false a b e = rw e

module _ {X : Type 0} (S : Source X) (plan : Pipeline) (order : List ℕ) (z : X) (ok : Allowed plan 1 order) where
  -- from a state these choices are all accepted, and the last stops
  abbrev AllAccepted : List Choice → State X → Type 0
  AllAccepted cs st = Every Accepted (answers S (whole plan 1 st) cs) ×
      ((a : Answer) → last_of a (answers S (whole plan 1 st) cs) ≡ Stopped (length order % plan.lines) 0)

  -- every line waits at pipe 0, and so many tokens are placed
  pub record Quiet (k : ℕ) (st : State X) (g : Standing) : Type 0 where
    pub kept : Inv S plan 1 order z st g
    pub live : st.stopped ≡ false
    pub placed : st.placed ≡ k
    pub first : (j : ℕ) → j < plan.lines → g.pipe j ≡ 0
    pub rests : (j : ℕ) → j < plan.lines → g.busy j ≡ false

  -- line l works on its token, and every other line waits at pipe 0
  record Solo (k l : ℕ) (st : State X) (g : Standing) : Type 0 where
    kept : Inv S plan 1 order z st g
    live : st.stopped ≡ false
    placed : st.placed ≡ suc k
    within : l < plan.lines
    first : (j : ℕ) → j < plan.lines → (j ≡ l → ⊥) → g.pipe j ≡ 0
    rests : (j : ℕ) → j < plan.lines → (j ≡ l → ⊥) → g.busy j ≡ false

  -- a choice with a known answer before a list of choices
  accept : (l : ℕ) (cs : List Choice) (st : State X) (a : Answer) (st' : State X) (g' : Standing) →
      Next S plan 1 order z (choose_by S (whole plan 1 st) (by_one l)) a st' g' → Accepted a → AllAccepted cs st' → AllAccepted (by_one l ∷ cs) st
  unfolding answers last_of
  accept l cs st a st' g' n c rest = rw n.is ((c, rest.0), λ b. rest.1 a)

  module _ (k l : ℕ) (st : State X) (g : Standing) (solo : Solo k l st g) where
    -- past pipe 0 the working line has the least place
    working_least : (g.pipe l ≡ 0 → ⊥) → (j : ℕ) → j < plan.lines → g.place l ≤ g.place j
    working_least n j h = elim (same_as j l) [
      | same e t ↦ rw e (omega arith)
      | other d t ↦
          let e : to_finish plan g j 0 ≡ g.place j = ap (to_finish plan g j) (sym (solo.first j h d)) ∙ finish_here ok.ranged g j in
          omega (
            arith,
            e,
            solo.kept.good.low j 0 h ok.ranged.pipes_some ok.ranged.first_serial,
            solo.kept.good.high l 0 solo.within ok.ranged.pipes_some ok.ranged.first_serial,
            finish_past ok.ranged g l 0 (omega arith),
          )
    ]

    -- so its next choice is accepted
    working_move : (left plan g l ≡ 0 → ⊥) → Move S plan 1 order z st g 0 l (choose S (whole plan 1 st) 0 l)
    working_move m = elim (see (g.busy l)) [
      | holds b ↦
          let n : st.stopped ≡ true → g.pipe l ≡ 0 → ⊥ = λ s e. never (sym s ∙ solo.live) in
          runs_move ok solo.kept l solo.within (not_ended (whole plan 1 st) solo.live) 0 (omega arith) b n
          (omega (arith, slot_manned ok solo.kept l solo.within b n))
      | fails b ↦
          let n : g.pipe l ≡ 0 → ⊥ = λ e. m (left_first plan g l b e) in
          let none : at_work st.slots 0 plan.lines ≡ false = none_works st.slots 0 plan.lines (λ j h. elim (same_as j l) [
            | same e t ↦ rw e (slot_rests ok solo.kept l solo.within b)
            | other d t ↦ slot_rests ok solo.kept j h (solo.rests j h d)
          ]) in
          waits_move ok solo.kept l solo.within (not_ended (whole plan 1 st) solo.live) 0 (omega arith) b
          (turn_zero ok.ranged solo.kept.tally solo.kept.good l solo.within b
          (least_turn ok.ranged g solo.kept.good l solo.within (working_least n))) none
    ]

    begin_solo : (st' : State X) → Starts plan order st g l st' → Inv S plan 1 order z st' (begin g l) → Solo k l st' (begin g l)
    unfolding begin
    begin_solo st' f v = record {
      kept = v;
      live = f.stopped ∙ solo.live;
      placed = f.placed ∙ solo.placed;
      within = solo.within;
      first = solo.first;
      rests = λ j h d. begin_busy_else ok.ranged g l f.ready.waits j d ∙ solo.rests j h d;
    }

    finish_solo : (st' : State X) → Finishes plan order st g l st' → Inv S plan 1 order z st' (finish plan g l) → Solo k l st' (finish plan g l)
    finish_solo st' f v = record {
      kept = v;
      live = f.stopped ∙ solo.live;
      placed = f.placed ∙ solo.placed;
      within = solo.within;
      first = λ j h d. finish_pipe_else ok.ranged g l f.runs j d ∙ solo.first j h d;
      rests = λ j h d. finish_busy_else ok.ranged g l f.runs j d ∙ solo.rests j h d;
    }

    -- when it has nothing left to do, every line waits at pipe 0
    solo_done : left plan g l ≡ 0 → Quiet (suc k) st g
    solo_done e =
        let q : g.pipe l ≡ 0 = none_left ok solo.kept l solo.within e in
        record {
          kept = solo.kept;
          live = solo.live;
          placed = solo.placed;
          first = λ j h. elim (same_as j l) [ same u t ↦ rw u q | other d t ↦ solo.first j h d ];
          rests = λ j h. elim (same_as j l) [
            | other d t ↦ solo.rests j h d
            | same u t ↦ rw u (elim (see (g.busy l)) [
              | fails b ↦ b
              | holds b ↦ absurd (omega (arith, e, q, left_busy plan g l b, ok.ranged.pipes_some))
            ])
          ];
        }

  -- the working line finishes its token with as many choices as it has left
  module _ (k l n : ℕ) (rest : List Choice) (then : (st : State X) (g : Standing) → Quiet (suc k) st g → AllAccepted rest st)
      (go : (st : State X) (g : Standing) → Solo k l st g → left plan g l ≡ n → AllAccepted (replicate n (by_one l) ++ rest) st)
      (st : State X) (g : Standing) (solo : Solo k l st g) (e : left plan g l ≡ suc n) where
    work_on : Move S plan 1 order z st g 0 l (choose S (whole plan 1 st) 0 l) → AllAccepted (by_one l ∷ (replicate n (by_one l) ++ rest)) st
    work_on (stops st' f m) = absurd (omega (arith, e, left_first plan g l f.ready.waits f.first))
    work_on (enters st' f m) = absurd (omega (arith, e, left_first plan g l f.ready.waits f.first))
    work_on (starts st' f m) = accept l (replicate n (by_one l) ++ rest) st _ st' (begin g l) m started-accepted
        (go st' (begin g l) (begin_solo k l st g solo st' f m.kept)
        (omega (arith, e, left_begin ok.ranged solo.kept.good l solo.within f.ready.waits, left_later plan g l f.ready.waits f.later)))
    work_on (finishes st' f m) = accept l (replicate n (by_one l) ++ rest) st _ st' (finish plan g l) m finished-accepted
        (go st' (finish plan g l) (finish_solo k l st g solo st' f m.kept)
        (omega (arith, e, left_finish ok.ranged solo.kept.good l solo.within f.runs)))

  work : (k l n : ℕ) (rest : List Choice) → ((st : State X) (g : Standing) → Quiet (suc k) st g → AllAccepted rest st) →
      (st : State X) (g : Standing) → Solo k l st g → left plan g l ≡ n → AllAccepted (replicate n (by_one l) ++ rest) st
  work k l zero rest then st g solo e = then st g (solo_done k l st g solo e)
  work k l (suc n) rest then st g solo e =
      work_on k l n rest then (work k l n rest then) st g solo e (working_move k l st g solo (omega arith))

  module _ (k : ℕ) (st : State X) (g : Standing) (quiet : Quiet k st g) where
    -- where nobody runs, as many tokens have finished pipe 0 as are placed
    quiet_passed : g.passed 0 ≡ k
    quiet_passed = elim quiet.kept.feed [
      | free s p none m w ↦ sym p ∙ quiet.placed
      | taken j f s p m o d w ↦ absurd (never (sym f.runs ∙ quiet.rests j f.within))
      | closed j f s p m o d ↦ absurd (never (sym f.runs ∙ quiet.rests j f.within))
    ]

    quiet_in : k % plan.lines < plan.lines
    quiet_in = mod-lt k ok.ranged.lines_some

    -- the next place is that of line k mod L
    quiet_place : g.place (k % plan.lines) ≡ k
    quiet_place =
        let l : ℕ = k % plan.lines in
        let e : to_finish plan g l 0 ≡ g.place l = ap (to_finish plan g l) (sym (quiet.first l quiet_in)) ∙ finish_here ok.ranged g l in
        only plan.lines ok.ranged.lines_some k (g.place l)
        (omega (arith, e, quiet_passed, quiet.kept.good.low l 0 quiet_in ok.ranged.pipes_some ok.ranged.first_serial))
        (omega (arith, e, quiet_passed, quiet.kept.good.high l 0 quiet_in ok.ranged.pipes_some ok.ranged.first_serial))
        (quiet.kept.good.line l quiet_in)

    quiet_move : Move S plan 1 order z st g 0 (k % plan.lines) (choose S (whole plan 1 st) 0 (k % plan.lines))
    quiet_move =
        let l : ℕ = k % plan.lines in
        let none : at_work st.slots 0 plan.lines ≡ false =
        none_works st.slots 0 plan.lines (λ j h. slot_rests ok quiet.kept j h (quiet.rests j h)) in
        waits_move ok quiet.kept l quiet_in (not_ended (whole plan 1 st) quiet.live) 0 (omega arith) (quiet.rests l quiet_in)
        (turn_zero ok.ranged quiet.kept.tally quiet.kept.good l quiet_in (quiet.rests l quiet_in)
        (λ s. quiet_place ∙ sym quiet_passed ∙ ap g.passed (sym (quiet.first l quiet_in)))) none

    enter_solo : (st' : State X) → Enters plan order st g (k % plan.lines) st' → Inv S plan 1 order z st' (begin g (k % plan.lines)) →
        Solo k (k % plan.lines) st' (begin g (k % plan.lines))
    unfolding begin
    enter_solo st' f v = record {
      kept = v;
      live = f.stopped ∙ quiet.live;
      placed = f.placed ∙ ap suc quiet.placed;
      within = quiet_in;
      first = λ j h d. quiet.first j h;
      rests = λ j h d. begin_busy_else ok.ranged g (k % plan.lines) f.ready.waits j d ∙ quiet.rests j h;
    }

    module _ (rest : List Choice) (then : (st : State X) (g : Standing) → Quiet (suc k) st g → AllAccepted rest st) (n : ℕ) (e : 2 * plan.pipes ≡ suc n) where
      -- 2 · P choices of line k mod L take token k through all pipes
      round : k < length order → Move S plan 1 order z st g 0 (k % plan.lines) (choose S (whole plan 1 st) 0 (k % plan.lines)) →
          AllAccepted (by_one (k % plan.lines) ∷ (replicate n (by_one (k % plan.lines)) ++ rest)) st
      round h (stops st' f m) = absurd (omega (arith, f.last, quiet_place))
      round h (starts st' f m) = absurd (f.later (quiet.first (k % plan.lines) quiet_in))
      round h (finishes st' f m) = absurd (never (sym f.runs ∙ quiet.rests (k % plan.lines) quiet_in))
      round h (enters st' f m) = accept (k % plan.lines) (replicate n (by_one (k % plan.lines)) ++ rest) st _ st' (begin g (k % plan.lines)) m started-accepted
          (work k (k % plan.lines) n rest then st' (begin g (k % plan.lines)) (enter_solo st' f m.kept)
          (omega (arith, e, f.first, left_begin ok.ranged quiet.kept.good (k % plan.lines) quiet_in f.ready.waits)))

    -- the last choice stops
    close_run : k ≡ length order → Move S plan 1 order z st g 0 (k % plan.lines) (choose S (whole plan 1 st) 0 (k % plan.lines)) →
        AllAccepted (by_one (k % plan.lines) ∷ []) st
    unfolding answers last_of
    close_run e (stops st' f m) = rw m.is ((stopped-accepted, tt), λ a. ap (λ n. Stopped (n % plan.lines) 0) e)
    close_run e (enters st' f m) = absurd (omega (arith, f.ordered, quiet_place))
    close_run e (starts st' f m) = absurd (f.later (quiet.first (k % plan.lines) quiet_in))
    close_run e (finishes st' f m) = absurd (never (sym f.runs ∙ quiet.rests (k % plan.lines) quiet_in))

  -- from a quiet state the one-worker run goes through
  pub one_worker_lem : (places k : ℕ) → k + places ≡ length order → (st : State X) (g : Standing) → Quiet k st g → AllAccepted (one_worker plan k places) st
  unfolding one_worker
  one_worker_lem zero k e st g quiet = close_run k st g quiet (omega arith) (quiet_move k st g quiet)
  one_worker_lem (suc places) k e st g quiet =
      let n : ℕ = 2 * plan.pipes - 1 in
      let h : 2 * plan.pipes ≡ suc n = omega (arith, ok.ranged.pipes_some) in
      rw h (round k st g quiet (one_worker plan (suc k) places) (one_worker_lem places (suc k) (omega arith)) n h (omega arith) (quiet_move k st g quiet))

-- the one-worker run has 2 · P choices a place, and one more
pub length_one_worker : (plan : Pipeline) (k places : ℕ) → length (one_worker plan k places) ≡ 2 * places * plan.pipes + 1
unfolding one_worker
length_one_worker plan k zero = omega arith
length_one_worker plan k (suc places) =
    length-append (replicate (2 * plan.pipes) (by_one (k % plan.lines))) (one_worker plan (suc k) places) ∙
    omega (arith, length-replicate (2 * plan.pipes) (by_one (k % plan.lines)), length_one_worker plan (suc k) places)
