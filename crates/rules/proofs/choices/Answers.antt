-- Lists of answers.
use mathlib.Core.Path.{◌≡◌, refl, ap}
use mathlib.Core.List.{List, [], ◌∷◌, ◌++◌}
use Prim.Native.Nat.{ℕ, suc}
use native.Mathlib.Omega.{arith}
use lib.ListN.{length}
use Rattle.rules.specs.Lists.{Every}
use Rattle.rules.specs.RunState.{Machine}
use Rattle.rules.specs.Sources.{Source}
use Rattle.rules.specs.Choices.{Choice, Answer, Started, Finished, Stopped, Refused, choose_by, answers, follow}
use Rattle.rules.specs.WholeRuns.{Accepted, accepted}

-- an event is no refusal
pub started-accepted : {l p t k w : ℕ} → Accepted (Started l p t k w)
started-accepted n e = let q : ◌≡◌ {A = ℕ} 0 1 = cc in omega arith

pub finished-accepted : {l p t k w : ℕ} → Accepted (Finished l p t k w)
finished-accepted n e = let q : ◌≡◌ {A = ℕ} 0 1 = cc in omega arith

pub stopped-accepted : {l w : ℕ} → Accepted (Stopped l w)
stopped-accepted n e = let q : ◌≡◌ {A = ℕ} 0 1 = cc in omega arith

-- where all choices are accepted, as many are accepted as are made
pub all-counted : (events : List Answer) → Every Accepted events → accepted events ≡ length events
unfolding accepted
all-counted [] h = refl
all-counted (Started l p t k w ∷ rest) h = ap suc (all-counted rest h.1)
all-counted (Finished l p t k w ∷ rest) h = ap suc (all-counted rest h.1)
all-counted (Stopped l w ∷ rest) h = ap suc (all-counted rest h.1)
all-counted (Refused n ∷ rest) h = absurd (h.0 n refl)

-- every choice has one answer
pub length-answers : {X : Type 0} (S : Source X) (m : Machine X) (cs : List Choice) → length (answers S m cs) ≡ length cs
unfolding answers
length-answers S m [] = refl
length-answers S m (c ∷ cs) = ap suc (length-answers S (choose_by S m c).machine cs)

-- the choices before one of the answers, and the choice that has it
pub record Split {X : Type 0} (S : Source X) (m : Machine X) (before : List Answer) (a : Answer) : Type 0 where
  pub earlier : List Choice
  pub choice : Choice
  pub is : answers S m earlier ≡ before
  pub gives : (choose_by S (follow S m earlier) choice).answer ≡ a

-- the choices that led to one of the answers
pub split : {X : Type 0} (S : Source X) (m : Machine X) (cs : List Choice) (before : List Answer) (a : Answer) (after : List Answer) →
    answers S m cs ≡ before ++ (a ∷ after) → Split S m before a
unfolding answers follow
split S m [] [] a after e = absurd (omega (arith, ap length e))
split S m [] (b ∷ before) a after e = absurd (omega (arith, ap length e))
split S m (c ∷ cs) [] a after e = record { earlier = []; choice = c; is = refl; gives = cc }
split S m (c ∷ cs) (b ∷ before) a after e =
    let r : Split S (choose_by S m c).machine before a = split S (choose_by S m c).machine cs before a after (cc) in
    record { earlier = c ∷ r.earlier; choice = r.choice; is = cc r.is; gives = r.gives }
