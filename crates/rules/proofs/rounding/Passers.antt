-- The tokens whose cells pass, by the answers.
use mathlib.Core.Path.{◌≡◌, refl, sym, ap, ◌∙◌}
use mathlib.Core.Bool.{true}
use mathlib.Core.List.{List, [], ◌∷◌, ◌++◌, append_assoc}
use Prim.Native.Nat.{ℕ, ◌≤◌, ◌<◌}
use native.Mathlib.Omega.{arith}
use lib.Dec.{eqb}
use lib.ListN.{length, get_or, length-append}
use lib.Seq.{get_or-append_seam}
use borrow.Author.Tests.{eq-eqb}
use Rattle.rules.specs.Lists.{keep}
use Rattle.rules.specs.RunState.{Pipeline}
use Rattle.rules.specs.Sources.{Source}
use Rattle.rules.specs.Choices.{Choice, Answer, Refused, opened, choose_by, ended}
use Rattle.rules.specs.WholeRuns.{PipelineInRange, WorkersInRange, Sheet, events, end}
use Rattle.rules.specs.MoreWorkers.{without_refusals}
use Rattle.rules.specs.Rounding.{is_base, Rounding, with_sum, Passing, NonePasses, Passes, finisher, passing}
use Rattle.rules.specs.RoundedRuns.{AtOpening, without, rounds, add_finisher, finishers_at}
use Rattle.rules.proofs.lists.Tests.{same, other, same_as, never, if_same}
use Rattle.rules.proofs.choices.Joined.{answers_one}
use Rattle.rules.proofs.runs.Finishers.{finishers_part, finishers_whole}
use Rattle.rules.proofs.runs.AcceptedOnly.{event, refusal, kind}
use Rattle.rules.proofs.rounding.Choice.{refused_finisher}

-- nobody passes, or a token does
pub data Seen (p : Passing) : Type 0 where
  nobody : p ≡ NonePasses → Seen p
  someone : (t : ℕ) → p ≡ Passes t → Seen p

pub seen : (p : Passing) → Seen p
seen NonePasses = nobody refl
seen (Passes t) = someone t refl

-- the tokens that pass
unfoldable pub passers_of : Rounding → List Answer → List ℕ
passers_of r [] = []
passers_of r (a ∷ rest) = add_finisher (passing r a) (passers_of r rest)

-- who passes does not depend on T
pub passing_with : (r : Rounding) (sum : ℕ) (a : Answer) → passing (with_sum r sum) a ≡ passing r a
unfolding passing
passing_with r sum a = refl

-- nobody passes by a refusal
pub passing_refused : (r : Rounding) (n : ℕ) → passing r (Refused n) ≡ NonePasses
unfolding passing
passing_refused r n = rw refused_finisher (if_same (eqb r.base 0) NonePasses)

-- without rounding nobody passes by any answer
pub passing_some : (r : Rounding) (a : Answer) (t : ℕ) → passing r a ≡ Passes t → r.base ≡ 0 → ⊥
unfolding passing
passing_some r a t e b = let q : NonePasses ≡ Passes t = rw (eq-eqb r.base 0 b) at e in let w : ◌≡◌ {A = ℕ} 0 1 = cc in omega arith

-- with one answer more
pub passers_one : (r : Rounding) (events : List Answer) (a : Answer) → passers_of r (events ++ (a ∷ [])) ≡ passers_of r events ++ add_finisher (passing r a) []
unfolding passers_of
passers_one r [] a = refl
passers_one r (b ∷ rest) a = elim (seen (passing r b)) [
  | nobody e ↦ rw e (passers_one r rest a)
  | someone t e ↦ rw e (ap (λ (l : List ℕ). t ∷ l) (passers_one r rest a))
]

-- refusals play no part
pub passers_unrefused : (r : Rounding) (events : List Answer) → passers_of r (without_refusals events) ≡ passers_of r events
unfolding passers_of keep
passers_unrefused r [] = refl
passers_unrefused r (a ∷ rest) = elim (kind a) [
  | event e ok ↦ rw e (ap (add_finisher (passing r a)) (passers_unrefused r rest))
  | refusal e n q ↦
      rw e (passers_unrefused r rest ∙ sym (ap (λ p. add_finisher p (passers_of r rest)) (ap (passing r) q ∙ passing_refused r n)))
]

-- without rounding nobody passes
pub passers_none : (r : Rounding) → r.base ≡ 0 → (events : List Answer) → passers_of r events ≡ []
unfolding passers_of passing
passers_none r e [] = refl
passers_none r e (a ∷ rest) = rw (eq-eqb r.base 0 e) (passers_none r e rest)

-- with rounding those that finish its pipe
pub passers_finish : (r : Rounding) → (r.base ≡ 0 → ⊥) → (events : List Answer) → passers_of r events ≡ finishers_at r.pipe events
unfolding passers_of passing finishers_at
passers_finish r n [] = refl
passers_finish r n (a ∷ rest) = elim (same_as r.base 0) [
  | same e t ↦ absurd (n e)
  | other m t ↦ rw t (ap (add_finisher (finisher r.pipe a)) (passers_finish r n rest))
]

-- 0 is no base
pub base_some : (b : ℕ) → is_base b ≡ true → b ≡ 0 → ⊥
unfolding is_base
base_some b e q = never (sym (rw q at e))

module _ {X : Type 0} {S : Source X} {plan : Pipeline} (ranged : PipelineInRange plan)
    {workers : ℕ} (manned : WorkersInRange workers) {x : X} {order : List ℕ} {z : X}
    (sheet : Sheet S plan x order z) (ls : List Choice) where
  -- in a run without rounding the passers are a first part of the sheet
  pub passers_part : {r : Rounding} → AtOpening plan r → (rest : List ℕ) × (passers_of r (events S plan workers x ls) ++ rest ≡ order)
  passers_part without = (order, ap (λ (l : List ℕ). l ++ order) (passers_none _ refl (events S plan workers x ls)))
  passers_part (rounds {pipe} {base} h s b) =
      let q = finishers_part ranged manned sheet ls pipe s in
      (q.0, ap (λ (l : List ℕ). l ++ q.0) (passers_finish (record { pipe = pipe; base = base; sum = 0 }) (base_some base b) _) ∙ q.1)

  -- at the end of one with rounding all of it
  pub passers_whole : {r : Rounding} → AtOpening plan r → is_base r.base ≡ true → ended (end S plan workers x ls) ≡ true →
      passers_of r (events S plan workers x ls) ≡ order
  passers_whole without b e = absurd (base_some 0 b refl)
  passers_whole (rounds {pipe} {base} h s b) c e =
      passers_finish (record { pipe = pipe; base = base; sum = 0 }) (base_some base b) _ ∙ finishers_whole ranged manned sheet ls pipe s h e

  -- so they are not more than the sheet has
  pub passers_few : {r : Rounding} → AtOpening plan r → length (passers_of r (events S plan workers x ls)) ≤ length order
  passers_few {r} h =
      let q = passers_part h in
      omega (arith, ap length q.1, length-append (passers_of r (events S plan workers x ls)) q.0)

-- a token passes by a choice only when it is the sheet's next there
module _ {X : Type 0} {S : Source X} {plan : Pipeline} (ranged : PipelineInRange plan)
    {workers : ℕ} (manned : WorkersInRange workers) {x : X} {order : List ℕ} {z : X}
    (sheet : Sheet S plan x order z) {r : Rounding} (opens : AtOpening plan r) (cs : List Choice) (c : Choice) (t : ℕ)
    (e : passing r (choose_by S (end S plan workers x cs) c).answer ≡ Passes t) where
  abbrev passed : List ℕ
  passed = passers_of r (events S plan workers x cs)

  pub passers_more : passers_of r (events S plan workers x (cs ++ (c ∷ []))) ≡ passed ++ (t ∷ [])
  passers_more = ap (passers_of r) (answers_one S (opened plan workers x) cs c) ∙ rw (passers_one, e)

  sheet_so : (rest : List ℕ) × (passed ++ (t ∷ rest) ≡ order)
  sheet_so =
      let (rest, part) = passers_part ranged manned sheet (cs ++ (c ∷ [])) opens in
      (rest, sym (append_assoc passed (t ∷ []) rest) ∙ ap (λ (l : List ℕ). l ++ rest) (sym passers_more) ∙ part)

  pub next_passes : get_or order (length passed) 0 ≡ t
  next_passes =
      let (rest, whole) = sheet_so in
      ap (λ (l : List ℕ). get_or l (length passed) 0) (sym whole) ∙ get_or-append_seam passed t rest 0

  pub next_there : length passed < length order
  next_there = let (rest, whole) = sheet_so in omega (arith, ap length whole, length-append passed (t ∷ rest))
