-- At a serial pipe tokens finish in the sheet's order.
use mathlib.Core.Path.{◌≡◌, refl, sym, ap, ◌∙◌}
use mathlib.Core.Bool.{true}
use mathlib.Core.List.{List, ◌∷◌, ◌++◌, append-nil}
use Prim.Native.Nat.{ℕ, suc, ◌<◌}
use native.Mathlib.Omega.{arith}
use lib.ListN.{length, get_or, drop}
use lib.Seq.{drop-cons, drop-length}
use Rattle.rules.specs.RunState.{Pipeline}
use Rattle.rules.specs.Sources.{Source}
use Rattle.rules.specs.Choices.{Choice, Answer, Finished, opened, ended}
use Rattle.rules.specs.WholeRuns.{PipelineInRange, WorkersInRange, Sheet, events, end}
use Rattle.rules.specs.Rounding.{finisher}
use Rattle.rules.specs.RoundedRuns.{finishers_at}
use Rattle.rules.proofs.lists.Tests.{same, other, same_as}
use Rattle.rules.proofs.standing.Standing.{Standing, serial_at, begin, finish}
use Rattle.rules.proofs.standing.Finish.{finish_passed_here, finish_passed_else}
use Rattle.rules.proofs.invariant.Invariant.{State, Inv}
use Rattle.rules.proofs.choices.Moves.{Finishes}
use Rattle.rules.proofs.choices.Trace.{Trace, rests, refused, stopped, entered, started, finished}
use Rattle.rules.proofs.runs.Final.{all_passed}
use Rattle.rules.proofs.runs.WholeRuns.{allowed, run, over}

-- a Finished event at the pipe names its token; one elsewhere does not count
finisher_here : (l p t k w : ℕ) (rest : List Answer) → finishers_at p (Finished l p t k w ∷ rest) ≡ t ∷ finishers_at p rest
unfolding finishers_at finisher
finisher_here l p t k w rest = elim (same_as p p) [ same e u ↦ rw u | other n u ↦ absurd (n refl) ]

finisher_else : (l q p t k w : ℕ) (rest : List Answer) → (q ≡ p → ⊥) → finishers_at p (Finished l q t k w ∷ rest) ≡ finishers_at p rest
unfolding finishers_at finisher
finisher_else l q p t k w rest n = elim (same_as q p) [ same e u ↦ absurd (n e) | other m u ↦ rw u ]

module _ {X : Type 0} {S : Source X} {plan : Pipeline} {workers : ℕ} {order : List ℕ} {z : X} (ranged : PipelineInRange plan)
    (p : ℕ) (s : serial_at plan p ≡ true) where
  -- a finish at the pipe is of the next token there
  one_finishes : {st st' : State X} {g : Standing} (l : ℕ) → Inv S plan workers order z st g → Finishes plan order st g l st' → (rest : List Answer) (w to : ℕ) →
      finishers_at p rest ++ drop to order ≡ drop ((finish plan g l).passed p) order →
      finishers_at p (Finished l (g.pipe l) (get_or order (g.place l) 0) (g.place l) w ∷ rest) ++ drop to order ≡ drop (g.passed p) order
  one_finishes {g = g} l inv f rest w to h = elim (same_as p (g.pipe l)) [
    | other n u ↦
        ap (λ (k : List ℕ). k ++ drop to order) (finisher_else l (g.pipe l) p _ _ w rest (λ q. n (sym q))) ∙
        h ∙ ap (λ k. drop k order) (finish_passed_else ranged g l f.runs p n)
    | same e u ↦
        let serial : serial_at plan (g.pipe l) ≡ true = ap (serial_at plan) (sym e) ∙ s in
        let place : g.place l ≡ g.passed p = inv.good.held l f.within serial f.runs ∙ ap g.passed (sym e) in
        let more : (finish plan g l).passed p ≡ suc (g.passed p) =
        ap (finish plan g l).passed e ∙ finish_passed_here ranged g l f.runs serial ∙ ap (λ q. suc (g.passed q)) (sym e) in
        ap (λ q. finishers_at p (Finished l q (get_or order (g.place l) 0) (g.place l) w ∷ rest) ++ drop to order) (sym e) ∙
        ap (λ (k : List ℕ). k ++ drop to order) (finisher_here l p _ _ w rest) ∙
        ap (λ (k : List ℕ). get_or order (g.place l) 0 ∷ k) (h ∙ ap (λ k. drop k order) more) ∙
        ap (λ i. get_or order i 0 ∷ drop (suc (g.passed p)) order) place ∙
        sym (drop-cons order (g.passed p) 0 (omega (arith, f.ordered, place)))
  ]

  module _ {end : State X} {last : Standing} where
    -- the tokens that have finished the pipe, and those that have not yet, are the order from where it began
    finishers_from : {st : State X} {g : Standing} {events : List Answer} → Trace S plan workers order z end last st g events →
        finishers_at p events ++ drop (last.passed p) order ≡ drop (g.passed p) order
    unfolding finishers_at finisher begin
    finishers_from (rests inv) = refl
    finishers_from (refused n h t) = finishers_from t
    finishers_from (stopped l inv f t) = finishers_from t
    finishers_from (entered l inv f t) = finishers_from t
    finishers_from (started l inv f t) = finishers_from t
    finishers_from (finished {rest = rest} {w = w} l inv f t) = one_finishes l inv f rest w (last.passed p) (finishers_from t)

module _ {X : Type 0} {S : Source X} {plan : Pipeline} (ranged : PipelineInRange plan)
    {workers : ℕ} (manned : WorkersInRange workers) {x : X} {order : List ℕ} {z : X}
    (sheet : Sheet S plan x order z) (ls : List Choice) (p : ℕ) (s : serial_at plan p ≡ true) where
  so_far : finishers_at p (events S plan workers x ls) ++ drop ((run ranged manned sheet ls).last.passed p) order ≡ order
  unfolding opened
  so_far = finishers_from ranged p s (run ranged manned sheet ls).trace

  -- after any list the tokens that finished a serial pipe are a first part of the sheet, at the end all of it
  pub finishers_part : (rest : List ℕ) × (finishers_at p (events S plan workers x ls) ++ rest ≡ order)
  finishers_part = (_, so_far)

  pub finishers_whole : p < plan.pipes → ended (end S plan workers x ls) ≡ true → finishers_at p (events S plan workers x ls) ≡ order
  finishers_whole h e =
      let r = run ranged manned sheet ls in
      let q : r.last.passed p ≡ length order = all_passed (allowed ranged manned sheet) r.kept (over ranged manned sheet ls e) p h s in
      sym (append-nil _) ∙
      ap (λ (l : List ℕ). finishers_at p (events S plan workers x ls) ++ l) (sym (ap (λ k. drop k order) q ∙ drop-length order)) ∙ so_far
