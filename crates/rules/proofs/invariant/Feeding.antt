-- What the source gives next, and what it has to give after each move.
use mathlib.Core.Path.{◌≡◌, sym, ap, ◌∙◌}
use mathlib.Core.Bool.{true, false}
use mathlib.Core.List.{List, ◌∷◌}
use Prim.Native.Nat.{ℕ, suc, ◌≤◌, ◌<◌}
use native.Mathlib.Omega.{arith}
use lib.ListN.{length, get_or, drop, length-drop}
use lib.Seq.{drop-cons}
use Rattle.vocabulary.specs.declared.Slots.{Slots}
use Rattle.rules.specs.RunState.{Pipeline}
use Rattle.rules.specs.Sources.{Source, Writes, close, write, Nothing, Took, Passed}
use Rattle.rules.specs.WholeRuns.{PipelineInRange}
use Rattle.rules.proofs.lists.Tests.{same, other, same_as, never}
use Rattle.rules.proofs.standing.Standing.{Standing, begin, finish}
use Rattle.rules.proofs.standing.Begin.{begin_busy_else}
use Rattle.rules.proofs.standing.Finish.{finish_busy, finish_busy_else, finish_pipe_else, finish_passed_else}
use Rattle.rules.proofs.invariant.Invariant.{State, First, Feed, free, taken, closed}

module _ {X : Type 0} (S : Source X) (order : List ℕ) (z : X) where
  -- taking once k tokens are given: the source closes, or gives token k and then can go on
  pub data Pull (x : X) (k : ℕ) : Type 0 where
    ends : S.take x ≡ Nothing z → S.sound z ≡ true → k ≡ length order → Pull x k
    gives : (y x' : X) → k < length order → S.take x ≡ Took (get_or order k 0) y → S.sound y ≡ true →
        S.release (get_or order k 0) y ≡ Passed x' → Writes S x' (drop (suc k) order) z → Pull x k

  -- what the source writes from here on says what taking gives
  pub pull : {x : X} {ts : List ℕ} (k : ℕ) → k ≤ length order → Writes S x ts z → ts ≡ drop k order → Pull x k
  pull k h (close a b c) e = ends b c (omega (arith, length-drop k order, ap length e))
  pull k h (write {x = x} {y = y} {x' = x'} {t = t} {ts = ts} a b c d w) e =
      let i : k < length order = omega (arith, length-drop k order, ap length e) in
      let split : t ∷ ts ≡ get_or order k 0 ∷ drop (suc k) order = e ∙ drop-cons order k 0 i in
      let same-token : t ≡ get_or order k 0 = cc in
      let same_rest : ts ≡ drop (suc k) order = cc in
      gives y x' i (rw same-token at b) c (rw same-token at d) (rw same_rest at w)

module _ {X : Type 0} {S : Source X} {plan : Pipeline} (ranged : PipelineInRange plan) {order : List ℕ} {z : X} {st : State X} {g : Standing} (l : ℕ) where
  -- a line that waits past pipe 0 starts: the source has no part in it
  pub begin_feed : (counters : List ℕ) (slots : Slots) → g.busy l ≡ false → (g.pipe l ≡ 0 → ⊥) → Feed S plan order z st g →
      Feed S plan order z (record { counters = counters; slots = slots; placed = st.placed; stopped = st.stopped; source = st.source }) (begin g l)
  unfolding begin
  begin_feed cs ss b n feed = elim feed [
    | free s p none m w ↦ free s p (λ j f. elim (same_as j l) [
      | same e t ↦ n (ap g.pipe (sym e) ∙ f.first)
      | other d t ↦ none j (record { within = f.within; first = f.first; runs = sym (begin_busy_else ranged g l b j d) ∙ f.runs })
    ]) m w
    | taken j f s p m o r w ↦ taken j (still j f) s p m o r w
    | closed j f s p m o e ↦ closed j (still j f) s p m o e
  ]
    where
      still : (j : ℕ) → First plan g j → First plan (begin g l) j
      still j f = record {
        within = f.within;
        first = f.first;
        runs = begin_busy_else ranged g l b j (λ e. n (ap g.pipe (sym e) ∙ f.first)) ∙ f.runs;
      }

  -- a line that runs past pipe 0 finishes: the source has no part in it
  pub finish_feed : (counters : List ℕ) (slots : Slots) → g.busy l ≡ true → (g.pipe l ≡ 0 → ⊥) → Feed S plan order z st g →
      Feed S plan order z (record { counters = counters; slots = slots; placed = st.placed; stopped = st.stopped; source = st.source }) (finish plan g l)
  finish_feed cs ss b n feed =
      let p0 : (finish plan g l).passed 0 ≡ g.passed 0 = finish_passed_else ranged g l b 0 (λ e. n (sym e)) in
      elim feed [
        | free s p none m w ↦ free s (p ∙ sym p0) (λ j f. elim (same_as j l) [
          | same e t ↦ never (sym f.runs ∙ ap (finish plan g l).busy e ∙ finish_busy ranged g l b)
          | other d t ↦ none j (record {
            within = f.within;
            first = sym (finish_pipe_else ranged g l b j d) ∙ f.first;
            runs = sym (finish_busy_else ranged g l b j d) ∙ f.runs;
          })
        ]) (rw p0 m) (rw p0 w)
        | taken {x = x} j f s p m o r w ↦ taken {x = x} j (still j f) s (p ∙ ap suc (sym p0)) (rw p0 m) o (rw p0 r) (rw p0 w)
        | closed j f s p m o e ↦ closed j (still j f) s (p ∙ sym p0) (p0 ∙ m) o e
      ]
    where
      still : (j : ℕ) → First plan g j → First plan (finish plan g l) j
      still j f =
          let d : j ≡ l → ⊥ = λ e. n (ap g.pipe (sym e) ∙ f.first) in
          record {
            within = f.within;
            first = finish_pipe_else ranged g l b j d ∙ f.first;
            runs = finish_busy_else ranged g l b j d ∙ f.runs;
          }
