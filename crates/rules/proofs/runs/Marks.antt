-- At each pipe each place is started once and finished once.
use mathlib.Core.Path.{◌≡◌, sym, ap, ◌∙◌}
use mathlib.Core.Bool.{true, false}
use mathlib.Core.List.{List}
use Prim.Native.Nat.{ℕ, ◌+◌, ◌%◌, ◌≤◌, ◌<◌}
use native.Mathlib.Omega.{arith}
use lib.Dec.{ltb}
use lib.ListN.{length}
use borrow.Author.Tests.{lt-ltb, le-ltb}
use Rattle.rules.specs.Lists.{same_pair, if}
use Rattle.rules.specs.RunState.{Pipeline}
use Rattle.rules.specs.Sources.{Source}
use Rattle.rules.specs.Choices.{Answer}
use Rattle.rules.specs.WholeRuns.{PipelineInRange, starts_of, finishes_of}
use Rattle.rules.proofs.lists.Tests.{same, other, same_as, lower, upper, below, holds, fails, see, same_pair_lem, other_pair}
use Rattle.rules.proofs.lists.Rotation.{only}
use Rattle.rules.proofs.standing.Standing.{Standing, Good, begin, finish, to_start, to_finish, start_here, finish_here}
use Rattle.rules.proofs.standing.Begin.{begin_finish, begin_start_here, begin_start_else}
use Rattle.rules.proofs.standing.Finish.{finish_start, finish_finish_here, finish_finish_else}
use Rattle.rules.proofs.invariant.Invariant.{State}
use Rattle.rules.proofs.choices.Trace.{Trace, rests, refused, stopped, entered, started, finished}

-- 1 where a place comes before the next one to be done
unfoldable pub mark : ℕ → ℕ → ℕ
mark k n = if (ltb k n) 1 0

-- a mark's values
pub mark_done : (k n : ℕ) → k < n → mark k n ≡ 1
unfolding mark
mark_done k n h = rw (lt-ltb k n h)

pub mark_due : (k n : ℕ) → n ≤ k → mark k n ≡ 0
unfolding mark
mark_due k n h = rw (le-ltb k n h)

pub mark_one : (k n : ℕ) → mark k n ≤ 1
unfolding mark
mark_one k n = elim (see (ltb k n)) [ holds e ↦ rw e (omega arith) | fails e ↦ rw e (omega arith) ]

-- when a line goes on to its next place, it is done with the one, and with no other
mark_next : (lines : ℕ) → 0 < lines → (p k i : ℕ) → i % lines ≡ k % lines → mark k (lines + i) ≡ same_pair p k p i + mark k i
mark_next lines some p k i e = elim (same_as i k) [
  | same f t ↦ rw f (omega (arith, mark_done k (lines + k) (omega arith), mark_due k k (omega arith), same_pair_lem p k))
  | other n t ↦ elim (below k i) [
    | lower h u ↦ omega (arith, mark_done k (lines + i) (omega arith), mark_done k i h, other_pair p k p i (λ a b. n b))
    | upper h u ↦ elim (below k (i + lines)) [
      | lower m v ↦ absurd (n (sym (only lines some i k h m (sym e))))
      | upper m v ↦ omega (arith, mark_due k (lines + i) (omega arith), mark_due k i h, other_pair p k p i (λ a b. n b))
    ]
  ]
]

module _ {plan : Pipeline} (ranged : PipelineInRange plan) {g : Standing} (ok : Good plan g) (l : ℕ) (i : l < plan.lines) (p k : ℕ) where
  -- the places of another line, and other pipes, are not the same pair as this one's
  apart : (k % plan.lines ≡ l → p ≡ g.pipe l → ⊥) → same_pair p k (g.pipe l) (g.place l) ≡ 0
  apart n = other_pair p k (g.pipe l) (g.place l) (λ q e. n (ap (λ m. m % plan.lines) (sym e) ∙ ok.line l i) (sym q))

  -- a start marks its own place at its own pipe as started
  pub begin_mark : g.busy l ≡ false →
      mark k (to_start plan (begin g l) (k % plan.lines) p) ≡ same_pair p k (g.pipe l) (g.place l) + mark k (to_start plan g (k % plan.lines) p)
  begin_mark b = elim (same_as (k % plan.lines) l) [
    | other n t ↦ rw (begin_start_else ranged g l b (k % plan.lines) p (λ e f. n e), apart (λ e f. n e)) (omega arith)
    | same e t ↦ elim (same_as p (g.pipe l)) [
      | other n u ↦ rw (begin_start_else ranged g l b (k % plan.lines) p (λ q f. n f), apart (λ q f. n f)) (omega arith)
      | same f u ↦ rw (e, f, begin_start_here ranged g l b, start_here ranged g l b)
          (mark_next plan.lines ranged.lines_some (g.pipe l) k (g.place l) (ok.line l i ∙ sym e))
    ]
  ]

  -- a finish marks its own place at its own pipe as finished
  pub finish_mark : g.busy l ≡ true → p < plan.pipes →
      mark k (to_finish plan (finish plan g l) (k % plan.lines) p) ≡ same_pair p k (g.pipe l) (g.place l) + mark k (to_finish plan g (k % plan.lines) p)
  finish_mark b h = elim (same_as (k % plan.lines) l) [
    | other n t ↦ rw (finish_finish_else ranged g l b (k % plan.lines) p h (λ e f. n e), apart (λ e f. n e)) (omega arith)
    | same e t ↦ elim (same_as p (g.pipe l)) [
      | other n u ↦ rw (finish_finish_else ranged g l b (k % plan.lines) p h (λ q f. n f), apart (λ q f. n f)) (omega arith)
      | same f u ↦ rw (e, f, finish_finish_here ranged g l b, finish_here ranged g l)
          (mark_next plan.lines ranged.lines_some (g.pipe l) k (g.place l) (ok.line l i ∙ sym e))
    ]
  ]

module _ {X : Type 0} {S : Source X} {plan : Pipeline} {workers : ℕ} {order : List ℕ} {z : X} (ranged : PipelineInRange plan) {end : State X} {last : Standing}
    (p k : ℕ) (h : p < plan.pipes) (ordered : k < length order) where
  -- the Started events of place k at pipe p are those that its mark lacked
  pub starts_marked : {st : State X} {g : Standing} {events : List Answer} → Trace S plan workers order z end last st g events →
      starts_of p k events + mark k (to_start plan g (k % plan.lines) p) ≡ mark k (to_start plan last (k % plan.lines) p)
  unfolding starts_of
  starts_marked (rests inv) = omega arith
  starts_marked (refused n d t) = starts_marked t
  starts_marked (stopped {g = g} l inv f t) =
      omega (
        arith,
        starts_marked t,
        begin_mark ranged inv.good l f.ready.within p k f.ready.waits,
        other_pair p k (g.pipe l) (g.place l) (λ q e. omega (arith, f.last, e)),
      )
  starts_marked (entered {g = g} l inv f t) =
      omega (arith, starts_marked t, rw f.first at (begin_mark ranged inv.good l f.ready.within p k f.ready.waits))
  starts_marked (started {g = g} l inv f t) =
      omega (arith, starts_marked t, begin_mark ranged inv.good l f.ready.within p k f.ready.waits)
  starts_marked (finished {g = g} l inv f t) = rw (finish_start ranged g l f.runs (k % plan.lines) p h) at (starts_marked t)

  -- and the Finished events
  pub finishes_marked : {st : State X} {g : Standing} {events : List Answer} → Trace S plan workers order z end last st g events →
      finishes_of p k events + mark k (to_finish plan g (k % plan.lines) p) ≡ mark k (to_finish plan last (k % plan.lines) p)
  unfolding finishes_of
  finishes_marked (rests inv) = omega arith
  finishes_marked (refused n d t) = finishes_marked t
  finishes_marked (stopped {g = g} l inv f t) = rw (begin_finish ranged g l f.ready.waits (k % plan.lines) p) at (finishes_marked t)
  finishes_marked (entered {g = g} l inv f t) = rw (begin_finish ranged g l f.ready.waits (k % plan.lines) p) at (finishes_marked t)
  finishes_marked (started {g = g} l inv f t) = rw (begin_finish ranged g l f.ready.waits (k % plan.lines) p) at (finishes_marked t)
  finishes_marked (finished {g = g} l inv f t) =
      omega (arith, finishes_marked t, finish_mark ranged inv.good l f.within p k f.runs h)
