-- Answers that came in a list of answers.
use mathlib.Core.Path.{◌≡◌, ap, ◌∙◌}
use mathlib.Core.Logic.{by_cases}
use mathlib.Core.List.{List, [], ◌∷◌, ◌++◌}
use Prim.Native.Nat.{ℕ, ◌+◌, ◌≤◌}
use native.Mathlib.Omega.{arith}
use native.Mathlib.Decide.{dec_le}
use lib.Dec.{eqb}
use borrow.Author.Tests.{eqb-true}
use Rattle.rules.specs.Lists.{Every, same_pair}
use Rattle.rules.specs.Choices.{Answer, Started, Finished, Stopped, Refused}
use Rattle.rules.specs.WholeRuns.{starts_of, finishes_of}
use Rattle.rules.proofs.lists.Tests.{by_test}
use Rattle.demands.specs.Demands.{Came}

-- what holds of every answer holds of one that came, and of those before it
every_part : (P : Answer → Type 0) (before : List Answer) (a : Answer) (after : List Answer) → Every P (before ++ (a ∷ after)) → Every P before × P a
every_part P [] a after h = (tt, h.0)
every_part P (b ∷ before) a after h = let (early, here) = every_part P before a after h.1 in ((h.0, early), here)

pub every_came : (P : Answer → Type 0) {told : List Answer} (before : List Answer) (a : Answer) (after : List Answer) →
    told ≡ before ++ (a ∷ after) → Every P told → Every P before × P a
every_came P before a after e h = every_part P before a after (rw e at h)

-- an event of a token came, by another name of the token
pub came_token : (event : ℕ → Answer) {t n : ℕ} {told : List Answer} → Came (event t) told → t ≡ n → Came (event n) told
came_token event (before, after, e) t-is = (before, after, e ∙ ap (λ u. before ++ (event u ∷ after)) t-is)

-- an event of a place at a pipe came
abbrev CameAt : (ℕ → ℕ → ℕ → ℕ → ℕ → Answer) → ℕ → ℕ → List Answer → Type 0
CameAt event p k told = (l : ℕ) × (t : ℕ) × (w : ℕ) × Came (event l p t k w) told

-- two pairs that are counted as the same are the same
same_pair_lem : (a b c d : ℕ) → 1 ≤ same_pair a b c d → (c ≡ a) × (d ≡ b)
unfolding same_pair
same_pair_lem a b c d h = by_test (eqb c a)
    (λ e. by_test (eqb d b) (λ f. (eqb-true c a e, eqb-true d b f)) (λ f. absurd (omega (arith, rw (e, f) at h))))
    (λ e. absurd (omega (arith, rw e at h)))

module _ (event : ℕ → ℕ → ℕ → ℕ → ℕ → Answer) (p k : ℕ) where
  -- what came in the rest of a list came in the list
  later : {a : Answer} {told : List Answer} → CameAt event p k told → CameAt event p k (a ∷ told)
  later {a} (l, t, w, (before, after, e)) = (l, t, w, (a ∷ before, after, ap (λ (rest : List Answer). a ∷ rest) e))

  -- one event more in front: it is the one that is counted, or that came later
  here_or_later : (l q t i w : ℕ) (told : List Answer) (rest : ℕ) → 1 ≤ same_pair p k q i + rest → (1 ≤ rest → CameAt event p k told) →
      CameAt event p k (event l q t i w ∷ told)
  here_or_later l q t i w told rest h behind = by_cases (dec_le 1 (same_pair p k q i))
      (λ one. let (q-is, i-is) = same_pair_lem p k q i one in (l, t, w, ([], told, rw (q-is, i-is))))
      (λ none. later (behind (omega arith)))

-- an event that is counted came
pub started_came : (p k : ℕ) (told : List Answer) → 1 ≤ starts_of p k told → CameAt Started p k told
unfolding starts_of
started_came p k [] h = absurd (omega arith)
started_came p k (Started l q t i w ∷ told) h = here_or_later Started p k l q t i w told (starts_of p k told) h (started_came p k told)
started_came p k (Finished l q t i w ∷ told) h = later Started p k (started_came p k told h)
started_came p k (Stopped l w ∷ told) h = later Started p k (started_came p k told h)
started_came p k (Refused n ∷ told) h = later Started p k (started_came p k told h)

pub finished_came : (p k : ℕ) (told : List Answer) → 1 ≤ finishes_of p k told → CameAt Finished p k told
unfolding finishes_of
finished_came p k [] h = absurd (omega arith)
finished_came p k (Started l q t i w ∷ told) h = later Finished p k (finished_came p k told h)
finished_came p k (Finished l q t i w ∷ told) h = here_or_later Finished p k l q t i w told (finishes_of p k told) h (finished_came p k told)
finished_came p k (Stopped l w ∷ told) h = later Finished p k (finished_came p k told h)
finished_came p k (Refused n ∷ told) h = later Finished p k (finished_came p k told h)
