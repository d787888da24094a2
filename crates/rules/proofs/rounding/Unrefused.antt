-- Refused choices play no part in demand 3: what it says of a run without them, it says of the run.
use mathlib.Core.Path.{◌≡◌, refl, sym, ap, ◌∙◌}
use mathlib.Core.List.{List, [], ◌∷◌, ◌++◌}
use Prim.Native.Nat.{ℕ}
use Rattle.rules.specs.Lists.{keep, Every}
use Rattle.rules.specs.Sources.{Source}
use Rattle.rules.specs.RunState.{Pipeline, Machine}
use Rattle.rules.specs.Choices.{Answer, Started, Finished, Stopped, Refused}
use Rattle.rules.specs.PlainSheet.{Row}
use Rattle.rules.specs.WholeRuns.{ordered, accepted, starts_of, finishes_of, Carries, Demand3}
use Rattle.rules.specs.MoreWorkers.{is_event, without_refusals}

ordered_unrefused : (told : List Answer) → ordered (without_refusals told) ≡ ordered told
unfolding ordered is_event keep
ordered_unrefused [] = refl
ordered_unrefused (Started l p t k w ∷ rest) = rw (ordered_unrefused rest)
ordered_unrefused (Finished l p t k w ∷ rest) = ordered_unrefused rest
ordered_unrefused (Stopped l w ∷ rest) = ordered_unrefused rest
ordered_unrefused (Refused n ∷ rest) = ordered_unrefused rest

accepted_unrefused : (told : List Answer) → accepted (without_refusals told) ≡ accepted told
unfolding accepted is_event keep
accepted_unrefused [] = refl
accepted_unrefused (Started l p t k w ∷ rest) = rw (accepted_unrefused rest)
accepted_unrefused (Finished l p t k w ∷ rest) = rw (accepted_unrefused rest)
accepted_unrefused (Stopped l w ∷ rest) = rw (accepted_unrefused rest)
accepted_unrefused (Refused n ∷ rest) = accepted_unrefused rest

starts_unrefused : (p k : ℕ) (told : List Answer) → starts_of p k (without_refusals told) ≡ starts_of p k told
unfolding starts_of is_event keep
starts_unrefused p k [] = refl
starts_unrefused p k (Started l q t i w ∷ rest) = rw (starts_unrefused p k rest)
starts_unrefused p k (Finished l q t i w ∷ rest) = starts_unrefused p k rest
starts_unrefused p k (Stopped l w ∷ rest) = starts_unrefused p k rest
starts_unrefused p k (Refused n ∷ rest) = starts_unrefused p k rest

finishes_unrefused : (p k : ℕ) (told : List Answer) → finishes_of p k (without_refusals told) ≡ finishes_of p k told
unfolding finishes_of is_event keep
finishes_unrefused p k [] = refl
finishes_unrefused p k (Started l q t i w ∷ rest) = finishes_unrefused p k rest
finishes_unrefused p k (Finished l q t i w ∷ rest) = rw (finishes_unrefused p k rest)
finishes_unrefused p k (Stopped l w ∷ rest) = finishes_unrefused p k rest
finishes_unrefused p k (Refused n ∷ rest) = finishes_unrefused p k rest

carries_unrefused : (plan : Pipeline) (order : List ℕ) (told : List Answer) → Every (Carries plan order) (without_refusals told) → Every (Carries plan order) told
unfolding is_event keep
carries_unrefused plan order [] h = tt
carries_unrefused plan order (Started l p t k w ∷ rest) h = (h.0, carries_unrefused plan order rest h.1)
carries_unrefused plan order (Finished l p t k w ∷ rest) h = (h.0, carries_unrefused plan order rest h.1)
carries_unrefused plan order (Stopped l w ∷ rest) h = (h.0, carries_unrefused plan order rest h.1)
carries_unrefused plan order (Refused n ∷ rest) h = (tt, carries_unrefused plan order rest h)

-- a start stays, between what is left of the answers before it and after it
split_unrefused : (before after : List Answer) (l p t k w : ℕ) →
    without_refusals (before ++ (Started l p t k w ∷ after)) ≡ without_refusals before ++ (Started l p t k w ∷ without_refusals after)
unfolding is_event keep
split_unrefused [] after l p t k w = refl
split_unrefused (Started a b c d e ∷ before) after l p t k w = rw (split_unrefused before after l p t k w)
split_unrefused (Finished a b c d e ∷ before) after l p t k w = rw (split_unrefused before after l p t k w)
split_unrefused (Stopped a b ∷ before) after l p t k w = rw (split_unrefused before after l p t k w)
split_unrefused (Refused n ∷ before) after l p t k w = split_unrefused before after l p t k w

-- demand 3
pub demand_unrefused : {X : Type 0} {S : Source X} {plan : Pipeline} {workers : ℕ} {told : List Answer} {m : Machine X} {order : List ℕ} {z : X} →
    Demand3 S plan workers (without_refusals told) m order z → Every (λ a. a ≡ Refused 14 → ⊥) told → Demand3 S plan workers told m order z
demand_unrefused {plan = plan} {told = told} {order = order} d never = record {
  order_part = (d.order_part.0, ap (λ (l : List Row). l ++ d.order_part.0) (sym (ordered_unrefused told)) ∙ d.order_part.1);
  order_whole = λ e. sym (ordered_unrefused told) ∙ d.order_whole e;
  count = (λ e. sym (accepted_unrefused told) ∙ d.count.0 e, λ e. d.count.1 (accepted_unrefused told ∙ e));
  end_state_lem = d.end_state_lem;
  carries = carries_unrefused plan order told d.carries;
  at_most_once = λ p k h i. rw (starts_unrefused p k told, finishes_unrefused p k told) at (d.at_most_once p k h i);
  each_once = λ e p k h i. rw (starts_unrefused p k told, finishes_unrefused p k told) at (d.each_once e p k h i);
  in_turn_lem = λ before after l p t k w e s j h.
      sym (finishes_unrefused p j before) ∙
      d.in_turn_lem (without_refusals before) (without_refusals after) l p t k w (ap without_refusals e ∙ split_unrefused before after l p t k w) s j h;
  never_spoiled = never;
  goes_on = d.goes_on;
  one_line_each = d.one_line_each;
  line_alone = d.line_alone;
}
