-- What a source keeps, a run over it keeps.
use mathlib.Core.List.{List, [], ◌∷◌}
use Prim.Native.Nat.{ℕ}
use Rattle.vocabulary.specs.declared.Slot.{Slot}
use Rattle.rules.specs.Sources.{Source, Taken, Spoiled, Nothing, Took, Released, Broken, Passed}
use Rattle.rules.specs.RunState.{Machine, slot_of}
use Rattle.rules.specs.Choices.{Choice, Chosen, choose, choose_by, follow}
use Rattle.rules.specs.RelatedSources.{OnTaken, OnReleased, Keeps}
use Rattle.rules.proofs.choices.Outcomes.{released_from, enter_effect, effect, by_effect, Outcome, turned_down, made, choose_outcome}

module _ {X : Type 0} {P : X → Type 0} {S : Source X} (keeps : Keeps P S) where
  module _ (m : Machine X) (held : P m.source) (w l : ℕ) where
    -- what a choice makes of the source
    taken_keeps : (s : Slot) (o : Taken X) → OnTaken P o → P (enter_effect m l s w o).source
    unfolding enter_effect
    taken_keeps s Spoiled h = held
    taken_keeps s (Nothing x) h = h
    taken_keeps s (Took t x) h = h

    released_keeps : (o : Released X) → OnReleased P o → P (released_from m.source o)
    released_keeps Broken h = held
    released_keeps (Passed x) h = h

    effect_keeps : (s : Slot) → P (effect S m w l s).source
    effect_keeps s = by_effect S m w l s (λ e. P e.source)
        (λ r. released_keeps (S.release s.token.0 m.source) (keeps.releases s.token.0 m.source held))
        (λ r. held)
        (λ r. taken_keeps s (S.take m.source) (keeps.takes m.source held))
        (λ r. held)

    left_keeps : {c : Chosen X} → Outcome S m w l (effect S m w l (slot_of m l)) c → P c.machine.source
    left_keeps (turned_down n) = held
    left_keeps (made falls ok) = effect_keeps (slot_of m l)

    pub choose_keeps : P (choose S m w l).machine.source
    choose_keeps = left_keeps (choose_outcome S m w l)

  -- a list of choices
  pub follow_keeps : (m : Machine X) → P m.source → (cs : List Choice) → P (follow S m cs).source
  unfolding follow
  follow_keeps m held [] = held
  follow_keeps m held (c ∷ cs) = follow_keeps (choose_by S m c).machine (choose_keeps m held c.worker c.line) cs
