-- Related sources: one gives the tokens that another gives, by a map of their states, wherever the other is not spoiled.
use Rattle.std.specs.Prelude.{◌≡◌, ℕ}
use Rattle.rules.specs.Sources.{Source, Taken, Spoiled, Nothing, Took, Released, Broken, Passed}
use Rattle.rules.specs.RunState.{Machine}
use Rattle.rules.specs.Choices.{Chosen}

-- the same run with another source
abbrev pub with_source : {X Y : Type 0} → Machine X → Y → Machine Y
with_source m y =
    record {
      pipes = m.pipes;
      lines = m.lines;
      tokens = m.tokens;
      workers = m.workers;
      serial = m.serial;
      counters = m.counters;
      slots = m.slots;
      placed = m.placed;
      stopped = m.stopped;
      source = y;
    }

module _ {X Y : Type 0} (f : X → Y) where
  -- the map on what taking gives, and on what a finish leaves
  abbrev pub map_taken : Taken X → Taken Y
  map_taken Spoiled = Spoiled
  map_taken (Nothing x) = Nothing (f x)
  map_taken (Took n x) = Took n (f x)

  abbrev pub map_released : Released X → Released Y
  map_released Broken = Broken
  map_released (Passed x) = Passed (f x)

  -- the map on a run, and on what a choice returns and leaves
  abbrev pub map_machine : Machine X → Machine Y
  map_machine m = with_source m (f m.source)

  abbrev pub map_chosen : Chosen X → Chosen Y
  map_chosen c = record { answer = c.answer; machine = map_machine c.machine }

  -- the second source takes, releases and is sound as the first
  pub record Follows (S : Source X) (T : Source Y) : Type 0 where
    pub takes : (x : X) → (S.take x ≡ Spoiled → ⊥) → T.take (f x) ≡ map_taken (S.take x)
    pub releases : (n : ℕ) (x : X) → (S.release n x ≡ Broken → ⊥) → T.release n (f x) ≡ map_released (S.release n x)
    pub sounds : (x : X) → T.sound (f x) ≡ S.sound x

-- a property of a source's state that taking and a finish keep
module _ {X : Type 0} (P : X → Type 0) where
  abbrev pub OnTaken : Taken X → Type 0
  OnTaken Spoiled = Unit {0}
  OnTaken (Nothing x) = P x
  OnTaken (Took n x) = P x

  abbrev pub OnReleased : Released X → Type 0
  OnReleased Broken = Unit {0}
  OnReleased (Passed x) = P x

  pub record Keeps (S : Source X) : Type 0 where
    pub takes : (x : X) → P x → OnTaken (S.take x)
    pub releases : (n : ℕ) (x : X) → P x → OnReleased (S.release n x)
