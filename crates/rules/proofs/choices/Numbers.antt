-- A choice's own checks never give 18, the number of what is lent for rounding.
use mathlib.Core.Path.{◌≡◌}
use mathlib.Core.Bool.{Bool, true, false}
use mathlib.Core.List.{List}
use Prim.Native.Nat.{ℕ}
use native.Mathlib.Omega.{arith}
use lib.Dec.{ltb, eqb}
use lib.ListN.{get_or}
use Rattle.vocabulary.specs.declared.Slot.{Slot}
use Rattle.rules.specs.Lists.{if}
use Rattle.rules.specs.RunState.{Machine, slot_of, counter_at, counter_of, is_serial}
use Rattle.rules.specs.Sources.{Source, Taken, Spoiled, Nothing, Took, Released, Broken, Passed}
use Rattle.rules.specs.Ranges.{sound}
use Rattle.rules.specs.Choices.{Chosen, Refused, next, fall, refuse, at_work, ended}
use Rattle.rules.specs.Choices.{start_first, start_later, start, settle, finish_with, finish_first, finish, move, choose}
use Rattle.rules.proofs.choices.Answers.{started-accepted, finished-accepted, stopped-accepted}

module _ {X : Type 0} where
  -- the answer is another
  abbrev pub Not18 : Chosen X → Type 0
  Not18 c = c.answer ≡ Refused 18 → ⊥

  -- by the two outcomes of a test
  either : (b : Bool) (c d : Chosen X) → Not18 c → Not18 d → Not18 (if b c d)
  either true c d p q = p
  either false c d p q = q

  refused_with_lem : (m : Machine X) (k : ℕ) → (k ≡ 18 → ⊥) → Not18 (refuse m k)
  refused_with_lem m k n e = n (cc)

  module _ (S : Source X) (m : Machine X) (w l : ℕ) where
    spoiled : Not18 (refuse m 14)
    spoiled = refused_with_lem m 14 (omega arith)

    first_other : (o : Taken X) → Not18 (start_first S m w l o)
    unfolding start_first
    first_other Spoiled = spoiled
    first_other (Nothing x) = stopped-accepted 18
    first_other (Took t x) = either (ltb m.placed m.tokens) _ _ (started-accepted 18) spoiled

    start_other : Not18 (start S m w l)
    unfolding start start_later
    start_other = either (eqb (slot_of m l).pipe.0 0) _ _ (first_other (S.take m.source)) (started-accepted 18)

    settle_other : (s : Slot) (c : List ℕ) (x : X) → Not18 (settle S m l s c x)
    unfolding settle
    settle_other s c x = either (eqb (get_or c (counter_at l (next m.pipes s.pipe.0)) 0) 0) _ _ spoiled (finished-accepted 18)

    with_other : (s : Slot) (x : X) → Not18 (finish_with S m l s x)
    unfolding finish_with
    with_other s x =
        let i : ℕ = counter_at (next m.lines l) s.pipe.0 in
        either (is_serial m s.pipe.0) _ _
        (either (eqb (get_or m.counters i 0) 0) _ _ spoiled (settle_other s (fall m.counters i) x))
        (settle_other s m.counters x)

    told_other : (s : Slot) (o : Released X) → Not18 (finish_first S m l s o)
    unfolding finish_first
    told_other s Broken = spoiled
    told_other s (Passed x) = with_other s x

    finish_other : Not18 (finish S m l)
    unfolding finish
    finish_other =
        let s : Slot = slot_of m l in
        either (eqb s.pipe.0 0) _ _ (told_other s (S.release s.token.0 m.source)) (with_other s m.source)

    move_other : Not18 (move S m w l)
    unfolding move
    move_other =
        either (slot_of m l).running _ _
        (either (eqb (slot_of m l).worker.0 w) _ _ finish_other (refused_with_lem m 26 (omega arith)))
        (either (eqb (counter_of m l (slot_of m l).pipe.0) 0) _ _
        (either (at_work m.slots w m.lines) _ _ (refused_with_lem m 13 (omega arith)) start_other)
        (refused_with_lem m 12 (omega arith)))

    -- the choice
    pub never_18 : Not18 (choose S m w l)
    unfolding choose
    never_18 =
        either (sound S m) _ _
        (either (ltb l m.lines) _ _
        (either (ltb w m.workers) _ _
        (either (ended m) _ _ (refused_with_lem m 11 (omega arith)) move_other)
        (refused_with_lem m 26 (omega arith)))
        (refused_with_lem m 10 (omega arith)))
        spoiled
