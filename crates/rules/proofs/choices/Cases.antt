-- The cases of a choice, one after the other, in any machine whose numbers are in range.
use mathlib.Core.Path.{◌≡◌}
use mathlib.Core.Bool.{true, false}
use Prim.Native.Nat.{ℕ, ◌≤◌, ◌<◌}
use borrow.Author.Tests.{lt-ltb, le-ltb, eq-eqb, ne_eqb}
use Rattle.rules.specs.RunState.{Machine, slot_of, counter_of}
use Rattle.rules.specs.Sources.{Source}
use Rattle.rules.specs.Ranges.{sound}
use Rattle.rules.specs.Choices.{refuse, ended, at_work, start, finish, move, choose}
use Rattle.rules.proofs.lists.Tests.{pos_eqb}

module _ {X : Type 0} (S : Source X) (m : Machine X) (w l : ℕ) (ok : sound S m ≡ true) where
  pub far : m.lines ≤ l → choose S m w l ≡ refuse m 10
  unfolding choose
  far h = rw (ok, le-ltb l m.lines h)

  pub unknown : l < m.lines → m.workers ≤ w → choose S m w l ≡ refuse m 26
  unfolding choose
  unknown h d = rw (ok, lt-ltb l m.lines h, le-ltb w m.workers d)

  pub over : l < m.lines → w < m.workers → ended m ≡ true → choose S m w l ≡ refuse m 11
  unfolding choose
  over h d e = rw (ok, lt-ltb l m.lines h, lt-ltb w m.workers d, e)

  module _ (h : l < m.lines) (d : w < m.workers) (e : ended m ≡ false) where
    module _ (r : (slot_of m l).running ≡ true) where
      -- a running line finishes, by its worker
      pub running_choice : (slot_of m l).worker.0 ≡ w → choose S m w l ≡ finish S m l
      unfolding choose move
      running_choice o = rw (ok, lt-ltb l m.lines h, lt-ltb w m.workers d, e, r, eq-eqb (slot_of m l).worker.0 w o)

      pub another : ((slot_of m l).worker.0 ≡ w → ⊥) → choose S m w l ≡ refuse m 26
      unfolding choose move
      another o = rw (ok, lt-ltb l m.lines h, lt-ltb w m.workers d, e, r, ne_eqb (slot_of m l).worker.0 w o)

    module _ (r : (slot_of m l).running ≡ false) where
      pub early : 0 < counter_of m l (slot_of m l).pipe.0 → choose S m w l ≡ refuse m 12
      unfolding choose move
      early c = rw (ok, lt-ltb l m.lines h, lt-ltb w m.workers d, e, r, pos_eqb c)

      module _ (c : counter_of m l (slot_of m l).pipe.0 ≡ 0) where
        pub occupied : at_work m.slots w m.lines ≡ true → choose S m w l ≡ refuse m 13
        unfolding choose move
        occupied o = rw (ok, lt-ltb l m.lines h, lt-ltb w m.workers d, e, r, c, o)

        -- a waiting line starts, by an idle worker
        pub waiting_choice : at_work m.slots w m.lines ≡ false → choose S m w l ≡ start S m w l
        unfolding choose move
        waiting_choice o = rw (ok, lt-ltb l m.lines h, lt-ltb w m.workers d, e, r, c, o)
